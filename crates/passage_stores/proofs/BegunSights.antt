-- At the beginning of the parser and of the four controls that run, a store that fits the program fits what is in sight.
use Rattle.std.proofs.Common.{◌≡◌, ℕ, List, [], ◌∷◌, Bool, true, false, cond, not, codes, Option, Some, None, refl, sym, ap, ◌∙◌, subst}
use Rattle.lex_text.specs.Names.{same_text}
use Rattle.rule_tests.specs.Tests.{IsFine}
use Rattle.p4_tree.specs.Tree.{Control, Parser, Top, constant, typedef, header_type, struct_type, register, parser, control, Program}
use Rattle.p4_tree.specs.declared.statement.PTy.{PTy}
use Rattle.p4_tree.specs.declared.statement.PTy.TheVariants as type
use Rattle.p4_tree.specs.declared.program.Way.{Way}
use Rattle.p4_tree.specs.declared.program.Way.TheVariants as way
use Rattle.p4_tree.specs.declared.program.Param.{Param}
use Rattle.bit_values.specs.Bits.{Word}
use Rattle.p4_meaning.specs.Standard.{headers_root, metadata_root, standard_root}
use Rattle.p4_meaning.specs.Store.{Store}
use Rattle.p4_meaning.specs.Scope as meaning
use Rattle.p4_meaning.specs.Scope.{Roots, roots_of, Inner, root_of, is_inner, inner_name, constant_named, constant_at, first_name, path_under}
use Rattle.p4_meaning.specs.Under as under
use Rattle.p4_meaning.specs.Under.{no_scope, in_parser, behind_top, behind_tops}
use Rattle.p4_meaning.specs.Parts.{Parts, struct_fields, parser_type, parser_in, parts_of}
use Rattle.p4_meaning.specs.Laws.{IsOf}
use Rattle.p4_scopes.specs.Scopes.{Stands, is_missing, value_kind, thing_kind, as_typed, as_held, type_at, thing_in, Scope, value, declare, core_name, core}
use Rattle.p4_scopes.specs.Uses.{is_scalar, is_header, reads}
use Rattle.p4_scopes.specs.declared.thing.Thing.{Thing}
use Rattle.p4_scopes.specs.declared.thing.Thing.TheVariants.{Scalar, Header, Struct, Standard, PacketIn, PacketOut}
use Rattle.p4_scopes.specs.declared.thing.Access.{Access}
use Rattle.p4_declaration_rules.specs.Parsers.{way_access, with_ways, ways_tests, with_ends, in_states}
use Rattle.p4_declaration_rules.specs.Controls.{after_top, tops_tests, after_tops}
use Rattle.p4_rules.specs.Mains.{headers, metadata, core_type, standard_wanted, checksum_wants, apply_wants, parser_wants, is_named, all_fields, is_struct, Structs, structs_of, is_wanted, wanted_tests}
use Rattle.p4_rules.specs.ProgramRules.{IsWellTyped}
use Rattle.p4_typing_laws.specs.Soundness.{kind_width}
use Rattle.p4_typing_laws.specs.Plain.{HavePlainNames, HavePlainValues}
use Rattle.p4_typing_laws.specs.Tied.{IsTied, HasIt, ConstantIs, TopsPlaces}
use Rattle.p4_typing_laws.specs.Stores.{Fits}
use Rattle.p4_typing_laws.proofs.Fine.{twice_not, typed_fine}
use Rattle.p4_typing_laws.proofs.CallCounts.{text_is, text_same}
use Rattle.p4_typing_laws.proofs.FullNames.{other_text}
use Rattle.p4_typing_laws.proofs.CountedNames.{was_missing}
use Rattle.p4_typing_laws.proofs.TiedPlaces.{each_tied}
use Rattle.p4_typing_laws.proofs.KnownScopes.{Known, core_known, known_top}
use Rattle.passage_stores.specs.FitStores.{IsFit}
use Rattle.passage_stores.proofs.DeclaredTypes.{broken, all_stays, AreTypes, AreScalars, StructAt, HeaderAt, thing_at, struct_found, header_found}
use Rattle.passage_stores.proofs.SightFits.{and_parts, typed_field, fields_read, headers_read, core_reads, packet_behind, ends_fit, states_fit, TypesGoOn, ParamFits, ParamsFit, params_fit}
use Rattle.passage_stores.proofs.Fronts.{ReadsConstants, IsFront}

-- ---- in front of a parser or control constants alone are read

no_constant : (t : Thing) (o : Option Word) → ConstantIs (thing_kind t) o → o ≡ None → ⊥
no_constant t None h e = h
no_constant t (Some w) h e = absurd (cc)

-- sd has the constants of sc in sight
pub front_fits : (pt : Parts) (s : Scope) (sc sd : meaning.Scope) → IsTied pt s sc → ReadsConstants s → ((x : List ℕ) → constant_at sd (x ∷ []) ≡ constant_at sc (x ∷ [])) → (st : Store) → st.headers [] ≡ None → Fits s sd st
front_fits pt s sc sd tied reads_constants same st plain = record { values = λ x h r c. absurd (none x h r c); headers = plain }
  where
    none : (x : List (List ℕ)) → is_missing (s x) ≡ false → reads (s x) ≡ true → constant_at sd x ≡ None → ⊥
    none [] h r c = broken (sym reads_constants.none ∙ h)
    none (x ∷ []) h r c =
        (let k = reads_constants.names x h r in
        no_constant k.0 (constant_at sc (x ∷ [])) (subst (HasIt pt sc x) k.1 (tied.names x)) (sym (same x) ∙ c))
    none (x ∷ y ∷ rest) h r c = reads_constants.inner x y rest h r

-- ---- roots

root_first : (r : Roots) (x : List ℕ) → r.headers ≡ x → root_of r x ≡ headers_root
root_first r x e = ap (λ (b : Bool). cond b headers_root (cond (same_text r.metadata x) metadata_root (cond (same_text r.standard x) standard_root x))) (text_same r.headers x e)

root_second : (r : Roots) (x : List ℕ) → (r.headers ≡ x → ⊥) → r.metadata ≡ x → root_of r x ≡ metadata_root
root_second r x h e =
    ap (λ (b : Bool). cond b headers_root (cond (same_text r.metadata x) metadata_root (cond (same_text r.standard x) standard_root x))) (other_text r.headers x h)
    ∙ ap (λ (b : Bool). cond b metadata_root (cond (same_text r.standard x) standard_root x)) (text_same r.metadata x e)

root_third : (r : Roots) (x : List ℕ) → (r.headers ≡ x → ⊥) → (r.metadata ≡ x → ⊥) → r.standard ≡ x → root_of r x ≡ standard_root
root_third r x h m e =
    ap (λ (b : Bool). cond b headers_root (cond (same_text r.metadata x) metadata_root (cond (same_text r.standard x) standard_root x))) (other_text r.headers x h)
    ∙ ap (λ (b : Bool). cond b metadata_root (cond (same_text r.standard x) standard_root x)) (other_text r.metadata x m)
    ∙ ap (λ (b : Bool). cond b standard_root x) (text_same r.standard x e)

outer_name : (sd : meaning.Scope) → sd.inner ≡ None → (x : List ℕ) → first_name sd x ≡ root_of sd.roots x
outer_name sd e x = ap (λ (i : Option Inner). cond (is_inner i x) (inner_name i sd.control x) (root_of sd.roots x)) e

-- ---- behind all declarations

if_no : (fits : Thing → Bool) (b : Bool) (u v : Stands) → fits (thing_at u) ≡ false → fits (thing_at v) ≡ false → fits (thing_at (cond b u v)) ≡ false
if_no fits true u v h k = h
if_no fits false u v h k = k

-- no name of the architecture's own stands for a struct or a header
core_no_struct : (x : List ℕ) → is_struct (thing_at (core_name x)) ≡ false
core_no_struct x =
    if_no is_struct (same_text x (codes "standard_metadata_t")) _ _ refl
    (if_no is_struct (same_text x (codes "packet_in")) _ _ refl
    (if_no is_struct (same_text x (codes "packet_out")) _ _ refl
    (if_no is_struct (same_text x (codes "NoAction")) _ _ refl
    (if_no is_struct (same_text x (codes "mark_to_drop")) _ _ refl
    (if_no is_struct (same_text x (codes "digest")) _ _ refl
    (if_no is_struct (same_text x (codes "verify_checksum")) _ _ refl
    (if_no is_struct (same_text x (codes "update_checksum")) _ _ refl
    (if_no is_struct (same_text x (codes "HashAlgorithm")) _ _ refl refl))))))))

pub core_no_header : (x : List ℕ) → is_header (thing_at (core_name x)) ≡ false
core_no_header x =
    if_no is_header (same_text x (codes "standard_metadata_t")) _ _ refl
    (if_no is_header (same_text x (codes "packet_in")) _ _ refl
    (if_no is_header (same_text x (codes "packet_out")) _ _ refl
    (if_no is_header (same_text x (codes "NoAction")) _ _ refl
    (if_no is_header (same_text x (codes "mark_to_drop")) _ _ refl
    (if_no is_header (same_text x (codes "digest")) _ _ refl
    (if_no is_header (same_text x (codes "verify_checksum")) _ _ refl
    (if_no is_header (same_text x (codes "update_checksum")) _ _ refl
    (if_no is_header (same_text x (codes "HashAlgorithm")) _ _ refl refl))))))))

end_tied : (P : Scope → meaning.Scope → Type 0) (ts : List Top) (s : Scope) (sc : meaning.Scope) → TopsPlaces P s sc ts → P (after_tops s ts) (behind_tops sc ts)
end_tied P [] s sc h = h
end_tied P (t ∷ ts) s sc h = end_tied P ts (after_top s t) (behind_top sc t) h.1

end_known : (main : List (List ℕ)) (ts : List Top) (s : Scope) → Known s → HavePlainValues ts → IsFine (tops_tests main s ts) → Known (after_tops s ts)
end_known main [] s k v f = k
end_known main (constant p t x e ∷ ts) s k v f = end_known main ts _ (known_top main s k (constant p t x e) v.0 f.0) v.1 f.1
end_known main (typedef p t x ∷ ts) s k v f = end_known main ts _ (known_top main s k (typedef p t x) tt f.0) v f.1
end_known main (header_type p x fs ∷ ts) s k v f = end_known main ts _ (known_top main s k (header_type p x fs) tt f.0) v f.1
end_known main (struct_type p x fs ∷ ts) s k v f = end_known main ts _ (known_top main s k (struct_type p x fs) tt f.0) v f.1
end_known main (register p r ∷ ts) s k v f = end_known main ts _ (known_top main s k (register p r) tt f.0) v.1 f.1
end_known main (parser p d ∷ ts) s k v f = end_known main ts _ (known_top main s k (parser p d) tt f.0) v f.1
end_known main (control p c ∷ ts) s k v f = end_known main ts _ (known_top main s k (control p c) tt f.0) v.1 f.1

-- S: behind all declarations of a program
pub record IsEnd (p : Program) (S : Scope) : Type 0 where
  pub tied : IsTied (parts_of p) S (behind_tops no_scope p.tops)
  pub known : Known S
  pub structs : (x : List ℕ) → is_struct (thing_at (S (x ∷ []))) ≡ true → StructAt S p.tops x
  pub headers : (x : List ℕ) → is_header (thing_at (S (x ∷ []))) ≡ true → HeaderAt S p.tops x
  pub core : (x : List ℕ) (xs : List (List ℕ)) → is_missing (core_name x) ≡ false → S (x ∷ xs) ≡ core (x ∷ xs)

pub core_is : (x : List ℕ) → core (x ∷ []) ≡ core_name x
unfolding core
core_is x = refl

pub the_end : (p : Program) → IsWellTyped p → HavePlainNames p.tops → HavePlainValues p.tops → IsEnd p (after_tops core p.tops)
the_end p well names values =
    record {
      tied = end_tied (IsTied (parts_of p)) p.tops core no_scope (each_tied p well names);
      known = end_known p.main p.tops core core_known values fine;
      structs = λ x h. struct_found p.main p.tops core fine x (new is_struct x (core_no_struct x) h) h;
      headers = λ x h. header_found p.main p.tops core fine x (new is_header x (core_no_header x) h) h;
      core = λ x xs h. all_stays p.main p.tops core fine x xs (ap is_missing (core_is x) ∙ h);
    }
  where
    fine : IsFine (tops_tests p.main core p.tops)
    fine = (typed_fine p well).0

    new : (fits : Thing → Bool) (x : List ℕ) → fits (thing_at (core_name x)) ≡ false → fits (thing_at (after_tops core p.tops (x ∷ []))) ≡ true → is_missing (core (x ∷ [])) ≡ true
    new fits x h k = go (is_missing (core (x ∷ []))) refl
      where
        go : (b : Bool) → is_missing (core (x ∷ [])) ≡ b → b ≡ true
        go true e = refl
        go false e = (let same = all_stays p.main p.tops core fine x [] e ∙ core_is x in broken (sym k ∙ ap (λ (v : Stands). fits (thing_at v)) same ∙ h))

-- ---- parameters

pub named_type : (t : PTy) (x : List ℕ) → is_named t x ≡ true → t ≡ type.Named x
named_type (type.Bit w) x h = broken (sym h)
named_type type.Bool x h = broken (sym h)
named_type (type.Named y) x h = ap type.Named (text_is y x h)

struct_unread : (t : Thing) → is_struct t ≡ true → is_scalar t ≡ false
struct_unread (Scalar k) h = broken (sym h)
struct_unread (Header n) h = broken (sym h)
struct_unread Struct h = refl
struct_unread Standard h = broken (sym h)
struct_unread PacketIn h = broken (sym h)
struct_unread PacketOut h = broken (sym h)

-- sd: at the beginning of a parser or control
module _ (p : Program) (S : Scope) (end : IsEnd p S) (sd : meaning.Scope) (st : Store) (fit : IsFit (parts_of p) st) where
  abbrev R : Structs
  R = structs_of S p

  -- what is read behind a type of a name
  abbrev ReadsBehind : List ℕ → Stands → List (List ℕ) → Type 0
  ReadsBehind n u xs = (a : Access) → is_missing (as_held a u) ≡ false → reads (as_held a u) ≡ true → IsOf (kind_width (value_kind (as_held a u))) (st.values (n ∷ xs))

  param_of : (q : Param) (n x : List ℕ) → q.ty ≡ type.Named x → is_scalar (thing_at (S (x ∷ []))) ≡ false → first_name sd q.name ≡ n → ((y : List ℕ) (rest : List (List ℕ)) → ReadsBehind n (as_typed (S (x ∷ y ∷ rest))) (y ∷ rest)) → ParamFits S sd st q
  param_of q n x e whole root h =
      record {
        whole = ap (λ (t : PTy). is_scalar (thing_in S t)) e ∙ whole;
        reads = λ a y rest i j. subst (λ (m : List ℕ). ReadsBehind m (type_at S q.ty (y ∷ rest)) (y ∷ rest)) (sym root) (subst (λ (t : PTy). ReadsBehind n (type_at S t (y ∷ rest)) (y ∷ rest)) (sym e) (h y rest)) a i j;
      }

  headers_param : (w : Way) (q : Param) → is_wanted R (headers w) q ≡ true → first_name sd q.name ≡ headers_root → ParamFits S sd st q
  headers_param w q h root =
      (let k = and_parts _ _ (and_parts _ _ h).1 in
      let x = parser_type (parser_in p) 1 in
      let j = and_parts (is_struct (thing_in S (type.Named x))) (all_fields is_header S (struct_fields p.tops x)) k.1 in
      let at = end.structs x j.0 in
      param_of q headers_root x (named_type q.ty x k.0) (struct_unread (thing_at (S (x ∷ []))) j.0) root
      (λ y rest. subst (λ (u : Stands). ReadsBehind headers_root u (y ∷ rest)) (sym (ap as_typed (at.paths y rest) ∙ typed_field S (struct_fields p.tops x) y rest))
      (λ a. headers_read (parts_of p) S (behind_tops no_scope p.tops) end.tied end.known.sound end.known.flat a st p.tops refl end.headers (struct_fields p.tops x) j.1 fit.headers y rest)))

  -- each is a type of single values
  scalar_types : (fs : List (PTy × List ℕ)) → all_fields is_scalar S fs ≡ true → AreTypes S fs → AreScalars S fs
  scalar_types [] h t = tt
  scalar_types (f ∷ fs) h t = (let k = and_parts (is_scalar (thing_in S f.0)) (all_fields is_scalar S fs) h in ((t.0, ap not k.0), scalar_types fs k.1 t.1))

  metadata_param : (w : Way) (q : Param) → is_wanted R (metadata w) q ≡ true → first_name sd q.name ≡ metadata_root → ParamFits S sd st q
  metadata_param w q h root =
      (let k = and_parts _ _ (and_parts _ _ h).1 in
      let x = parser_type (parser_in p) 2 in
      let j = and_parts (is_struct (thing_in S (type.Named x))) (all_fields is_scalar S (struct_fields p.tops x)) k.1 in
      let at = end.structs x j.0 in
      param_of q metadata_root x (named_type q.ty x k.0) (struct_unread (thing_at (S (x ∷ []))) j.0) root
      (λ y rest. subst (λ (u : Stands). ReadsBehind metadata_root u (y ∷ rest)) (sym (ap as_typed (at.paths y rest) ∙ typed_field S (struct_fields p.tops x) y rest))
      (λ a. fields_read (parts_of p) S (behind_tops no_scope p.tops) end.tied end.known.sound end.known.flat a st (metadata_root ∷ []) (struct_fields p.tops x) (scalar_types (struct_fields p.tops x) j.1 at.all) fit.metadata y rest)))

  core_whole : (x : List ℕ) → is_missing (core_name x) ≡ false → is_scalar (thing_at (core_name x)) ≡ false → is_scalar (thing_at (S (x ∷ []))) ≡ false
  core_whole x h k = ap (λ (v : Stands). is_scalar (thing_at v)) (end.core x [] h ∙ core_is x) ∙ k

  standard_param : (q : Param) → is_wanted R standard_wanted q ≡ true → first_name sd q.name ≡ standard_root → ParamFits S sd st q
  standard_param q h root =
      (let k = and_parts _ _ h in
      let x = codes "standard_metadata_t" in
      param_of q standard_root x (named_type q.ty x k.1) (core_whole x refl refl) root
      (λ y rest. subst (λ (u : Stands). ReadsBehind standard_root (as_typed u) (y ∷ rest)) (sym (end.core x (y ∷ rest) refl)) (λ a. core_reads a st fit.standard y rest)))

  packet_param : (q : Param) → is_wanted R (core_type way.Plain (codes "packet_in")) q ≡ true → ParamFits S sd st q
  packet_param q h =
      (let k = and_parts _ _ h in
      let x = codes "packet_in" in
      param_of q (first_name sd q.name) x (named_type q.ty x k.1) (core_whole x refl refl) refl
      (λ y rest. subst (λ (u : Stands). ReadsBehind (first_name sd q.name) (as_typed u) (y ∷ rest)) (sym (end.core x (y ∷ rest) refl)) (λ a i j. broken (sym (packet_behind a y rest) ∙ i))))

  -- ---- all parameters of a parser or control

  module _ (outer : sd.inner ≡ None) (s : Scope) (at : ℕ) where
    named : (r : Roots) (x n : List ℕ) → sd.roots ≡ r → root_of r x ≡ n → first_name sd x ≡ n
    named r x n e h = outer_name sd outer x ∙ ap (λ (q : Roots). root_of q x) e ∙ h

    apart_of : (t : Scope) (n x : List ℕ) (a : Access) (u : PTy) → not (is_missing (declare t n (value a u) (x ∷ []))) ≡ false → (n ≡ x → ⊥) × (is_missing (t (x ∷ [])) ≡ true)
    apart_of t n x a u h = (let w = was_missing t n (value a u) refl x (twice_not _ h) in (w.apart, w.before))

    pub apply_params : (qs : List Param) → IsFine (wanted_tests at R apply_wants qs) → IsFine (ways_tests s qs) → sd.roots ≡ roots_of qs 0 1 2 → ParamsFit S sd st qs
    apply_params [] w f e = broken w
    apply_params (a ∷ []) w f e = broken w.1
    apply_params (a ∷ b ∷ []) w f e = broken w.1.1
    apply_params (a ∷ b ∷ c ∷ []) w f e =
        (let r = roots_of (a ∷ b ∷ c ∷ []) 0 1 2 in
        let t = declare s a.name (value (way_access a.way) a.ty) in
        let ab = apart_of s a.name b.name (way_access a.way) a.ty f.1.0.0 in
        let bc = apart_of t b.name c.name (way_access b.way) b.ty f.1.1.0.0 in
        let ac = was_missing s a.name (value (way_access a.way) a.ty) refl c.name bc.1 in (
          headers_param way.Both a (twice_not _ w.0) (named r a.name headers_root e (root_first r a.name refl)),
          (
            metadata_param way.Both b (twice_not _ w.1.0) (named r b.name metadata_root e (root_second r b.name ab.0 refl)),
            (standard_param c (twice_not _ w.1.1.0) (named r c.name standard_root e (root_third r c.name ac.apart bc.0 refl)), tt),
          ),
        ))
    apply_params (a ∷ b ∷ c ∷ d ∷ rest) w f e = broken w.1.1.1.0

    pub checksum_params : (qs : List Param) → IsFine (wanted_tests at R checksum_wants qs) → IsFine (ways_tests s qs) → sd.roots ≡ roots_of qs 0 1 9 → ParamsFit S sd st qs
    checksum_params [] w f e = broken w
    checksum_params (a ∷ []) w f e = broken w.1
    checksum_params (a ∷ b ∷ []) w f e =
        (let r = roots_of (a ∷ b ∷ []) 0 1 9 in
        let ab = apart_of s a.name b.name (way_access a.way) a.ty f.1.0.0 in (
          headers_param way.Both a (twice_not _ w.0) (named r a.name headers_root e (root_first r a.name refl)),
          (metadata_param way.Both b (twice_not _ w.1.0) (named r b.name metadata_root e (root_second r b.name ab.0 refl)), tt),
        ))
    checksum_params (a ∷ b ∷ c ∷ rest) w f e = broken w.1.1.0

    pub parser_params_fit : (qs : List Param) → IsFine (wanted_tests at R parser_wants qs) → IsFine (ways_tests s qs) → sd.roots ≡ roots_of qs 1 2 3 → ParamsFit S sd st qs
    parser_params_fit [] w f e = broken w
    parser_params_fit (k ∷ []) w f e = broken w.1
    parser_params_fit (k ∷ a ∷ []) w f e = broken w.1.1
    parser_params_fit (k ∷ a ∷ b ∷ []) w f e = broken w.1.1.1
    parser_params_fit (k ∷ a ∷ b ∷ c ∷ []) w f e =
        (let r = roots_of (k ∷ a ∷ b ∷ c ∷ []) 1 2 3 in
        let z = declare s k.name (value (way_access k.way) k.ty) in
        let t = declare z a.name (value (way_access a.way) a.ty) in
        let ab = apart_of z a.name b.name (way_access a.way) a.ty f.1.1.0.0 in
        let bc = apart_of t b.name c.name (way_access b.way) b.ty f.1.1.1.0.0 in
        let ac = was_missing z a.name (value (way_access a.way) a.ty) refl c.name bc.1 in (
          packet_param k (twice_not _ w.0),
          (
            headers_param way.Out a (twice_not _ w.1.0) (named r a.name headers_root e (root_first r a.name refl)),
            (
              metadata_param way.Both b (twice_not _ w.1.1.0) (named r b.name metadata_root e (root_second r b.name ab.0 refl)),
              (standard_param c (twice_not _ w.1.1.1.0) (named r c.name standard_root e (root_third r c.name ac.apart bc.0 refl)), tt),
            ),
          ),
        ))
    parser_params_fit (k ∷ a ∷ b ∷ c ∷ d ∷ rest) w f e = broken w.1.1.1.1.0

-- ---- where a parser or a control begins

module _ (p : Program) (S : Scope) (end : IsEnd p S) (s : Scope) (sc : meaning.Scope) (front : IsFront (parts_of p) p.main S s sc) (st : Store) (fit : IsFit (parts_of p) st) where
  -- what stands in front stands at the end
  go_on : TypesGoOn S s
  go_on q x xs f = front.stays x xs f.0

  pub apply_begins : (at : ℕ) (c : Control) → IsFine (wanted_tests at (structs_of S p) apply_wants c.params) → IsFine (ways_tests s c.params) → Fits (with_ways s c.params) (under.in_control 0 1 2 sc c) st
  apply_begins at c w f =
      params_fit S (under.in_control 0 1 2 sc c) st c.params s go_on f (apply_params p S end (under.in_control 0 1 2 sc c) st fit front.outer s at c.params w f refl)
      (front_fits (parts_of p) s sc (under.in_control 0 1 2 sc c) front.tied front.constants (λ x. refl) st fit.plain)

  pub checksum_begins : (at : ℕ) (c : Control) → IsFine (wanted_tests at (structs_of S p) checksum_wants c.params) → IsFine (ways_tests s c.params) → Fits (with_ways s c.params) (under.in_control 0 1 9 sc c) st
  checksum_begins at c w f =
      params_fit S (under.in_control 0 1 9 sc c) st c.params s go_on f (checksum_params p S end (under.in_control 0 1 9 sc c) st fit front.outer s at c.params w f refl)
      (front_fits (parts_of p) s sc (under.in_control 0 1 9 sc c) front.tied front.constants (λ x. refl) st fit.plain)

  pub parser_begins : (at : ℕ) (d : Parser) → IsFine (wanted_tests at (structs_of S p) parser_wants d.params) → IsFine (ways_tests s d.params) → Fits (in_states s d) (in_parser sc d) st
  parser_begins at d w f =
      states_fit d.states (with_ends (with_ways s d.params)) (in_parser sc d) st
      (ends_fit (with_ways s d.params) (in_parser sc d) st
      (params_fit S (in_parser sc d) st d.params s go_on f (parser_params_fit p S end (in_parser sc d) st fit front.outer s at d.params w f refl)
      (front_fits (parts_of p) s sc (in_parser sc d) front.tied front.constants (λ x. refl) st fit.plain)))

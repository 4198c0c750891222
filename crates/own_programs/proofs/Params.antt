-- Behind the parameters of parsers and controls: headers stand behind the one that is of the struct of headers, and what
-- else has fields is of the struct of metadata or is the standard metadata.
use Rattle.std.proofs.Common.{◌≡◌, ◌⊎◌, inl, inr, ℕ, List, [], ◌∷◌, Bool, true, false, cond, not, ◌&&◌, ◌||◌, codes, Option, None, refl, sym, ap, ◌∙◌, subst}
use Rattle.lex_text.specs.Names.{same_text}
use Rattle.rule_tests.specs.Tests.{IsFine}
use Rattle.p4_tree.specs.Tree.{ParserState}
use Rattle.p4_tree.specs.declared.statement.PTy.{PTy}
use Rattle.p4_tree.specs.declared.statement.PTy.TheVariants as type
use Rattle.p4_tree.specs.declared.program.Param.{Param}
use Rattle.p4_meaning.specs.Standard.{headers_root, metadata_root, standard_root}
use Rattle.p4_meaning.specs.Scope as meaning
use Rattle.p4_meaning.specs.Scope.{Inner, Roots, roots_of, root_of, is_inner, inner_name, first_name}
use Rattle.p4_scopes.specs.Scopes.{Stands, missing, typed, is_missing, typed_thing, as_held, as_typed, type_at, thing_in, Scope, value, parser_state, behind, declare, standard_at, core}
use Rattle.p4_scopes.specs.Uses.{is_header}
use Rattle.p4_scopes.specs.declared.kind.Kind.TheVariants.{Number, Error}
use Rattle.p4_scopes.specs.declared.thing.Thing.TheVariants.{Scalar, Header, Struct, Standard, PacketIn, PacketOut}
use Rattle.p4_scopes.specs.declared.thing.Access.{Access}
use Rattle.p4_declaration_rules.specs.Parsers.{way_access, with_ways, ways_tests, with_state, with_ends, with_states}
use Rattle.p4_rules.specs.Mains.{core_type, headers as headers_wanted, metadata as metadata_wanted, parser_wants, checksum_wants, apply_wants, deparser_wants, is_named, is_struct, same_way, Structs, is_wanted, wanted_tests}
use Rattle.p4_tree.specs.declared.program.Way.{Way}
use Rattle.p4_tree.specs.declared.program.Way.TheVariants.{Plain, Into, Out, Both}
use Rattle.p4_rule_laws.specs.Kept.{Keeps, IsRooted}
use Rattle.p4_rule_laws.proofs.KeepsLemmas.{keeps_trans, declare_keeps}
use Rattle.p4_rule_laws.proofs.KeptFine.{declare_rooted}
use Rattle.p4_typing_laws.specs.Along.{IsFlat}
use Rattle.p4_typing_laws.proofs.Fine.{twice_not}
use Rattle.p4_typing_laws.proofs.CallCounts.{text_is, text_same}
use Rattle.p4_typing_laws.proofs.HiddenParams.{GoesOn}
use Rattle.p4_typing_laws.proofs.KnownScopes.{flat_declare}
use Rattle.own_programs.proofs.Names.{broken}
use Rattle.own_programs.proofs.Places.{is_held, is_held_header, missing_unheld, unheld_header, IsStandardField, IsHeaderPath, IsPlace, place_declared}
use Rattle.own_programs.proofs.Fields.{is_header_type, Types, core_no_header}

-- ---- fields of the standard metadata

standard_field : (a : Access) (y : List ℕ) → is_held (as_held a (as_typed (standard_at y))) ≡ true → IsStandardField y (as_held a (as_typed (standard_at y)))
standard_field a y = go (same_text y (codes "egress_spec")) (same_text y (codes "ingress_port") || same_text y (codes "egress_port")) (same_text y (codes "packet_length")) (same_text y (codes "checksum_error")) (same_text y (codes "parser_error")) refl
  where
    go : (i j k l m : Bool) → same_text y (codes "egress_spec") ≡ i
        → is_held (as_held a (as_typed (cond i (typed false (Scalar (Number 9))) (cond j (typed true (Scalar (Number 9))) (cond k (typed true (Scalar (Number 32))) (cond l (typed true (Scalar (Number 1))) (cond m (typed true (Scalar Error)) missing))))))) ≡ true
        → IsStandardField y (as_held a (as_typed (cond i (typed false (Scalar (Number 9))) (cond j (typed true (Scalar (Number 9))) (cond k (typed true (Scalar (Number 32))) (cond l (typed true (Scalar (Number 1))) (cond m (typed true (Scalar Error)) missing)))))))
    go true j k l m e h = record { spec = λ w. text_is y (codes "egress_spec") e; narrow = λ w d. broken w }
    go false true k l m e h = record { spec = λ w. broken (sym w); narrow = λ w d. broken w }
    go false false true l m e h = record { spec = λ w. broken (sym w); narrow = λ w d. broken w }
    go false false false true m e h = record { spec = λ w. broken (sym w); narrow = λ w d. broken w }
    go false false false false true e h = record { spec = λ w. broken (sym w); narrow = λ w d. broken d }
    go false false false false false e h = broken (sym h)

-- ---- parameters one by one

held_no_type : (a : Access) (st : Stands) → is_header_type (as_held a st) ≡ false
held_no_type a (typed f t) = refl
held_no_type a _ = refl

held_header : (a : Access) (st : Stands) → is_held_header (as_held a st) ≡ is_header_type st
held_header a (typed f t) = refl
held_header a _ = refl

no_header_thing : (st : Stands) → is_header_type st ≡ false → is_header (typed_thing (as_typed st)) ≡ false
no_header_thing (typed f t) h = h
no_header_thing _ h = refl

typed_header : (st : Stands) → is_header_type (as_typed st) ≡ is_header_type st
typed_header (typed f t) = refl
typed_header _ = refl

-- a path of two names behind the headers
abbrev pub InHeaders : (h : List ℕ) → List (List ℕ) → Type 0
InHeaders h [] = ⊥
InHeaders h (x ∷ []) = ⊥
InHeaders h (x ∷ y ∷ []) = x ≡ h
InHeaders h (x ∷ y ∷ z ∷ rest) = ⊥

abbrev pub HasField : (h m : List ℕ) → (x y : List ℕ) → Stands → Type 0
HasField h m x y st = (x ≡ h) ⊎ ((x ≡ m) ⊎ IsStandardField y st)

-- H, M: the structs of headers and of metadata; h, m: the names of the parameters of these
module _ (H M h m : List ℕ) where
  pub record Holds (s : Scope) : Type 0 where
    pub rooted : IsRooted s
    pub keeps : Keeps core s
    pub flat : IsFlat s
    pub deep : (t x y : List ℕ) (ys : List (List ℕ)) → is_header_type (s (t ∷ x ∷ y ∷ ys)) ≡ false
    pub fields : (x : List ℕ) → is_header_type (s (M ∷ x ∷ [])) ≡ false
    pub headers_struct : is_header_type (s (H ∷ [])) ≡ false
    pub metadata_struct : is_header_type (s (M ∷ [])) ≡ false
    pub headers : (x : List (List ℕ)) → is_held_header (s x) ≡ true → InHeaders h x
    pub long : (x y : List ℕ) (ys : List (List ℕ)) → is_held (s (x ∷ y ∷ ys)) ≡ true → HasField h m x y (s (x ∷ y ∷ ys))

  holds_declared : (s : Scope) (n : List ℕ) (a : Access) (t : PTy) → Holds s → not (is_missing (s (n ∷ []))) ≡ false → is_header (thing_in s t) ≡ false
      → ((y : List ℕ) (ys : List (List ℕ)) → is_header_type (type_at s t (y ∷ ys)) ≡ true → InHeaders h (n ∷ y ∷ ys))
      → ((y : List ℕ) (ys : List (List ℕ)) → is_held (as_held a (type_at s t (y ∷ ys))) ≡ true → HasField h m n y (as_held a (type_at s t (y ∷ ys)))) → Holds (declare s n (value a t))
  unfolding declare
  holds_declared s n a t b new top below longs =
      record {
        rooted = declare_rooted s b.rooted n (value a t);
        keeps = keeps_trans core s (declare s n (value a t)) b.keeps (declare_keeps s n (value a t) new);
        flat = flat_declare s n (value a t) b.flat (λ e. broken (sym e));
        deep = λ u x y ys. no_type (same_text n u) (x ∷ y ∷ ys) (s (u ∷ x ∷ y ∷ ys)) (b.deep u x y ys);
        fields = λ x. no_type (same_text n M) (x ∷ []) (s (M ∷ x ∷ [])) (b.fields x);
        headers_struct = no_type (same_text n H) [] (s (H ∷ [])) b.headers_struct;
        metadata_struct = no_type (same_text n M) [] (s (M ∷ [])) b.metadata_struct;
        headers = λ x k. at x k;
        long = λ x y ys k. field x y ys (same_text n x) refl k;
      }
    where
      no_type : (c : Bool) (xs : List (List ℕ)) (st : Stands) → is_header_type st ≡ false → is_header_type (cond c (behind s (value a t) xs) st) ≡ false
      no_type true [] st k = refl
      no_type true (x ∷ xs) st k = held_no_type a (type_at s t (x ∷ xs))
      no_type false xs st k = k

      at_name : (x : List ℕ) (xs : List (List ℕ)) (c : Bool) → same_text n x ≡ c → is_held_header (cond c (behind s (value a t) xs) (s (x ∷ xs))) ≡ true → InHeaders h (x ∷ xs)
      at_name x [] true e k = broken (sym k ∙ top)
      at_name x (y ∷ ys) true e k = subst (λ (z : List ℕ). InHeaders h (z ∷ y ∷ ys)) (text_is n x e) (below y ys (sym (held_header a (type_at s t (y ∷ ys))) ∙ k))
      at_name x xs false e k = b.headers (x ∷ xs) k

      at : (x : List (List ℕ)) → is_held_header (declare s n (value a t) x) ≡ true → InHeaders h x
      at [] k = b.headers [] k
      at (x ∷ xs) k = at_name x xs (same_text n x) refl k

      field : (x y : List ℕ) (ys : List (List ℕ)) (c : Bool) → same_text n x ≡ c → is_held (cond c (behind s (value a t) (y ∷ ys)) (s (x ∷ y ∷ ys))) ≡ true → HasField h m x y (cond c (behind s (value a t) (y ∷ ys)) (s (x ∷ y ∷ ys)))
      field x y ys true e k = subst (λ (z : List ℕ). HasField h m z y (as_held a (type_at s t (y ∷ ys)))) (text_is n x e) (longs y ys k)
      field x y ys false e k = b.long x y ys k

  module _ (s : Scope) (b : Holds s) (n : List ℕ) (a : Access) (new : not (is_missing (s (n ∷ []))) ≡ false) where
    pub with_headers : n ≡ h → Holds (declare s n (value a (type.Named H)))
    with_headers e = holds_declared s n a (type.Named H) b new (no_header_thing (s (H ∷ [])) b.headers_struct) (λ y ys k. below y ys k) (λ y ys k. inl e)
      where
        below : (y : List ℕ) (ys : List (List ℕ)) → is_header_type (as_typed (s (H ∷ y ∷ ys))) ≡ true → InHeaders h (n ∷ y ∷ ys)
        below y [] k = e
        below y (z ∷ zs) k = broken (sym k ∙ typed_header (s (H ∷ y ∷ z ∷ zs)) ∙ b.deep H y z zs)

    pub with_metadata : n ≡ m → Holds (declare s n (value a (type.Named M)))
    with_metadata e = holds_declared s n a (type.Named M) b new (no_header_thing (s (M ∷ [])) b.metadata_struct) (λ y ys k. below y ys k) (λ y ys k. inr (inl e))
      where
        below : (y : List ℕ) (ys : List (List ℕ)) → is_header_type (as_typed (s (M ∷ y ∷ ys))) ≡ true → InHeaders h (n ∷ y ∷ ys)
        below y [] k = broken (sym k ∙ typed_header (s (M ∷ y ∷ [])) ∙ b.fields y)
        below y (z ∷ zs) k = broken (sym k ∙ typed_header (s (M ∷ y ∷ z ∷ zs)) ∙ b.deep M y z zs)

    -- a type of the architecture's own: what stands behind it is known
    module _ (x : List ℕ) (there : is_missing (core (x ∷ [])) ≡ false)
        (fits : (y : List ℕ) (ys : List (List ℕ)) → is_held (as_held a (as_typed (core (x ∷ y ∷ ys)))) ≡ true → IsStandardField y (as_held a (as_typed (core (x ∷ y ∷ ys))))) where
      same : (xs : List (List ℕ)) → s (x ∷ xs) ≡ core (x ∷ xs)
      same xs = b.keeps.kept x xs there

      with_core : Holds (declare s n (value a (type.Named x)))
      with_core =
          holds_declared s n a (type.Named x) b new (no_header_thing (s (x ∷ [])) (ap is_header_type (same []) ∙ core_no_header x []))
          (λ y ys k. broken (sym k ∙ typed_header (s (x ∷ y ∷ ys)) ∙ ap is_header_type (same (y ∷ ys)) ∙ core_no_header x (y ∷ ys)))
          (λ y ys k. inr (inr (subst (λ (st : Stands). IsStandardField y (as_held a (as_typed st))) (sym (same (y ∷ ys))) (fits y ys (ap (λ (st : Stands). is_held (as_held a (as_typed st))) (sym (same (y ∷ ys))) ∙ k)))))

    pub with_packet_in : Holds (declare s n (value a (type.Named (codes "packet_in"))))
    unfolding core
    with_packet_in = with_core (codes "packet_in") refl (λ y ys k. fits y ys k)
      where
        fits : (y : List ℕ) (ys : List (List ℕ)) → is_held (as_held a (as_typed (core (codes "packet_in" ∷ y ∷ ys)))) ≡ true → IsStandardField y (as_held a (as_typed (core (codes "packet_in" ∷ y ∷ ys))))
        fits y [] k = broken (sym k)
        fits y (z ∷ zs) k = broken (sym k)

    pub with_packet_out : Holds (declare s n (value a (type.Named (codes "packet_out"))))
    unfolding core
    with_packet_out = with_core (codes "packet_out") refl (λ y ys k. fits y ys k)
      where
        fits : (y : List ℕ) (ys : List (List ℕ)) → is_held (as_held a (as_typed (core (codes "packet_out" ∷ y ∷ ys)))) ≡ true → IsStandardField y (as_held a (as_typed (core (codes "packet_out" ∷ y ∷ ys))))
        fits y [] k = broken (sym k)
        fits y (z ∷ zs) k = broken (sym k)

    pub with_standard : Holds (declare s n (value a (type.Named (codes "standard_metadata_t"))))
    unfolding core
    with_standard = with_core (codes "standard_metadata_t") refl (λ y ys k. fits y ys k)
      where
        fits : (y : List ℕ) (ys : List (List ℕ)) → is_held (as_held a (as_typed (core (codes "standard_metadata_t" ∷ y ∷ ys)))) ≡ true → IsStandardField y (as_held a (as_typed (core (codes "standard_metadata_t" ∷ y ∷ ys))))
        fits y [] k = standard_field a y k
        fits y (z ∷ zs) k = broken (sym k)

  -- ---- behind all parameters

  module _ (s : Scope) (b : Holds s) (sd : meaning.Scope) (outer : sd.inner ≡ None) (h_is : sd.roots.headers ≡ h) (m_is : sd.roots.metadata ≡ m) where
    root_first : (x : List ℕ) → first_name sd x ≡ root_of sd.roots x
    root_first x = ap (λ (o : Option Inner). cond (is_inner o x) (inner_name o sd.control x) (root_of sd.roots x)) outer

    headers_first : (x : List ℕ) → x ≡ h → first_name sd x ≡ headers_root
    headers_first x e = root_first x ∙ ap (λ (c : Bool). cond c headers_root (cond (same_text sd.roots.metadata x) metadata_root (cond (same_text sd.roots.standard x) standard_root x))) (text_same sd.roots.headers x (h_is ∙ sym e))

    metadata_first : (x : List ℕ) → x ≡ m → first_name sd x ≡ standard_root → ⊥
    metadata_first x e k =
        go (same_text sd.roots.headers x)
        (sym (ap (λ (c : Bool). cond (same_text sd.roots.headers x) headers_root (cond c metadata_root (cond (same_text sd.roots.standard x) standard_root x))) (text_same sd.roots.metadata x (m_is ∙ sym e))) ∙ sym (root_first x) ∙ k)
      where
        go : (c : Bool) → cond c headers_root metadata_root ≡ standard_root → ⊥
        go true i = broken (ap (λ (z : List ℕ). same_text headers_root z) i)
        go false i = broken (ap (λ (z : List ℕ). same_text metadata_root z) i)

    header_there : (x : List (List ℕ)) → InHeaders h x → IsHeaderPath sd x
    header_there [] k = k
    header_there (x ∷ []) k = k
    header_there (x ∷ y ∷ []) k = headers_first x k
    header_there (x ∷ y ∷ z ∷ rest) k = k

    by_field : (x y : List ℕ) (st : Stands) → HasField h m x y st → first_name sd x ≡ standard_root → IsStandardField y st
    by_field x y st (inl e) k = broken (ap (λ (z : List ℕ). same_text headers_root z) (sym (headers_first x e) ∙ k))
    by_field x y st (inr (inl e)) k = absurd (metadata_first x e k)
    by_field x y st (inr (inr f)) k = f

    pub place_of : IsPlace s sd
    place_of = record { rooted = b.rooted; keeps = b.keeps; flat = b.flat; headers = λ x k. header_there x (b.headers x k); standard = λ x y ys k e. by_field x y (s (x ∷ y ∷ ys)) (b.long x y ys k) e }

  -- ---- in front of the parameters

  struct_no_header : (st T : Stands) → (is_missing st ≡ false → T ≡ st) → is_struct (typed_thing (as_typed T)) ≡ true → is_header_type st ≡ false
  struct_no_header (typed f (Header n)) T same k = broken (sym k ∙ ap (λ (st : Stands). is_struct (typed_thing (as_typed st))) (same refl))
  struct_no_header (typed f (Scalar i)) T same k = refl
  struct_no_header (typed f Struct) T same k = refl
  struct_no_header (typed f Standard) T same k = refl
  struct_no_header (typed f PacketIn) T same k = refl
  struct_no_header (typed f PacketOut) T same k = refl
  struct_no_header _ T same k = refl

  pub holds_before : (s S : Scope) → Types M s → GoesOn s S → is_struct (thing_in S (type.Named H)) ≡ true → is_struct (thing_in S (type.Named M)) ≡ true → Holds s
  holds_before s S ty on hs ms =
      record {
        rooted = ty.rooted;
        keeps = ty.keeps;
        flat = ty.flat;
        deep = ty.deep;
        fields = ty.metadata;
        headers_struct = struct_no_header (s (H ∷ [])) (S (H ∷ [])) (on.stays H) hs;
        metadata_struct = struct_no_header (s (M ∷ [])) (S (M ∷ [])) (on.stays M) ms;
        headers = λ x k. at x k;
        long = λ x y ys k. broken (sym k ∙ ty.unheld x y ys);
      }
    where
      at : (x : List (List ℕ)) → is_held_header (s x) ≡ true → InHeaders h x
      at [] k = broken (sym k ∙ unheld_header (s []) (missing_unheld (s []) ty.rooted.nowhere))
      at (x ∷ []) k = broken (sym k ∙ ty.no_header x)
      at (x ∷ y ∷ ys) k = broken (sym k ∙ unheld_header (s (x ∷ y ∷ ys)) (ty.unheld x y ys))

-- ---- states, which are no values

place_state : (s : Scope) (sd : meaning.Scope) (n : List ℕ) → IsPlace s sd → IsPlace (with_state s n) sd
place_state s sd n b = by (is_missing (s (n ∷ []))) refl
  where
    by : (i : Bool) → is_missing (s (n ∷ [])) ≡ i → IsPlace (cond i (declare s n parser_state) s) sd
    by true e = place_declared s sd sd n parser_state b (λ y. refl) (ap not e) (record { no_header = refl; alone = λ x xs. refl; flat = λ h. broken (sym h) })
    by false e = b

pub place_ends : (s : Scope) (sd : meaning.Scope) → IsPlace s sd → IsPlace (with_ends s) sd
place_ends s sd b = place_state (with_state s (codes "accept")) sd (codes "reject") (place_state s sd (codes "accept") b)

pub place_states : (sts : List ParserState) (s : Scope) (sd : meaning.Scope) → IsPlace s sd → IsPlace (with_states s sts) sd
place_states [] s sd b = b
place_states (st ∷ sts) s sd b = place_states sts (with_state s st.name) sd (place_state s sd st.name b)

-- ---- what is wanted of parameters

pub both_hold : (a b : Bool) → (a && b) ≡ true → (a ≡ true) × (b ≡ true)
both_hold true b h = (refl, h)
both_hold false b h = broken (sym h)

named_type : (t : PTy) (x : List ℕ) → is_named t x ≡ true → t ≡ type.Named x
named_type (type.Bit w) x h = broken (sym h)
named_type type.Bool x h = broken (sym h)
named_type (type.Named y) x h = ap type.Named (text_is y x h)

module _ (r : Structs) where
  pub core_wanted : (w : Way) (x : List ℕ) (q : Param) → not (is_wanted r (core_type w x) q) ≡ false → q.ty ≡ type.Named x
  core_wanted w x q k = named_type q.ty x (both_hold (same_way w q.way) (is_named q.ty x) (twice_not _ k)).1

  pub of_headers : (w : Way) (q : Param) → not (is_wanted r (headers_wanted w) q) ≡ false → q.ty ≡ type.Named r.headers_type
  of_headers w q k = named_type q.ty r.headers_type (both_hold (is_named q.ty r.headers_type) r.has_headers (both_hold (same_way w q.way) (is_named q.ty r.headers_type && r.has_headers) (twice_not _ k)).1).0

  pub of_metadata : (w : Way) (q : Param) → not (is_wanted r (metadata_wanted w) q) ≡ false → q.ty ≡ type.Named r.metadata_type
  of_metadata w q k = named_type q.ty r.metadata_type (both_hold (is_named q.ty r.metadata_type) r.has_metadata (both_hold (same_way w q.way) (is_named q.ty r.metadata_type && r.has_metadata) (twice_not _ k)).1).0

  -- one parameter of a known type
  typed_as : (h m : List ℕ) (s : Scope) (q : Param) (t : PTy) → q.ty ≡ t → Holds r.headers_type r.metadata_type h m (declare s q.name (value (way_access q.way) t)) → Holds r.headers_type r.metadata_type h m (declare s q.name (value (way_access q.way) q.ty))
  typed_as h m s q t e b = subst (λ (u : PTy). Holds r.headers_type r.metadata_type h m (declare s q.name (value (way_access q.way) u))) (sym e) b

  module _ (at : ℕ) (s : Scope) (before : (h m : List ℕ) → Holds r.headers_type r.metadata_type h m s) where
    abbrev HoldsBehind : (h m : List ℕ) → List Param → Type 0
    HoldsBehind h m qs = Holds r.headers_type r.metadata_type h m (with_ways s qs)

    add_headers : (h m : List ℕ) (u : Scope) (w : Way) (q : Param) → Holds r.headers_type r.metadata_type h m u → not (is_missing (u (q.name ∷ []))) ≡ false → not (is_wanted r (headers_wanted w) q) ≡ false → q.name ≡ h → Holds r.headers_type r.metadata_type h m (declare u q.name (value (way_access q.way) q.ty))
    add_headers h m u w q b new k e = typed_as h m u q _ (of_headers w q k) (with_headers r.headers_type r.metadata_type h m u b q.name (way_access q.way) new e)

    add_metadata : (h m : List ℕ) (u : Scope) (w : Way) (q : Param) → Holds r.headers_type r.metadata_type h m u → not (is_missing (u (q.name ∷ []))) ≡ false → not (is_wanted r (metadata_wanted w) q) ≡ false → q.name ≡ m → Holds r.headers_type r.metadata_type h m (declare u q.name (value (way_access q.way) q.ty))
    add_metadata h m u w q b new k e = typed_as h m u q _ (of_metadata w q k) (with_metadata r.headers_type r.metadata_type h m u b q.name (way_access q.way) new e)

    add_standard : (h m : List ℕ) (u : Scope) (w : Way) (q : Param) → Holds r.headers_type r.metadata_type h m u → not (is_missing (u (q.name ∷ []))) ≡ false → not (is_wanted r (core_type w (codes "standard_metadata_t")) q) ≡ false → Holds r.headers_type r.metadata_type h m (declare u q.name (value (way_access q.way) q.ty))
    add_standard h m u w q b new k = typed_as h m u q _ (core_wanted w (codes "standard_metadata_t") q k) (with_standard r.headers_type r.metadata_type h m u b q.name (way_access q.way) new)

    -- ingress and egress
    pub apply_holds : (sd : meaning.Scope) → sd.inner ≡ None → (qs : List Param) → sd.roots ≡ roots_of qs 0 1 2 → IsFine (wanted_tests at r apply_wants qs) → IsFine (ways_tests s qs) → IsPlace (with_ways s qs) sd
    apply_holds sd outer [] is w f = broken w
    apply_holds sd outer (a ∷ []) is w f = broken w.1
    apply_holds sd outer (a ∷ b ∷ []) is w f = broken w.1.1
    apply_holds sd outer (a ∷ b ∷ c ∷ []) is w f =
        place_of r.headers_type r.metadata_type a.name b.name (with_ways s (a ∷ b ∷ c ∷ []))
        (add_standard a.name b.name _ Both c (add_metadata a.name b.name _ Both b (add_headers a.name b.name s Both a (before a.name b.name) f.0.0 w.0 refl) f.1.0.0 w.1.0 refl) f.1.1.0.0 w.1.1.0)
        sd outer (ap (λ (g : Roots). g.headers) is) (ap (λ (g : Roots). g.metadata) is)
    apply_holds sd outer (a ∷ b ∷ c ∷ d ∷ rest) is w f = broken w.1.1.1.0

    -- verify checksum and compute checksum
    pub checksum_holds : (sd : meaning.Scope) → sd.inner ≡ None → (qs : List Param) → sd.roots ≡ roots_of qs 0 1 9 → IsFine (wanted_tests at r checksum_wants qs) → IsFine (ways_tests s qs) → IsPlace (with_ways s qs) sd
    checksum_holds sd outer [] is w f = broken w
    checksum_holds sd outer (a ∷ []) is w f = broken w.1
    checksum_holds sd outer (a ∷ b ∷ []) is w f =
        place_of r.headers_type r.metadata_type a.name b.name (with_ways s (a ∷ b ∷ []))
        (add_metadata a.name b.name _ Both b (add_headers a.name b.name s Both a (before a.name b.name) f.0.0 w.0 refl) f.1.0.0 w.1.0 refl)
        sd outer (ap (λ (g : Roots). g.headers) is) (ap (λ (g : Roots). g.metadata) is)
    checksum_holds sd outer (a ∷ b ∷ c ∷ rest) is w f = broken w.1.1.0

    -- the deparser
    pub deparser_holds : (sd : meaning.Scope) → sd.inner ≡ None → (qs : List Param) → sd.roots ≡ roots_of qs 1 9 9 → IsFine (wanted_tests at r deparser_wants qs) → IsFine (ways_tests s qs) → IsPlace (with_ways s qs) sd
    deparser_holds sd outer [] is w f = broken w
    deparser_holds sd outer (a ∷ []) is w f = broken w.1
    deparser_holds sd outer (a ∷ b ∷ []) is w f =
        place_of r.headers_type r.metadata_type b.name [] (with_ways s (a ∷ b ∷ []))
        (add_headers b.name [] _ Into b (typed_as b.name [] s a _ (core_wanted Plain (codes "packet_out") a w.0) (with_packet_out r.headers_type r.metadata_type b.name [] s (before b.name []) a.name (way_access a.way) f.0.0)) f.1.0.0 w.1.0 refl)
        sd outer (ap (λ (g : Roots). g.headers) is) (ap (λ (g : Roots). g.metadata) is)
    deparser_holds sd outer (a ∷ b ∷ c ∷ rest) is w f = broken w.1.1.0

    pub parser_holds : (sd : meaning.Scope) → sd.inner ≡ None → (qs : List Param) → sd.roots ≡ roots_of qs 1 2 3 → IsFine (wanted_tests at r parser_wants qs) → IsFine (ways_tests s qs) → IsPlace (with_ways s qs) sd
    parser_holds sd outer [] is w f = broken w
    parser_holds sd outer (a ∷ []) is w f = broken w.1
    parser_holds sd outer (a ∷ b ∷ []) is w f = broken w.1.1
    parser_holds sd outer (a ∷ b ∷ c ∷ []) is w f = broken w.1.1.1
    parser_holds sd outer (a ∷ b ∷ c ∷ d ∷ []) is w f =
        place_of r.headers_type r.metadata_type b.name c.name (with_ways s (a ∷ b ∷ c ∷ d ∷ []))
        (add_standard b.name c.name _ Both d
        (add_metadata b.name c.name _ Both c
        (add_headers b.name c.name _ Out b (typed_as b.name c.name s a _ (core_wanted Plain (codes "packet_in") a w.0) (with_packet_in r.headers_type r.metadata_type b.name c.name s (before b.name c.name) a.name (way_access a.way) f.0.0)) f.1.0.0 w.1.0 refl)
        f.1.1.0.0 w.1.1.0 refl)
        f.1.1.1.0.0 w.1.1.1.0)
        sd outer (ap (λ (g : Roots). g.headers) is) (ap (λ (g : Roots). g.metadata) is)
    parser_holds sd outer (a ∷ b ∷ c ∷ d ∷ e ∷ rest) is w f = broken w.1.1.1.1.0

-- Where a store fits a program, it fits what is in sight at the beginning of a parser or a control: the fields of the
-- headers, of the metadata and of the standard metadata, by their parameters.
use Rattle.std.proofs.Common.{◌≡◌, ℕ, List, [], ◌∷◌, ◌++◌, map, Bool, true, false, cond, not, ◌&&◌, ◌||◌, codes, None, refl, sym, ap, ◌∙◌, subst}
use Rattle.bit_values.specs.Widths.{sound_width}
use Rattle.lex_text.specs.Names.{same_text}
use Rattle.rule_tests.specs.Tests.{IsFine}
use Rattle.p4_tree.specs.Tree.{Top, ParserState}
use Rattle.p4_tree.specs.declared.statement.PTy.{PTy}
use Rattle.p4_tree.specs.declared.statement.PTy.TheVariants as type
use Rattle.p4_tree.specs.declared.program.Param.{Param}
use Rattle.p4_meaning.specs.Standard.{headers_root, standard_root}
use Rattle.p4_meaning.specs.Store.{Store}
use Rattle.p4_meaning.specs.Value.{width_of}
use Rattle.p4_meaning.specs.Scope as meaning
use Rattle.p4_meaning.specs.Scope.{type_name, type_under, constant_at, first_name, path_under}
use Rattle.p4_meaning.specs.Parts.{Parts, header_fields, types_of, field_of, header_of}
use Rattle.p4_meaning.specs.Laws.{IsOf}
use Rattle.p4_meaning.proofs.Words.{sound}
use Rattle.p4_scopes.specs.Scopes.{Stands, missing, typed, held, cells, act, rows, state, function, algorithm, other, is_missing, value_kind, thing_kind, typed_thing, as_typed, as_held, type_at, field_at, thing_in, kind_in, Scope, What, value, parser_state, behind, declare, standard_at, core}
use Rattle.p4_scopes.specs.Uses.{is_scalar, is_header, is_type, reads}
use Rattle.p4_scopes.specs.declared.thing.Thing.TheVariants.{Scalar, Header, Struct, Standard, PacketIn, PacketOut}
use Rattle.p4_scopes.specs.declared.thing.Access.{Access}
use Rattle.p4_statement_rules.specs.Expressions.{type_tests, scalar_tests}
use Rattle.p4_declaration_rules.specs.Parsers.{way_access, with_ways, ways_tests, with_state, with_ends, with_states}
use Rattle.p4_rules.specs.Mains.{all_fields}
use Rattle.p4_typing_laws.specs.Soundness.{kind_width, IsSound}
use Rattle.p4_typing_laws.specs.Tied.{IsTied}
use Rattle.p4_typing_laws.specs.Stores.{Fits}
use Rattle.p4_typing_laws.specs.Along.{IsFlat}
use Rattle.p4_typing_laws.proofs.StaticWidths.{sound_width_of}
use Rattle.p4_typing_laws.proofs.SoundScopes.{kind_sound}
use Rattle.p4_typing_laws.proofs.CallCounts.{text_is, text_same}
use Rattle.p4_typing_laws.proofs.CountedNames.{other_kept, self_stands}
use Rattle.p4_typing_laws.proofs.TiedNames.{type_width}
use Rattle.p4_typing_laws.proofs.AlongRuns.{flat_type}
use Rattle.passage_stores.specs.FitStores.{FieldsFit, HeadersFit, StandardFits}
use Rattle.passage_stores.proofs.DeclaredTypes.{broken, other_behind, AreScalars, HeaderAt, thing_at}

-- ---- single values

-- the kind of a value is that of its type
kind_of : (a : Access) (st : Stands) → value_kind (as_held a (as_typed st)) ≡ thing_kind (thing_at st)
kind_of a missing = refl
kind_of a (typed b t) = refl
kind_of a (held c t) = refl
kind_of a (cells k) = refl
kind_of a (act ks m) = refl
kind_of a (rows m) = refl
kind_of a state = refl
kind_of a (function f) = refl
kind_of a algorithm = refl
kind_of a other = refl

kind_here : (a : Access) (s : Scope) (t : PTy) → value_kind (as_held a (type_at s t [])) ≡ kind_in s t
kind_here a s (type.Bit w) = refl
kind_here a s type.Bool = refl
kind_here a s (type.Named x) = kind_of a (s (x ∷ []))

typed_twice : (st : Stands) → as_typed (as_typed st) ≡ as_typed st
typed_twice missing = refl
typed_twice (typed b t) = refl
typed_twice (held a t) = refl
typed_twice (cells k) = refl
typed_twice (act ks m) = refl
typed_twice (rows m) = refl
typed_twice state = refl
typed_twice (function f) = refl
typed_twice algorithm = refl
typed_twice other = refl

typed_type : (s : Scope) (t : PTy) (xs : List (List ℕ)) → as_typed (type_at s t xs) ≡ type_at s t xs
typed_type s (type.Bit w) [] = refl
typed_type s (type.Bit w) (x ∷ xs) = refl
typed_type s type.Bool [] = refl
typed_type s type.Bool (x ∷ xs) = refl
typed_type s (type.Named y) xs = typed_twice (s (y ∷ xs))

pub typed_field : (s : Scope) (fs : List (PTy × List ℕ)) (y : List ℕ) (rest : List (List ℕ)) → as_typed (field_at s fs y rest) ≡ field_at s fs y rest
typed_field s [] y rest = refl
typed_field s (f ∷ fs) y rest = go (same_text f.1 y) (typed_field s fs y rest)
  where
    go : (b : Bool) → as_typed (field_at s fs y rest) ≡ field_at s fs y rest → as_typed (cond b (type_at s f.0 rest) (field_at s fs y rest)) ≡ cond b (type_at s f.0 rest) (field_at s fs y rest)
    go true more = typed_type s f.0 rest
    go false more = more

pub and_parts : (b c : Bool) → (b && c) ≡ true → (b ≡ true) × (c ≡ true)
and_parts true c h = (refl, h)
and_parts false c h = broken (sym h)

-- ---- fields

-- S, sc: behind all declarations
module _ (pt : Parts) (S : Scope) (sc : meaning.Scope) (tied : IsTied pt S sc) (is : IsSound S) (flat : IsFlat S) (a : Access) (st : Store) where
  -- what is read behind a type has a word of its kind at a path
  abbrev ReadsAt : Stands → List (List ℕ) → Type 0
  ReadsAt v q = is_missing v ≡ false → reads v ≡ true → IsOf (kind_width (value_kind v)) (st.values q)

  value_reads : (t : PTy) → IsFine (scalar_tests 0 S t) → (above : List (List ℕ)) (y : List ℕ) → IsOf (sound_width (width_of (type_under sc.types t))) (st.values (above ++ y ∷ [])) → (rest : List (List ℕ)) → ReadsAt (as_held a (type_at S t rest)) (above ++ y ∷ rest)
  value_reads t f above y v [] h r =
      (let k = sound_width_of (kind_in S t) (kind_sound 0 S is t f) in
      let wide = ap sound_width (type_width pt S sc tied 0 t f) ∙ sound (kind_width (kind_in S t)) k.least k.most in
      subst (λ (n : ℕ). IsOf n (st.values (above ++ y ∷ []))) (wide ∙ sym (ap kind_width (kind_here a S t))) v)
  value_reads t f above y v (z ∷ zs) h r = (let c : true ≡ false = sym (flat_type a S flat 0 t f z zs) ∙ h in absurd (cc))

  pub fields_read : (above : List (List ℕ)) (gs : List (PTy × List ℕ)) → AreScalars S gs → FieldsFit above (map (field_of sc.types) gs) st → (y : List ℕ) (rest : List (List ℕ)) → ReadsAt (as_held a (field_at S gs y rest)) (above ++ y ∷ rest)
  fields_read above [] all v y rest h r = broken h
  fields_read above (g ∷ gs) all v y rest h r = go (same_text g.1 y) refl h r (fields_read above gs all.1 v.1 y rest)
    where
      go : (b : Bool) → same_text g.1 y ≡ b → is_missing (as_held a (cond b (type_at S g.0 rest) (field_at S gs y rest))) ≡ false → reads (as_held a (cond b (type_at S g.0 rest) (field_at S gs y rest))) ≡ true → ReadsAt (as_held a (field_at S gs y rest)) (above ++ y ∷ rest)
          → IsOf (kind_width (value_kind (as_held a (cond b (type_at S g.0 rest) (field_at S gs y rest))))) (st.values (above ++ y ∷ rest))
      go true e i j more = subst (λ (z : List ℕ). IsOf (kind_width (value_kind (as_held a (type_at S g.0 rest)))) (st.values (above ++ z ∷ rest))) (text_is g.1 y e) (value_reads g.0 all.0 above g.1 v.0 rest i j)
      go false e i j more = more i j

  header_unread : (v : Stands) → is_header (thing_at v) ≡ true → is_missing (as_held a (as_typed v)) ≡ false → reads (as_held a (as_typed v)) ≡ true → ⊥
  header_unread missing h i j = broken i
  header_unread (typed b (Scalar k)) h i j = broken (sym h)
  header_unread (typed b (Header n)) h i j = broken (sym j)
  header_unread (typed b Struct) h i j = broken (sym h)
  header_unread (typed b Standard) h i j = broken (sym h)
  header_unread (typed b PacketIn) h i j = broken (sym h)
  header_unread (typed b PacketOut) h i j = broken (sym h)
  header_unread (held c t) h i j = broken i
  header_unread (cells k) h i j = broken i
  header_unread (act ks m) h i j = broken i
  header_unread (rows m) h i j = broken i
  header_unread state h i j = broken i
  header_unread (function f) h i j = broken i
  header_unread algorithm h i j = broken i
  header_unread other h i j = broken i

  -- a header type is found
  module _ (ts : List Top) (types : sc.types ≡ types_of ts) (found : (x : List ℕ) → is_header (thing_at (S (x ∷ []))) ≡ true → HeaderAt S ts x) where
    header_reads : (t : PTy) → is_header (thing_in S t) ≡ true → (n : List ℕ) → FieldsFit (headers_root ∷ n ∷ []) (map (field_of (types_of ts)) (header_fields ts (type_name t))) st → (rest : List (List ℕ)) → ReadsAt (as_held a (type_at S t rest)) (headers_root ∷ n ∷ rest)
    header_reads (type.Bit w) h n v rest i j = broken (sym h)
    header_reads type.Bool h n v rest i j = broken (sym h)
    header_reads (type.Named x) h n v [] i j = absurd (header_unread (S (x ∷ [])) h i j)
    header_reads (type.Named x) h n v (z ∷ zs) i j =
        (let at = found x h in
        let same : as_typed (S (x ∷ z ∷ zs)) ≡ field_at S (header_fields ts x) z zs = ap as_typed (at.paths z zs) ∙ typed_field S (header_fields ts x) z zs in
        subst (λ (u : Stands). ReadsAt (as_held a u) (headers_root ∷ n ∷ z ∷ zs)) (sym same)
        (fields_read (headers_root ∷ n ∷ []) (header_fields ts x) at.all (subst (λ (tys : List (List ℕ × PTy)). FieldsFit (headers_root ∷ n ∷ []) (map (field_of tys) (header_fields ts x)) st) (sym types) v) z zs) i j)

    pub headers_read : (fs : List (PTy × List ℕ)) → all_fields is_header S fs ≡ true → HeadersFit (map (header_of ts) fs) st → (y : List ℕ) (rest : List (List ℕ)) → ReadsAt (as_held a (field_at S fs y rest)) (headers_root ∷ y ∷ rest)
    headers_read [] all v y rest h r = broken h
    headers_read (f ∷ fs) all v y rest h r = (let k = and_parts (is_header (thing_in S f.0)) (all_fields is_header S fs) all in go (same_text f.1 y) refl k.0 h r (headers_read fs k.1 v.1 y rest))
      where
        go : (b : Bool) → same_text f.1 y ≡ b → is_header (thing_in S f.0) ≡ true → is_missing (as_held a (cond b (type_at S f.0 rest) (field_at S fs y rest))) ≡ false → reads (as_held a (cond b (type_at S f.0 rest) (field_at S fs y rest))) ≡ true → ReadsAt (as_held a (field_at S fs y rest)) (headers_root ∷ y ∷ rest)
            → IsOf (kind_width (value_kind (as_held a (cond b (type_at S f.0 rest) (field_at S fs y rest))))) (st.values (headers_root ∷ y ∷ rest))
        go true e q i j more = subst (λ (z : List ℕ). IsOf (kind_width (value_kind (as_held a (type_at S f.0 rest)))) (st.values (headers_root ∷ z ∷ rest))) (text_is f.1 y e) (header_reads f.0 q f.1 v.0 rest i j)
        go false e q i j more = more i j

-- ---- the standard metadata

module _ (a : Access) (st : Store) (v : StandardFits st) where
  abbrev StandardReads : Stands → List ℕ → Type 0
  StandardReads u y = is_missing (as_held a u) ≡ false → reads (as_held a u) ≡ true → IsOf (kind_width (value_kind (as_held a u))) (st.values (standard_root ∷ y ∷ []))

  at_name : (x y : List ℕ) (n : ℕ) → same_text y x ≡ true → IsOf n (st.values (standard_root ∷ x ∷ [])) → IsOf n (st.values (standard_root ∷ y ∷ []))
  at_name x y n e h = subst (λ (z : List ℕ). IsOf n (st.values (standard_root ∷ z ∷ []))) (sym (text_is y x e)) h

  -- one test more
  or_else : (y : List ℕ) (b : Bool) (u w : Stands) → (b ≡ true → StandardReads u y) → StandardReads w y → StandardReads (cond b u w) y
  or_else y true u w h k = h refl
  or_else y false u w h k = k

  either_name : (x z y : List ℕ) (n : ℕ) → IsOf n (st.values (standard_root ∷ x ∷ [])) → IsOf n (st.values (standard_root ∷ z ∷ [])) → (same_text y x || same_text y z) ≡ true → IsOf n (st.values (standard_root ∷ y ∷ []))
  either_name x z y n h k e = go (same_text y x) refl e
    where
      go : (b : Bool) → same_text y x ≡ b → (b || same_text y z) ≡ true → IsOf n (st.values (standard_root ∷ y ∷ []))
      go true i j = at_name x y n i h
      go false i j = at_name z y n j k

  standard_reads : (y : List ℕ) → StandardReads (standard_at y) y
  standard_reads y =
      or_else y (same_text y (codes "egress_spec")) _ _ (λ e h r. at_name (codes "egress_spec") y 9 e v.spec)
      (or_else y (same_text y (codes "ingress_port") || same_text y (codes "egress_port")) _ _ (λ e h r. either_name (codes "ingress_port") (codes "egress_port") y 9 v.entry v.port e)
      (or_else y (same_text y (codes "packet_length")) _ _ (λ e h r. at_name (codes "packet_length") y 32 e v.length)
      (or_else y (same_text y (codes "checksum_error")) _ _ (λ e h r. at_name (codes "checksum_error") y 1 e v.error)
      (or_else y (same_text y (codes "parser_error")) _ _ (λ e h r. at_name (codes "parser_error") y 2 e v.parser) (λ h r. broken h)))))

  pub core_reads : (y : List ℕ) (rest : List (List ℕ)) → is_missing (as_held a (as_typed (core (codes "standard_metadata_t" ∷ y ∷ rest)))) ≡ false → reads (as_held a (as_typed (core (codes "standard_metadata_t" ∷ y ∷ rest)))) ≡ true
      → IsOf (kind_width (value_kind (as_held a (as_typed (core (codes "standard_metadata_t" ∷ y ∷ rest)))))) (st.values (standard_root ∷ y ∷ rest))
  unfolding core
  core_reads y [] h r = subst (λ (u : Stands). is_missing (as_held a u) ≡ false → reads (as_held a u) ≡ true → IsOf (kind_width (value_kind (as_held a u))) (st.values (standard_root ∷ y ∷ []))) (sym (standard_typed y)) (standard_reads y) h r
    where
      if_typed : (b : Bool) (u w : Stands) → as_typed u ≡ u → as_typed w ≡ w → as_typed (cond b u w) ≡ cond b u w
      if_typed true u w h k = h
      if_typed false u w h k = k

      standard_typed : (z : List ℕ) → as_typed (standard_at z) ≡ standard_at z
      standard_typed z = if_typed (same_text z (codes "egress_spec")) _ _ refl (if_typed (same_text z (codes "ingress_port") || same_text z (codes "egress_port")) _ _ refl (if_typed (same_text z (codes "packet_length")) _ _ refl (if_typed (same_text z (codes "checksum_error")) _ _ refl (if_typed (same_text z (codes "parser_error")) _ _ refl refl))))
  core_reads y (z ∷ zs) h r = broken h

-- nothing stands behind what a parser reads
pub packet_behind : (a : Access) (y : List ℕ) (rest : List (List ℕ)) → is_missing (as_held a (as_typed (core (codes "packet_in" ∷ y ∷ rest)))) ≡ true
unfolding core
packet_behind a y [] = refl
packet_behind a y (z ∷ zs) = refl

-- ---- one declaration more

pub declare_fits : (s : Scope) (sd : meaning.Scope) (n : List ℕ) (w : What) (st : Store) → Fits s sd st
    → ((xs : List (List ℕ)) → is_missing (behind s w xs) ≡ false → reads (behind s w xs) ≡ true → constant_at sd (n ∷ xs) ≡ None → IsOf (kind_width (value_kind (behind s w xs))) (st.values (path_under sd (n ∷ xs)))) → Fits (declare s n w) sd st
unfolding declare
declare_fits s sd n w st f new = record { values = λ x h r c. fit x h r c; headers = f.headers }
  where
    go : (y : List ℕ) (xs : List (List ℕ)) (b : Bool) → same_text n y ≡ b → is_missing (cond b (behind s w xs) (s (y ∷ xs))) ≡ false → reads (cond b (behind s w xs) (s (y ∷ xs))) ≡ true → constant_at sd (y ∷ xs) ≡ None
        → IsOf (kind_width (value_kind (cond b (behind s w xs) (s (y ∷ xs))))) (st.values (first_name sd y ∷ xs))
    go y xs true e h r c =
        (let same = text_is n y e in
        subst (λ (z : List ℕ). IsOf (kind_width (value_kind (behind s w xs))) (st.values (first_name sd z ∷ xs))) same (new xs h r (subst (λ (z : List ℕ). constant_at sd (z ∷ xs) ≡ None) (sym same) c)))
    go y xs false e h r c = f.values (y ∷ xs) h r c

    fit : (x : List (List ℕ)) → is_missing (declare s n w x) ≡ false → reads (declare s n w x) ≡ true → constant_at sd x ≡ None → IsOf (kind_width (value_kind (declare s n w x))) (st.values (path_under sd x))
    fit [] h r c = f.values [] h r refl
    fit (y ∷ xs) h r c = go y xs (same_text n y) refl h r c

-- ---- the states of a parser

state_fits : (s : Scope) (sd : meaning.Scope) (x : List ℕ) (st : Store) → Fits s sd st → Fits (with_state s x) sd st
state_fits s sd x st f = go (is_missing (s (x ∷ [])))
  where
    quiet : (xs : List (List ℕ)) → is_missing (behind s parser_state xs) ≡ false → reads (behind s parser_state xs) ≡ true → ⊥
    quiet [] h r = broken (sym r)
    quiet (y ∷ ys) h r = broken h

    go : (b : Bool) → Fits (cond b (declare s x parser_state) s) sd st
    go true = declare_fits s sd x parser_state st f (λ xs h r c. absurd (quiet xs h r))
    go false = f

pub ends_fit : (s : Scope) (sd : meaning.Scope) (st : Store) → Fits s sd st → Fits (with_ends s) sd st
ends_fit s sd st f = state_fits (with_state s (codes "accept")) sd (codes "reject") st (state_fits s sd (codes "accept") st f)

pub states_fit : (sts : List ParserState) (s : Scope) (sd : meaning.Scope) (st : Store) → Fits s sd st → Fits (with_states s sts) sd st
states_fit [] s sd st f = f
states_fit (u ∷ sts) s sd st f = states_fit sts (with_state s u.name) sd st (state_fits s sd u.name st f)

-- ---- parameters

-- S: behind all declarations. What stands behind a type that is fine at a place stands there at the end
abbrev pub TypesGoOn : (S s : Scope) → Type 0
TypesGoOn S s = (p : ℕ) (x : List ℕ) (xs : List (List ℕ)) → IsFine (type_tests p s (type.Named x)) → S (x ∷ xs) ≡ s (x ∷ xs)

go_on_more : (S s : Scope) (n : List ℕ) (a : Access) (u : PTy) → TypesGoOn S s → TypesGoOn S (declare s n (value a u))
go_on_more S s n a u on p x xs f = go (same_text n x) refl
  where
    go : (b : Bool) → same_text n x ≡ b → S (x ∷ xs) ≡ declare s n (value a u) (x ∷ xs)
    go true e =
        (let stands : declare s n (value a u) (x ∷ []) ≡ held a (thing_in s u) = ap (λ (y : List ℕ). declare s n (value a u) (y ∷ [])) (sym (text_is n x e)) ∙ self_stands s n (value a u) in
        broken (sym (ap (λ (v : Stands). not (is_type v)) stands) ∙ f.1))
    go false e =
        (let apart : n ≡ x → ⊥ = λ q. (let c : true ≡ false = sym (text_same n x q) ∙ e in cc) in
        let same = other_kept s n (value a u) x apart in
        on p x xs (subst (λ (v : Stands). (is_missing v ≡ false) × (not (is_type v) ≡ false)) same f) ∙ sym (other_behind s n (value a u) x xs apart))

type_goes_on : (S s : Scope) → TypesGoOn S s → (p : ℕ) (t : PTy) → IsFine (type_tests p s t) → (xs : List (List ℕ)) → type_at S t xs ≡ type_at s t xs
type_goes_on S s on p (type.Bit w) f xs = refl
type_goes_on S s on p type.Bool f xs = refl
type_goes_on S s on p (type.Named x) f xs = ap as_typed (on p x xs f)

module _ (S : Scope) (sd : meaning.Scope) (st : Store) where
  -- a parameter is no single value, and what is read behind it has words of its kinds
  pub record ParamFits (q : Param) : Type 0 where
    pub whole : is_scalar (thing_in S q.ty) ≡ false
    pub reads : (a : Access) (y : List ℕ) (rest : List (List ℕ)) → is_missing (as_held a (type_at S q.ty (y ∷ rest))) ≡ false → reads (as_held a (type_at S q.ty (y ∷ rest))) ≡ true
        → IsOf (kind_width (value_kind (as_held a (type_at S q.ty (y ∷ rest))))) (st.values (first_name sd q.name ∷ y ∷ rest))

  abbrev pub ParamsFit : List Param → Type 0
  ParamsFit [] = Unit {0}
  ParamsFit (q ∷ qs) = ParamFits q × ParamsFit qs

  param_fits : (s : Scope) (q : Param) → TypesGoOn S s → IsFine (type_tests q.at s q.ty) → ParamFits q → Fits s sd st → Fits (declare s q.name (value (way_access q.way) q.ty)) sd st
  param_fits s q on f h fits = declare_fits s sd q.name (value (way_access q.way) q.ty) st fits new
    where
      new : (xs : List (List ℕ)) → is_missing (behind s (value (way_access q.way) q.ty) xs) ≡ false → reads (behind s (value (way_access q.way) q.ty) xs) ≡ true → constant_at sd (q.name ∷ xs) ≡ None
          → IsOf (kind_width (value_kind (behind s (value (way_access q.way) q.ty) xs))) (st.values (path_under sd (q.name ∷ xs)))
      new [] i r c = broken (sym r ∙ ap (λ (u : Stands). is_scalar (typed_thing u)) (sym (type_goes_on S s on q.at q.ty f [])) ∙ h.whole)
      new (y ∷ rest) i r c =
          subst (λ (u : Stands). is_missing (as_held (way_access q.way) u) ≡ false → reads (as_held (way_access q.way) u) ≡ true → IsOf (kind_width (value_kind (as_held (way_access q.way) u))) (st.values (first_name sd q.name ∷ y ∷ rest)))
          (type_goes_on S s on q.at q.ty f (y ∷ rest)) (h.reads (way_access q.way) y rest) i r

  pub params_fit : (qs : List Param) (s : Scope) → TypesGoOn S s → IsFine (ways_tests s qs) → ParamsFit qs → Fits s sd st → Fits (with_ways s qs) sd st
  params_fit [] s on f h fits = fits
  params_fit (q ∷ qs) s on f h fits =
      params_fit qs (declare s q.name (value (way_access q.way) q.ty)) (go_on_more S s q.name (way_access q.way) q.ty on) f.1 h.1 (param_fits s q on f.0.1 h.0 fits)

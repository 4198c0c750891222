-- What is declared under the rules is sound: a type that is fine has a sound kind, and so has what is declared with it.
use Rattle.std.proofs.Common.{◌≡◌, ℕ, ◌≤◌, List, [], ◌∷◌, Bool, true, false, cond, not, ◌||◌, ◌&&◌, codes, arith}
use Rattle.lex_text.specs.Names.{same_text}
use Rattle.rule_tests.specs.Tests.{IsFine}
use Rattle.p4_tree.specs.Tree.{ParserState}
use Rattle.p4_tree.specs.declared.statement.PTy.{PTy}
use Rattle.p4_tree.specs.declared.statement.PTy.TheVariants as type
use Rattle.p4_scopes.specs.Scopes.{Stands, missing, typed, held, cells, act, rows, state, function, algorithm, other, Scope, What, alias, fields, value, register, action, table, parser_state, part, is_missing, typed_thing, thing_kind, as_held, as_typed, scalar_at, type_at, thing_in, kind_in, kinds_in, field_at, behind, declare, core_name, core_field, core}
use Rattle.p4_scopes.specs.Uses.{is_scalar, is_type}
use Rattle.p4_scopes.specs.declared.kind.Kind.{Kind}
use Rattle.p4_scopes.specs.declared.kind.Kind.TheVariants.{Number, Truth, Error}
use Rattle.p4_scopes.specs.declared.thing.Thing.{Thing}
use Rattle.p4_scopes.specs.declared.thing.Thing.TheVariants.{Scalar, Header, Struct, Standard, PacketIn, PacketOut}
use Rattle.p4_scopes.specs.declared.thing.Access.{Access}
use Rattle.p4_scopes.specs.declared.thing.Access.TheVariants.{Fixed}
use Rattle.p4_statement_rules.specs.Expressions.{type_tests, scalar_tests}
use Rattle.p4_declaration_rules.specs.Declarations.{params_tests, with_params, fields_tests}
use Rattle.p4_declaration_rules.specs.Parsers.{with_state, with_ends, with_states}
use Rattle.p4_typing_laws.specs.Soundness.{kind_width, IsSoundKind, AreSoundKinds, IsSoundThing, IsSoundStands, IsSound}
use Rattle.p4_typing_laws.proofs.StaticWidths.{good_width, sound_width_of}

-- ---- types

typed_sound : (st : Stands) → IsSoundStands st → is_missing st ≡ false → not (is_type st) ≡ false → IsSoundThing (typed_thing (as_typed st))
typed_sound missing h m k = absurd (let c : true ≡ false = m in cc)
typed_sound (typed f t) h m k = h
typed_sound (held a t) h m k = absurd (let c : true ≡ false = k in cc)
typed_sound (cells c) h m k = absurd (let c : true ≡ false = k in cc)
typed_sound (act ks n) h m k = absurd (let c : true ≡ false = k in cc)
typed_sound (rows n) h m k = absurd (let c : true ≡ false = k in cc)
typed_sound state h m k = absurd (let c : true ≡ false = k in cc)
typed_sound (function f) h m k = absurd (let c : true ≡ false = k in cc)
typed_sound algorithm h m k = absurd (let c : true ≡ false = k in cc)
typed_sound other h m k = absurd (let c : true ≡ false = k in cc)

as_typed_sound : (st : Stands) → IsSoundStands st → IsSoundStands (as_typed st)
as_typed_sound missing h = tt
as_typed_sound (typed f t) h = h
as_typed_sound (held a t) h = tt
as_typed_sound (cells k) h = tt
as_typed_sound (act ks n) h = tt
as_typed_sound (rows n) h = tt
as_typed_sound state h = tt
as_typed_sound (function f) h = tt
as_typed_sound algorithm h = tt
as_typed_sound other h = tt

as_held_sound : (a : Access) (st : Stands) → IsSoundStands st → IsSoundStands (as_held a st)
as_held_sound a missing h = tt
as_held_sound a (typed f t) h = h
as_held_sound a (held b t) h = tt
as_held_sound a (cells k) h = tt
as_held_sound a (act ks n) h = tt
as_held_sound a (rows n) h = tt
as_held_sound a state h = tt
as_held_sound a (function f) h = tt
as_held_sound a algorithm h = tt
as_held_sound a other h = tt

pub thing_sound : (p : ℕ) (s : Scope) → IsSound s → (t : PTy) → IsFine (type_tests p s t) → IsSoundThing (thing_in s t)
thing_sound p s is (type.Bit w) f = good_width w f
thing_sound p s is type.Bool f = tt
thing_sound p s is (type.Named t) f = typed_sound (s (t ∷ [])) (is.paths (t ∷ [])) f.0 f.1

scalar_kind : (t : Thing) → IsSoundThing t → not (is_scalar t) ≡ false → IsSoundKind (thing_kind t)
scalar_kind (Scalar k) h e = h
scalar_kind (Header n) h e = absurd (let c : true ≡ false = e in cc)
scalar_kind Struct h e = absurd (let c : true ≡ false = e in cc)
scalar_kind Standard h e = absurd (let c : true ≡ false = e in cc)
scalar_kind PacketIn h e = absurd (let c : true ≡ false = e in cc)
scalar_kind PacketOut h e = absurd (let c : true ≡ false = e in cc)

pub kind_sound : (p : ℕ) (s : Scope) → IsSound s → (t : PTy) → IsFine (scalar_tests p s t) → IsSoundKind (kind_in s t)
kind_sound p s is t f = scalar_kind (thing_in s t) (thing_sound p s is t f.0) f.1

pub kind_most : (p : ℕ) (s : Scope) → IsSound s → (t : PTy) → IsFine (scalar_tests p s t) → kind_width (kind_in s t) ≤ 128
kind_most p s is t f = (sound_width_of (kind_in s t) (kind_sound p s is t f)).most

scalar_at_sound : (k : Kind) → IsSoundKind k → (xs : List (List ℕ)) → IsSoundStands (scalar_at k xs)
scalar_at_sound k h [] = h
scalar_at_sound k h (x ∷ xs) = tt

at_sound : (p : ℕ) (s : Scope) → IsSound s → (t : PTy) → IsFine (type_tests p s t) → (xs : List (List ℕ)) → IsSoundStands (type_at s t xs)
at_sound p s is (type.Bit w) f xs = scalar_at_sound (Number w) (good_width w f) xs
at_sound p s is type.Bool f xs = scalar_at_sound Truth tt xs
at_sound p s is (type.Named t) f xs = as_typed_sound (s (t ∷ xs)) (is.paths (t ∷ xs))

-- ---- declarations

pub declared_sound : (s : Scope) → IsSound s → (n : List ℕ) (w : What) → ((xs : List (List ℕ)) → IsSoundStands (behind s w xs)) → IsSound (declare s n w)
unfolding declare
declared_sound s is n w h = record { paths = λ x. at x }
  where
    go : (b : Bool) (x : List ℕ) (xs : List (List ℕ)) → IsSoundStands (cond b (behind s w xs) (s (x ∷ xs)))
    go true x xs = h xs
    go false x xs = is.paths (x ∷ xs)

    at : (x : List (List ℕ)) → IsSoundStands (declare s n w x)
    at [] = is.paths []
    at (x ∷ xs) = go (same_text n x) x xs

pub value_sound : (p : ℕ) (s : Scope) → IsSound s → (n : List ℕ) (a : Access) (t : PTy) → IsFine (type_tests p s t) → IsSound (declare s n (value a t))
value_sound p s is n a t f = declared_sound s is n (value a t) (λ xs. at xs)
  where
    at : (xs : List (List ℕ)) → IsSoundStands (behind s (value a t) xs)
    at [] = thing_sound p s is t f
    at (x ∷ xs) = as_held_sound a (type_at s t (x ∷ xs)) (at_sound p s is t f (x ∷ xs))

pub alias_sound : (p : ℕ) (s : Scope) → IsSound s → (n : List ℕ) (t : PTy) → IsFine (type_tests p s t) → IsSound (declare s n (alias t))
alias_sound p s is n t f = declared_sound s is n (alias t) (λ xs. at xs)
  where
    at : (xs : List (List ℕ)) → IsSoundStands (behind s (alias t) xs)
    at [] = thing_sound p s is t f
    at (x ∷ xs) = tt

pub register_sound : (p : ℕ) (s : Scope) → IsSound s → (n : List ℕ) (t : PTy) → IsFine (scalar_tests p s t) → IsSound (declare s n (register t))
register_sound p s is n t f = declared_sound s is n (register t) (λ xs. at xs)
  where
    at : (xs : List (List ℕ)) → IsSoundStands (behind s (register t) xs)
    at [] = kind_sound p s is t f
    at (x ∷ xs) = tt

field_sound : (p : ℕ) (misfit : Thing → Bool) (s : Scope) → IsSound s → (fs : List (PTy × List ℕ)) → IsFine (fields_tests p misfit s fs) → (x : List ℕ) (xs : List (List ℕ)) → IsSoundStands (field_at s fs x xs)
field_sound p misfit s is [] f x xs = tt
field_sound p misfit s is (g ∷ fs) f x xs = go (same_text g.1 x) (field_sound p misfit s is fs f.1 x xs)
  where
    go : (b : Bool) → IsSoundStands (field_at s fs x xs) → IsSoundStands (cond b (type_at s g.0 xs) (field_at s fs x xs))
    go true h = at_sound p s is g.0 f.0.0 xs
    go false h = h

pub fields_sound : (p : ℕ) (misfit : Thing → Bool) (s : Scope) → IsSound s → (n : List ℕ) (t : Thing) → IsSoundThing t → (fs : List (PTy × List ℕ)) → IsFine (fields_tests p misfit s fs) → IsSound (declare s n (fields t fs))
fields_sound p misfit s is n t h fs f = declared_sound s is n (fields t fs) (λ xs. at xs)
  where
    at : (xs : List (List ℕ)) → IsSoundStands (behind s (fields t fs) xs)
    at [] = h
    at (x ∷ xs) = field_sound p misfit s is fs f x xs

-- what has no path behind it
pub action_sound : (s : Scope) → IsSound s → (n : List ℕ) (ps : List (PTy × List ℕ)) (m : ℕ) → AreSoundKinds (kinds_in s ps) → IsSound (declare s n (action ps m))
action_sound s is n ps m h = declared_sound s is n (action ps m) (λ xs. at xs)
  where
    at : (xs : List (List ℕ)) → IsSoundStands (behind s (action ps m) xs)
    at [] = h
    at (x ∷ xs) = tt

pub table_sound : (s : Scope) → IsSound s → (n : List ℕ) (m : ℕ) → IsSound (declare s n (table m))
table_sound s is n m = declared_sound s is n (table m) (λ xs. at xs)
  where
    at : (xs : List (List ℕ)) → IsSoundStands (behind s (table m) xs)
    at [] = tt
    at (x ∷ xs) = tt

pub state_sound : (s : Scope) → IsSound s → (n : List ℕ) → IsSound (declare s n parser_state)
state_sound s is n = declared_sound s is n parser_state (λ xs. at xs)
  where
    at : (xs : List (List ℕ)) → IsSoundStands (behind s parser_state xs)
    at [] = tt
    at (x ∷ xs) = tt

pub part_sound : (s : Scope) → IsSound s → (n : List ℕ) → IsSound (declare s n part)
part_sound s is n = declared_sound s is n part (λ xs. at xs)
  where
    at : (xs : List (List ℕ)) → IsSoundStands (behind s part xs)
    at [] = tt
    at (x ∷ xs) = tt

pub where_missing_sound : (s : Scope) → IsSound s → (n : List ℕ) → IsSound (with_state s n)
where_missing_sound s is n = by (is_missing (s (n ∷ [])))
  where
    by : (b : Bool) → IsSound (cond b (declare s n parser_state) s)
    by true = state_sound s is n
    by false = is

pub ends_sound : (s : Scope) → IsSound s → IsSound (with_ends s)
ends_sound s is = where_missing_sound (with_state s (codes "accept")) (where_missing_sound s is (codes "accept")) (codes "reject")

pub states_sound : (sts : List ParserState) (s : Scope) → IsSound s → IsSound (with_states s sts)
states_sound [] s is = is
states_sound (st ∷ sts) s is = states_sound sts (with_state s st.name) (where_missing_sound s is st.name)

-- ---- parameters of actions

-- a type that is fine behind a value's declaration was fine before
type_before : (p : ℕ) (s : Scope) (n : List ℕ) (a : Access) (u t : PTy) → IsFine (scalar_tests p (declare s n (value a u)) t) → IsFine (scalar_tests p s t)
unfolding declare
type_before p s n a u (type.Bit w) f = f
type_before p s n a u type.Bool f = f
type_before p s n a u (type.Named t) f = go (same_text n t) f
  where
    go : (b : Bool)
        → ((is_missing (cond b (held a (thing_in s u)) (s (t ∷ []))) ≡ false) × (not (is_type (cond b (held a (thing_in s u)) (s (t ∷ [])))) ≡ false)) × (not (is_scalar (typed_thing (as_typed (cond b (held a (thing_in s u)) (s (t ∷ [])))))) ≡ false)
        → IsFine (scalar_tests p s (type.Named t))
    go true g = absurd (let c : true ≡ false = g.0.1 in cc)
    go false g = g

abbrev pub AllScalar : ℕ → Scope → List (PTy × List ℕ) → Type 0
AllScalar p s [] = Unit {0}
AllScalar p s (q ∷ qs) = IsFine (scalar_tests p s q.0) × AllScalar p s qs

all_before : (p : ℕ) (s : Scope) (n : List ℕ) (a : Access) (u : PTy) (qs : List (PTy × List ℕ)) → AllScalar p (declare s n (value a u)) qs → AllScalar p s qs
all_before p s n a u [] f = tt
all_before p s n a u (q ∷ qs) f = (type_before p s n a u q.0 f.0, all_before p s n a u qs f.1)

pub params_scalar : (p : ℕ) (qs : List (PTy × List ℕ)) (s : Scope) → IsFine (params_tests p s qs) → AllScalar p s qs
params_scalar p [] s f = tt
params_scalar p (q ∷ qs) s f = (f.0.1, all_before p s q.1 Fixed q.0 qs (params_scalar p qs (declare s q.1 (value Fixed q.0)) f.1))

all_kinds : (p : ℕ) (s : Scope) → IsSound s → (qs : List (PTy × List ℕ)) → AllScalar p s qs → AreSoundKinds (kinds_in s qs)
all_kinds p s is [] f = tt
all_kinds p s is (q ∷ qs) f = (kind_sound p s is q.0 f.0, all_kinds p s is qs f.1)

pub params_kinds : (p : ℕ) (s : Scope) → IsSound s → (qs : List (PTy × List ℕ)) → IsFine (params_tests p s qs) → AreSoundKinds (kinds_in s qs)
params_kinds p s is qs f = all_kinds p s is qs (params_scalar p qs s f)

pub params_sound : (p : ℕ) (qs : List (PTy × List ℕ)) (s : Scope) → IsSound s → IsFine (params_tests p s qs) → IsSound (with_params s qs)
params_sound p [] s is f = is
params_sound p (q ∷ qs) s is f = params_sound p qs (declare s q.1 (value Fixed q.0)) (value_sound p s is q.1 Fixed q.0 f.0.1.0) f.1

-- ---- the names of the architecture's own

bits_sound : (n : ℕ) → 1 ≤ n → n ≤ 128 → IsSoundKind (Number n)
bits_sound n h k = record { least = h; most = k }

standard_sound : (a b c d e f : Bool) → IsSoundStands (cond a (typed false (Scalar (Number 9))) (cond (b || c) (typed true (Scalar (Number 9))) (cond d (typed true (Scalar (Number 32))) (cond e (typed true (Scalar (Number 1))) (cond f (typed true (Scalar Error)) missing)))))
standard_sound true b c d e f = bits_sound 9 (omega arith) (omega arith)
standard_sound false true c d e f = bits_sound 9 (omega arith) (omega arith)
standard_sound false false true d e f = bits_sound 9 (omega arith) (omega arith)
standard_sound false false false true e f = bits_sound 32 (omega arith) (omega arith)
standard_sound false false false false true f = bits_sound 1 (omega arith) (omega arith)
standard_sound false false false false false true = tt
standard_sound false false false false false false = tt

if_sound : (b : Bool) (x y : Stands) → IsSoundStands x → IsSoundStands y → IsSoundStands (cond b x y)
if_sound true x y h k = h
if_sound false x y h k = k

pub core_sound : IsSound core
unfolding core
core_sound = record { paths = λ x. at x }
  where
    name_sound : (x : List ℕ) → IsSoundStands (core_name x)
    name_sound x =
        if_sound (same_text x (codes "standard_metadata_t")) _ _ tt
        (if_sound (same_text x (codes "packet_in")) _ _ tt
        (if_sound (same_text x (codes "packet_out")) _ _ tt
        (if_sound (same_text x (codes "NoAction")) _ _ tt
        (if_sound (same_text x (codes "mark_to_drop")) _ _ tt
        (if_sound (same_text x (codes "digest")) _ _ tt
        (if_sound (same_text x (codes "verify_checksum")) _ _ tt
        (if_sound (same_text x (codes "update_checksum")) _ _ tt
        (if_sound (same_text x (codes "HashAlgorithm")) _ _ tt tt))))))))

    field_of : (x y : List ℕ) → IsSoundStands (core_field x y)
    field_of x y =
        if_sound (same_text x (codes "standard_metadata_t")) _ _
        (standard_sound (same_text y (codes "egress_spec")) (same_text y (codes "ingress_port")) (same_text y (codes "egress_port")) (same_text y (codes "packet_length")) (same_text y (codes "checksum_error")) (same_text y (codes "parser_error")))
        (if_sound (same_text x (codes "HashAlgorithm") && same_text y (codes "csum16")) _ _ tt tt)

    at : (x : List (List ℕ)) → IsSoundStands (core x)
    at [] = tt
    at (x ∷ []) = name_sound x
    at (x ∷ y ∷ []) = field_of x y
    at (x ∷ y ∷ z ∷ zs) = tt

-- At top level no path holds a header, nothing stands behind types of single values, and the architecture's own names stand.
use Rattle.std.proofs.Common.{◌≡◌, ℕ, List, [], ◌∷◌, Bool, true, false, cond, not, ◌&&◌, ◌||◌, codes, Some, refl, sym, ap, ◌∙◌, subst}
use Rattle.lex_text.specs.Names.{same_text}
use Rattle.rule_tests.specs.Tests.{IsFine}
use Rattle.p4_tree.specs.Tree.{Control, Top, constant, typedef, header_type, struct_type, register, parser, control}
use Rattle.p4_tree.specs.declared.statement.PTy.{PTy}
use Rattle.p4_tree.specs.declared.statement.PTy.TheVariants as type
use Rattle.p4_meaning.specs.Parts.{control_named}
use Rattle.p4_scopes.specs.Scopes.{Stands, missing, typed, held, cells, act, rows, state, function, algorithm, other, is_missing, as_typed, as_held, type_at, field_at, thing_in, Scope, What, alias, fields, value, part, behind, declare, standard_at, core_name, core}
use Rattle.p4_scopes.specs.Scopes as scope
use Rattle.p4_scopes.specs.Uses.{is_scalar, holds_header}
use Rattle.p4_scopes.specs.declared.thing.Thing.{Thing}
use Rattle.p4_scopes.specs.declared.thing.Thing.TheVariants.{Scalar, Header, Struct, Standard, PacketIn, PacketOut}
use Rattle.p4_scopes.specs.declared.thing.Access.TheVariants.{Constant}
use Rattle.p4_statement_rules.specs.Expressions.{scalar_tests}
use Rattle.p4_declaration_rules.specs.Controls.{control_tests, part_in, top_tests, after_top, tops_tests}
use Rattle.p4_typing_laws.specs.Along.{IsFlat}
use Rattle.p4_typing_laws.proofs.CallCounts.{text_is}
use Rattle.p4_typing_laws.proofs.AlongRuns.{flat_type}
use Rattle.p4_typing_laws.proofs.KnownScopes.{core_known, FlatWhat, flat_declare}
use Rattle.passage_stores.proofs.DeclaredTypes.{broken, top_stays}
use Rattle.passage_stores.proofs.BegunSights.{core_is}

-- what holds a header is none
abbrev pub HoldsNone : Stands → Type 0
HoldsNone v = holds_header v ≡ true → is_missing v ≡ true

pub record Outer (s : Scope) : Type 0 where
  pub flat : IsFlat s
  pub none : (x : List (List ℕ)) → HoldsNone (s x)
  pub core : (x : List ℕ) (xs : List (List ℕ)) → is_missing (core_name x) ≡ false → s (x ∷ xs) ≡ core (x ∷ xs)

-- ---- what is declared

typed_none : (v : Stands) → HoldsNone (as_typed v)
typed_none missing h = refl
typed_none (typed b t) h = broken (sym h)
typed_none (held a t) h = refl
typed_none (cells k) h = refl
typed_none (act ks m) h = refl
typed_none (rows m) h = refl
typed_none state h = refl
typed_none (function f) h = refl
typed_none algorithm h = refl
typed_none other h = refl

type_none : (s : Scope) (t : PTy) (xs : List (List ℕ)) → HoldsNone (type_at s t xs)
type_none s (type.Bit w) [] h = broken (sym h)
type_none s (type.Bit w) (x ∷ xs) h = refl
type_none s type.Bool [] h = broken (sym h)
type_none s type.Bool (x ∷ xs) h = refl
type_none s (type.Named y) xs h = typed_none (s (y ∷ xs)) h

field_none : (s : Scope) (fs : List (PTy × List ℕ)) (y : List ℕ) (rest : List (List ℕ)) → HoldsNone (field_at s fs y rest)
field_none s [] y rest h = refl
field_none s (f ∷ fs) y rest h = go (same_text f.1 y) h (field_none s fs y rest)
  where
    go : (b : Bool) → holds_header (cond b (type_at s f.0 rest) (field_at s fs y rest)) ≡ true → HoldsNone (field_at s fs y rest) → is_missing (cond b (type_at s f.0 rest) (field_at s fs y rest)) ≡ true
    go true i more = type_none s f.0 rest i
    go false i more = more i

scalar_none : (t : Thing) → not (is_scalar t) ≡ false → HoldsNone (held Constant t)
scalar_none (Scalar k) i h = broken (sym h)
scalar_none (Header n) i h = broken i
scalar_none Struct i h = broken i
scalar_none Standard i h = broken i
scalar_none PacketIn i h = broken i
scalar_none PacketOut i h = broken i

constant_none : (p : ℕ) (s : Scope) → IsFlat s → (t : PTy) → IsFine (scalar_tests p s t) → (xs : List (List ℕ)) → HoldsNone (behind s (value Constant t) xs)
constant_none p s flat t f [] h = scalar_none (thing_in s t) f.1 h
constant_none p s flat t f (x ∷ xs) h = flat_type Constant s flat p t f x xs

alias_none : (s : Scope) (t : PTy) (xs : List (List ℕ)) → HoldsNone (behind s (alias t) xs)
alias_none s t [] h = broken (sym h)
alias_none s t (x ∷ xs) h = refl

fields_none : (s : Scope) (u : Thing) (fs : List (PTy × List ℕ)) (xs : List (List ℕ)) → HoldsNone (behind s (fields u fs) xs)
fields_none s u fs [] h = broken (sym h)
fields_none s u fs (x ∷ xs) h = field_none s fs x xs h

register_none : (s : Scope) (t : PTy) (xs : List (List ℕ)) → HoldsNone (behind s (scope.register t) xs)
register_none s t [] h = broken (sym h)
register_none s t (x ∷ xs) h = refl

part_none : (s : Scope) (xs : List (List ℕ)) → HoldsNone (behind s part xs)
part_none s [] h = broken (sym h)
part_none s (x ∷ xs) h = refl

none_more : (s : Scope) (n : List ℕ) (w : What) → ((x : List (List ℕ)) → HoldsNone (s x)) → ((xs : List (List ℕ)) → HoldsNone (behind s w xs)) → (x : List (List ℕ)) → HoldsNone (declare s n w x)
unfolding declare
none_more s n w old new [] = old []
none_more s n w old new (x ∷ xs) = go (same_text n x)
  where
    go : (b : Bool) → HoldsNone (cond b (behind s w xs) (s (x ∷ xs)))
    go true = new xs
    go false = old (x ∷ xs)

module _ (main : List (List ℕ)) where
  core_stays : (s : Scope) → Outer s → (t : Top) → IsFine (top_tests main s t) → (x : List ℕ) (xs : List (List ℕ)) → is_missing (core_name x) ≡ false → after_top s t (x ∷ xs) ≡ core (x ∷ xs)
  core_stays s o t f x xs h = top_stays main s t f x xs (ap is_missing (o.core x [] h ∙ core_is x) ∙ h) ∙ o.core x xs h

  outer_more : (s : Scope) → Outer s → (t : Top) → IsFine (top_tests main s t) → (n : List ℕ) (w : What) → after_top s t ≡ declare s n w → FlatWhat s w → ((xs : List (List ℕ)) → HoldsNone (behind s w xs)) → Outer (after_top s t)
  outer_more s o t f n w e flat none =
      record {
        flat = subst IsFlat (sym e) (flat_declare s n w o.flat flat);
        none = subst (λ (u : Scope). (x : List (List ℕ)) → HoldsNone (u x)) (sym e) (none_more s n w o.none none);
        core = core_stays s o t f;
      }

  pub outer_top : (s : Scope) → Outer s → (t : Top) → IsFine (top_tests main s t) → Outer (after_top s t)
  outer_top s o (constant p t x e) f = outer_more s o (constant p t x e) f x (value Constant t) refl (λ h. broken (sym h)) (constant_none p s o.flat t f.1.0)
  outer_top s o (typedef p t x) f = outer_more s o (typedef p t x) f x (alias t) refl (λ h y ys. refl) (alias_none s t)
  outer_top s o (header_type p x fs) f = outer_more s o (header_type p x fs) f x (fields (Header _) fs) refl (λ h. broken (sym h)) (fields_none s (Header _) fs)
  outer_top s o (struct_type p x fs) f = outer_more s o (struct_type p x fs) f x (fields Struct fs) refl (λ h. broken (sym h)) (fields_none s Struct fs)
  outer_top s o (register p r) f = outer_more s o (register p r) f r.name (scope.register r.ty) refl (λ h. broken (sym h)) (register_none s r.ty)
  outer_top s o (parser p d) f = outer_more s o (parser p d) f d.name part refl (λ h. broken (sym h)) (part_none s)
  outer_top s o (control p c) f = outer_more s o (control p c) f c.name part refl (λ h. broken (sym h)) (part_none s)

-- ---- before the first declaration

either : (b : Bool) (u v : Stands) → HoldsNone u → HoldsNone v → HoldsNone (cond b u v)
either true u v h k = h
either false u v h k = k

name_none : (x : List ℕ) → HoldsNone (core_name x)
name_none x =
    either (same_text x (codes "standard_metadata_t")) _ _ (λ h. broken (sym h))
    (either (same_text x (codes "packet_in")) _ _ (λ h. broken (sym h))
    (either (same_text x (codes "packet_out")) _ _ (λ h. broken (sym h))
    (either (same_text x (codes "NoAction")) _ _ (λ h. broken (sym h))
    (either (same_text x (codes "mark_to_drop")) _ _ (λ h. broken (sym h))
    (either (same_text x (codes "digest")) _ _ (λ h. broken (sym h))
    (either (same_text x (codes "verify_checksum")) _ _ (λ h. broken (sym h))
    (either (same_text x (codes "update_checksum")) _ _ (λ h. broken (sym h))
    (either (same_text x (codes "HashAlgorithm")) _ _ (λ h. broken (sym h)) (λ h. refl)))))))))

standard_none : (y : List ℕ) → HoldsNone (standard_at y)
standard_none y =
    either (same_text y (codes "egress_spec")) _ _ (λ h. broken (sym h))
    (either (same_text y (codes "ingress_port") || same_text y (codes "egress_port")) _ _ (λ h. broken (sym h))
    (either (same_text y (codes "packet_length")) _ _ (λ h. broken (sym h))
    (either (same_text y (codes "checksum_error")) _ _ (λ h. broken (sym h))
    (either (same_text y (codes "parser_error")) _ _ (λ h. broken (sym h)) (λ h. refl)))))

core_none : (x : List (List ℕ)) → HoldsNone (core x)
unfolding core
core_none [] h = refl
core_none (x ∷ []) h = name_none x h
core_none (x ∷ y ∷ []) h = either (same_text x (codes "standard_metadata_t")) _ _ (standard_none y) (either (same_text x (codes "HashAlgorithm") && same_text y (codes "csum16")) _ _ (λ i. broken (sym i)) (λ i. refl)) h
core_none (x ∷ y ∷ z ∷ zs) h = refl

pub core_outer : Outer core
core_outer = record { flat = core_known.flat; none = core_none; core = λ x xs h. refl }

-- ---- at a control

-- what is in sight in front of a control, which breaks no rule
pub record AtControl (main : List (List ℕ)) (x : List ℕ) (c : Control) : Type 0 where
  pub scope : Scope
  pub outer : Outer scope
  pub fine : IsFine (control_tests (part_in main c.name) scope c)
  pub named : c.name ≡ x

pub at_control : (main : List (List ℕ)) (ts : List Top) (s : Scope) → Outer s → IsFine (tops_tests main s ts) → (x : List ℕ) (c : Control) → control_named ts x ≡ Some c → AtControl main x c
at_control main [] s o f x c e = absurd (cc)
at_control main (constant p t y v ∷ ts) s o f x c e = at_control main ts _ (outer_top main s o (constant p t y v) f.0) f.1 x c e
at_control main (typedef p t y ∷ ts) s o f x c e = at_control main ts _ (outer_top main s o (typedef p t y) f.0) f.1 x c e
at_control main (header_type p y fs ∷ ts) s o f x c e = at_control main ts _ (outer_top main s o (header_type p y fs) f.0) f.1 x c e
at_control main (struct_type p y fs ∷ ts) s o f x c e = at_control main ts _ (outer_top main s o (struct_type p y fs) f.0) f.1 x c e
at_control main (register p r ∷ ts) s o f x c e = at_control main ts _ (outer_top main s o (register p r) f.0) f.1 x c e
at_control main (parser p d ∷ ts) s o f x c e = at_control main ts _ (outer_top main s o (parser p d) f.0) f.1 x c e
at_control main (control p d ∷ ts) s o f x c e = go (same_text d.name x) refl e (at_control main ts _ (outer_top main s o (control p d) f.0) f.1 x c)
  where
    some_is : (a b : Control) → Some a ≡ Some b → a ≡ b
    some_is a b q = cc

    go : (b : Bool) → same_text d.name x ≡ b → cond b (Some d) (control_named ts x) ≡ Some c → (control_named ts x ≡ Some c → AtControl main x c) → AtControl main x c
    go true i j more = subst (AtControl main x) (some_is d c j) (record { scope = s; outer = o; fine = f.0; named = text_is d.name x i })
    go false i j more = more j

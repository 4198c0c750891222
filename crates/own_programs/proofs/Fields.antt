-- What stands behind the types of a program: nothing behind single values, single values behind headers, headers at most
-- behind structs, and behind the struct of metadata none.
use Rattle.std.proofs.Common.{◌≡◌, ℕ, List, [], ◌∷◌, Bool, true, false, cond, not, ◌&&◌, ◌||◌, codes, refl, sym, ap, ◌∙◌, subst}
use Rattle.lex_text.specs.Names.{same_text}
use Rattle.rule_tests.specs.Tests.{IsFine}
use Rattle.p4_tree.specs.Tree.{Top, constant, typedef, header_type, struct_type, register, parser, control}
use Rattle.p4_tree.specs.declared.statement.PTy.{PTy}
use Rattle.p4_tree.specs.declared.statement.PTy.TheVariants as type
use Rattle.p4_meaning.specs.Parts.{struct_fields}
use Rattle.p4_scopes.specs.Scopes.{Stands, missing, typed, held, cells, act, rows, state, function, algorithm, other, is_missing, typed_thing, as_held, as_typed, type_at, thing_in, Scope, What, alias, fields, value, part, field_at, behind, declare, standard_at, core_name, core_field, core, fields_bits}
use Rattle.p4_scopes.specs.Scopes as scope
use Rattle.p4_scopes.specs.Uses.{is_scalar, is_header, is_type}
use Rattle.p4_scopes.specs.declared.thing.Thing.{Thing}
use Rattle.p4_scopes.specs.declared.thing.Thing.TheVariants.{Scalar, Header, Struct, Standard, PacketIn, PacketOut}
use Rattle.p4_scopes.specs.declared.thing.Access.TheVariants.{Constant}
use Rattle.p4_scopes.specs.declared.thing.Function.{Function}
use Rattle.p4_statement_rules.specs.Expressions.{type_tests}
use Rattle.p4_declaration_rules.specs.Declarations.{is_no_number, is_no_field, fields_tests}
use Rattle.p4_declaration_rules.specs.Controls.{top_tests, after_top}
use Rattle.p4_rules.specs.Mains.{all_fields}
use Rattle.p4_rule_laws.specs.Kept.{Keeps, IsRooted}
use Rattle.p4_rule_laws.proofs.KeepsLemmas.{keeps_self, keeps_trans, declare_keeps}
use Rattle.p4_rule_laws.proofs.KeptFine.{declare_rooted}
use Rattle.p4_rule_laws.proofs.Rooted.{core_rooted}
use Rattle.p4_typing_laws.specs.Along.{is_value_type, IsFlat}
use Rattle.p4_typing_laws.proofs.Fine.{twice_not}
use Rattle.p4_typing_laws.proofs.CallCounts.{text_is, text_same}
use Rattle.p4_typing_laws.proofs.HiddenParams.{GoesOn}
use Rattle.p4_typing_laws.proofs.AlongRuns.{flat_type}
use Rattle.p4_typing_laws.proofs.KnownScopes.{FlatWhat, flat_declare, core_known}
use Rattle.own_programs.proofs.Names.{broken}
use Rattle.own_programs.proofs.Places.{is_held, is_held_header, missing_unheld, scalar_header}

-- a type of headers
abbrev pub is_header_type : Stands → Bool
is_header_type (typed f t) = is_header t
is_header_type _ = false

missing_type : (st : Stands) → is_missing st ≡ true → is_header_type st ≡ false
missing_type missing h = refl
missing_type (typed f t) h = broken (sym h)
missing_type _ h = refl

as_typed_same : (st : Stands) → is_header_type (as_typed st) ≡ is_header_type st
as_typed_same (typed f t) = refl
as_typed_same _ = refl

-- M: the struct of metadata
pub record Types (M : List ℕ) (s : Scope) : Type 0 where
  pub rooted : IsRooted s
  pub keeps : Keeps core s
  pub flat : IsFlat s
  pub in_header : (t x : List ℕ) (xs : List (List ℕ)) → is_header_type (s (t ∷ [])) ≡ true → is_header_type (s (t ∷ x ∷ xs)) ≡ false
  pub deep : (t x y : List ℕ) (ys : List (List ℕ)) → is_header_type (s (t ∷ x ∷ y ∷ ys)) ≡ false
  pub metadata : (x : List ℕ) → is_header_type (s (M ∷ x ∷ [])) ≡ false
  -- outside parsers and controls constants alone are values
  pub unheld : (x y : List ℕ) (ys : List (List ℕ)) → is_held (s (x ∷ y ∷ ys)) ≡ false
  pub no_header : (x : List ℕ) → is_held_header (s (x ∷ [])) ≡ false

-- what is declared fits that
record Fits (M : List ℕ) (s : Scope) (n : List ℕ) (w : What) : Type 0 where
  flat : FlatWhat s w
  in_header : is_header_type (behind s w []) ≡ true → (x : List ℕ) (xs : List (List ℕ)) → is_header_type (behind s w (x ∷ xs)) ≡ false
  deep : (x y : List ℕ) (ys : List (List ℕ)) → is_header_type (behind s w (x ∷ y ∷ ys)) ≡ false
  metadata : n ≡ M → (x : List ℕ) → is_header_type (behind s w (x ∷ [])) ≡ false
  unheld : (y : List ℕ) (ys : List (List ℕ)) → is_held (behind s w (y ∷ ys)) ≡ false
  no_header : is_held_header (behind s w []) ≡ false

types_declared : (M : List ℕ) (s : Scope) (n : List ℕ) (w : What) → Types M s → not (is_missing (s (n ∷ []))) ≡ false → Fits M s n w → Types M (declare s n w)
unfolding declare
types_declared M s n w ty new one =
    record {
      rooted = declare_rooted s ty.rooted n w;
      keeps = keeps_trans core s (declare s n w) ty.keeps (declare_keeps s n w new);
      flat = flat_declare s n w ty.flat one.flat;
      in_header = λ t x xs h. in_header t x xs (same_text n t) h;
      deep = λ t x y ys. deep t x y ys (same_text n t);
      metadata = λ x. metadata x (same_text n M) refl;
      unheld = λ x y ys. unheld x y ys (same_text n x);
      no_header = λ x. no_header x (same_text n x);
    }
  where
    in_header : (t x : List ℕ) (xs : List (List ℕ)) (c : Bool) → is_header_type (cond c (behind s w []) (s (t ∷ []))) ≡ true → is_header_type (cond c (behind s w (x ∷ xs)) (s (t ∷ x ∷ xs))) ≡ false
    in_header t x xs true h = one.in_header h x xs
    in_header t x xs false h = ty.in_header t x xs h

    deep : (t x y : List ℕ) (ys : List (List ℕ)) (c : Bool) → is_header_type (cond c (behind s w (x ∷ y ∷ ys)) (s (t ∷ x ∷ y ∷ ys))) ≡ false
    deep t x y ys true = one.deep x y ys
    deep t x y ys false = ty.deep t x y ys

    metadata : (x : List ℕ) (c : Bool) → same_text n M ≡ c → is_header_type (cond c (behind s w (x ∷ [])) (s (M ∷ x ∷ []))) ≡ false
    metadata x true e = one.metadata (text_is n M e) x
    metadata x false e = ty.metadata x

    unheld : (x y : List ℕ) (ys : List (List ℕ)) (c : Bool) → is_held (cond c (behind s w (y ∷ ys)) (s (x ∷ y ∷ ys))) ≡ false
    unheld x y ys true = one.unheld y ys
    unheld x y ys false = ty.unheld x y ys

    no_header : (x : List ℕ) (c : Bool) → is_held_header (cond c (behind s w []) (s (x ∷ []))) ≡ false
    no_header x true = one.no_header
    no_header x false = ty.no_header x

-- ---- fields

number_field : (t : Thing) → is_no_number t ≡ false → is_no_field t ≡ false
number_field (Scalar k) h = refl
number_field (Header n) h = broken h
number_field Struct h = h
number_field Standard h = h
number_field PacketIn h = h
number_field PacketOut h = h

number_header : (t : Thing) → is_no_number t ≡ false → is_header t ≡ false
number_header (Header n) h = broken h
number_header _ h = refl

-- a field is a type, and no value
typed_unheld : (st : Stands) → is_held (as_typed st) ≡ false
typed_unheld (typed f t) = refl
typed_unheld _ = refl

type_unheld : (s : Scope) (t : PTy) (ys : List (List ℕ)) → is_held (type_at s t ys) ≡ false
type_unheld s (type.Bit w) [] = refl
type_unheld s (type.Bit w) (y ∷ ys) = refl
type_unheld s type.Bool [] = refl
type_unheld s type.Bool (y ∷ ys) = refl
type_unheld s (type.Named u) ys = typed_unheld (s (u ∷ ys))

field_unheld : (s : Scope) (fs : List (PTy × List ℕ)) (x : List ℕ) (ys : List (List ℕ)) → is_held (field_at s fs x ys) ≡ false
field_unheld s [] x ys = refl
field_unheld s (g ∷ fs) x ys = go (same_text g.1 x) (field_unheld s fs x ys)
  where
    go : (b : Bool) → is_held (field_at s fs x ys) ≡ false → is_held (cond b (type_at s g.0 ys) (field_at s fs x ys)) ≡ false
    go true h = type_unheld s g.0 ys
    go false h = h

module _ (M : List ℕ) (s : Scope) (ty : Types M s) where
  -- behind a type that a field may have
  behind_field : (u y : List ℕ) (ys : List (List ℕ)) (st : Stands) → s (u ∷ []) ≡ st → is_missing st ≡ false → not (is_type st) ≡ false → is_no_field (typed_thing (as_typed st)) ≡ false → is_header_type (s (u ∷ y ∷ ys)) ≡ false
  behind_field u y ys (typed f (Scalar k)) e m t h = missing_type _ (ty.flat.flat u (ap is_value_type e) y ys)
  behind_field u y ys (typed f (Header n)) e m t h = ty.in_header u y ys (ap is_header_type e)
  behind_field u y ys (typed f Struct) e m t h = broken h
  behind_field u y ys (typed f Standard) e m t h = broken h
  behind_field u y ys (typed f PacketIn) e m t h = broken h
  behind_field u y ys (typed f PacketOut) e m t h = broken h
  behind_field u y ys missing e m t h = broken m
  behind_field u y ys (held a z) e m t h = broken t
  behind_field u y ys (cells k) e m t h = broken t
  behind_field u y ys (act ks n) e m t h = broken t
  behind_field u y ys (rows n) e m t h = broken t
  behind_field u y ys state e m t h = broken t
  behind_field u y ys (function g) e m t h = broken t
  behind_field u y ys algorithm e m t h = broken t
  behind_field u y ys other e m t h = broken t

  below_field : (p : ℕ) (t : PTy) → IsFine (type_tests p s t) → is_no_field (thing_in s t) ≡ false → (y : List ℕ) (ys : List (List ℕ)) → is_header_type (type_at s t (y ∷ ys)) ≡ false
  below_field p (type.Bit w) f h y ys = refl
  below_field p type.Bool f h y ys = refl
  below_field p (type.Named u) f h y ys = as_typed_same (s (u ∷ y ∷ ys)) ∙ behind_field u y ys (s (u ∷ [])) refl f.0 f.1 h

  -- a type that is no header's
  at_field : (st : Stands) → is_header (typed_thing (as_typed st)) ≡ false → is_header_type (as_typed st) ≡ false
  at_field (typed f t) h = h
  at_field _ h = refl

  of_field : (t : PTy) → is_header (thing_in s t) ≡ false → is_header_type (type_at s t []) ≡ false
  of_field (type.Bit w) h = refl
  of_field type.Bool h = refl
  of_field (type.Named u) h = at_field (s (u ∷ [])) h

  -- of headers
  number_type : (p : ℕ) (t : PTy) → IsFine (type_tests p s t) → is_no_number (thing_in s t) ≡ false → (ys : List (List ℕ)) → is_header_type (type_at s t ys) ≡ false
  number_type p t f h [] = of_field t (number_header (thing_in s t) h)
  number_type p t f h (y ∷ ys) = below_field p t f (number_field (thing_in s t) h) y ys

  if_field : (b : Bool) (u v : Stands) → is_header_type u ≡ false → is_header_type v ≡ false → is_header_type (cond b u v) ≡ false
  if_field true u v h k = h
  if_field false u v h k = k

  header_fields : (p : ℕ) (fs : List (PTy × List ℕ)) → IsFine (fields_tests p is_no_number s fs) → (x : List ℕ) (xs : List (List ℕ)) → is_header_type (field_at s fs x xs) ≡ false
  header_fields p [] f x xs = refl
  header_fields p (g ∷ fs) f x xs = if_field (same_text g.1 x) (type_at s g.0 xs) (field_at s fs x xs) (number_type p g.0 f.0.0 f.0.1 xs) (header_fields p fs f.1 x xs)

  struct_deep : (p : ℕ) (fs : List (PTy × List ℕ)) → IsFine (fields_tests p is_no_field s fs) → (x y : List ℕ) (ys : List (List ℕ)) → is_header_type (field_at s fs x (y ∷ ys)) ≡ false
  struct_deep p [] f x y ys = refl
  struct_deep p (g ∷ fs) f x y ys = if_field (same_text g.1 x) (type_at s g.0 (y ∷ ys)) (field_at s fs x (y ∷ ys)) (below_field p g.0 f.0.0 f.0.1 y ys) (struct_deep p fs f.1 x y ys)

  -- S: behind all declarations
  module _ (S : Scope) (on : GoesOn s S) where
    scalar_there : (p : ℕ) (t : PTy) → IsFine (type_tests p s t) → is_scalar (thing_in S t) ≡ true → is_header (thing_in s t) ≡ false
    scalar_there p (type.Bit w) f h = refl
    scalar_there p type.Bool f h = refl
    scalar_there p (type.Named u) f h = scalar_header (typed_thing (as_typed (s (u ∷ [])))) (ap (λ (st : Stands). is_scalar (typed_thing (as_typed st))) (sym (on.stays u f.0)) ∙ h)

    both_hold : (a b : Bool) → (a && b) ≡ true → (a ≡ true) × (b ≡ true)
    both_hold true b h = (refl, h)
    both_hold false b h = broken (sym h)

    scalar_fields : (p : ℕ) (fs : List (PTy × List ℕ)) → IsFine (fields_tests p is_no_field s fs) → all_fields is_scalar S fs ≡ true → (x : List ℕ) → is_header_type (field_at s fs x []) ≡ false
    scalar_fields p [] f h x = refl
    scalar_fields p (g ∷ fs) f h x =
        (let k = both_hold (is_scalar (thing_in S g.0)) (all_fields is_scalar S fs) h in
        if_field (same_text g.1 x) (type_at s g.0 []) (field_at s fs x []) (of_field g.0 (scalar_there p g.0 f.0.0 k.0)) (scalar_fields p fs f.1 k.1 x))

    -- one declaration more: where it is the struct of metadata, its fields are single values
    pub types_top : (main : List (List ℕ)) (t : Top) (ts : List Top) → IsFine (top_tests main s t) → (is_missing (s (M ∷ [])) ≡ true → all_fields is_scalar S (struct_fields (t ∷ ts) M) ≡ true) → Types M (after_top s t)
    types_top main (constant p t x e) ts f m =
        types_declared M s x (value Constant t) ty f.0
        (record {
          flat = λ h. broken (sym h);
          in_header = λ h. broken (sym h);
          deep = λ y z zs. missing_type _ (flat_type Constant s ty.flat p t f.1.0 y (z ∷ zs));
          metadata = λ h y. missing_type _ (flat_type Constant s ty.flat p t f.1.0 y []);
          unheld = λ y ys. missing_unheld _ (flat_type Constant s ty.flat p t f.1.0 y ys);
          no_header = scalar_header (thing_in s t) (twice_not _ f.1.0.1);
        })
    types_top main (typedef p t x) ts f m =
        types_declared M s x (alias t) ty f.0
        (record {
          flat = λ h y ys. refl;
          in_header = λ h y ys. refl;
          deep = λ y z zs. refl;
          metadata = λ h y. refl;
          unheld = λ y ys. refl;
          no_header = refl;
        })
    types_top main (header_type p x fs) ts f m =
        types_declared M s x (fields (Header (fields_bits s fs)) fs) ty f.0
        (record {
          flat = λ h. broken (sym h);
          in_header = λ h y ys. header_fields p fs f.1.1.0 y ys;
          deep = λ y z zs. header_fields p fs f.1.1.0 y (z ∷ zs);
          metadata = λ h y. header_fields p fs f.1.1.0 y [];
          unheld = λ y ys. field_unheld s fs y ys;
          no_header = refl;
        })
    types_top main (struct_type p x fs) ts f m =
        types_declared M s x (fields Struct fs) ty f.0
        (record {
          flat = λ h. broken (sym h);
          in_header = λ h. broken (sym h);
          deep = λ y z zs. struct_deep p fs f.1.1 y z zs;
          metadata = λ h y. scalar_fields p fs f.1.1 (found h) y;
          unheld = λ y ys. field_unheld s fs y ys;
          no_header = refl;
        })
      where
        found : x ≡ M → all_fields is_scalar S fs ≡ true
        found e = ap (λ (b : Bool). all_fields is_scalar S (cond b fs (struct_fields ts M))) (sym (text_same x M e)) ∙ m (subst (λ (y : List ℕ). is_missing (s (y ∷ [])) ≡ true) e (twice_not _ f.0))
    types_top main (register p r) ts f m = types_declared M s r.name (scope.register r.ty) ty f.0 (record { flat = λ h. broken (sym h); in_header = λ h. broken (sym h); deep = λ y z zs. refl; metadata = λ h y. refl; unheld = λ y ys. refl; no_header = refl })
    types_top main (parser p d) ts f m = types_declared M s d.name part ty f.0 (record { flat = λ h. broken (sym h); in_header = λ h. broken (sym h); deep = λ y z zs. refl; metadata = λ h y. refl; unheld = λ y ys. refl; no_header = refl })
    types_top main (control p c) ts f m = types_declared M s c.name part ty f.0 (record { flat = λ h. broken (sym h); in_header = λ h. broken (sym h); deep = λ y z zs. refl; metadata = λ h y. refl; unheld = λ y ys. refl; no_header = refl })

-- ---- before the first declaration

module _ (Q : Stands → Bool) where
  if_not : (b : Bool) (u v : Stands) → Q u ≡ false → Q v ≡ false → Q (cond b u v) ≡ false
  if_not true u v h k = h
  if_not false u v h k = k

  -- a test that fails on all of the architecture's own
  record Fails : Type 0 where
    types : (f : Bool) (t : Thing) → is_header t ≡ false → Q (typed f t) ≡ false
    action : Q (act [] 0) ≡ false
    functions : (f : Function) → Q (function f) ≡ false
    states : Q state ≡ false
    others : Q other ≡ false
    algorithms : Q algorithm ≡ false
    nothing : Q missing ≡ false

  name_fails : Fails → (x : List ℕ) → Q (core_name x) ≡ false
  name_fails k x =
      if_not (same_text x (codes "standard_metadata_t")) _ _ (k.types _ _ refl)
      (if_not (same_text x (codes "packet_in")) _ _ (k.types _ _ refl)
      (if_not (same_text x (codes "packet_out")) _ _ (k.types _ _ refl)
      (if_not (same_text x (codes "NoAction")) _ _ k.action
      (if_not (same_text x (codes "mark_to_drop")) _ _ (k.functions _)
      (if_not (same_text x (codes "digest")) _ _ (k.functions _)
      (if_not (same_text x (codes "verify_checksum")) _ _ (k.functions _)
      (if_not (same_text x (codes "update_checksum")) _ _ (k.functions _)
      (if_not (same_text x (codes "HashAlgorithm")) _ _ k.others k.nothing))))))))

  standard_fails : Fails → (y : List ℕ) → Q (standard_at y) ≡ false
  standard_fails k y =
      if_not (same_text y (codes "egress_spec")) _ _ (k.types _ _ refl)
      (if_not (same_text y (codes "ingress_port") || same_text y (codes "egress_port")) _ _ (k.types _ _ refl)
      (if_not (same_text y (codes "packet_length")) _ _ (k.types _ _ refl)
      (if_not (same_text y (codes "checksum_error")) _ _ (k.types _ _ refl)
      (if_not (same_text y (codes "parser_error")) _ _ (k.types _ _ refl) k.nothing))))

  field_fails : Fails → (x y : List ℕ) → Q (core_field x y) ≡ false
  field_fails k x y = if_not (same_text x (codes "standard_metadata_t")) _ _ (standard_fails k y) (if_not (same_text x (codes "HashAlgorithm") && same_text y (codes "csum16")) _ _ k.algorithms k.nothing)

  core_fails : Fails → (x : List ℕ) (xs : List (List ℕ)) → Q (core (x ∷ xs)) ≡ false
  unfolding core
  core_fails k x [] = name_fails k x
  core_fails k x (y ∷ []) = field_fails k x y
  core_fails k x (y ∷ z ∷ zs) = k.nothing

no_header_type : Fails is_header_type
no_header_type = record { types = λ f t h. h; action = refl; functions = λ f. refl; states = refl; others = refl; algorithms = refl; nothing = refl }

none_held : Fails is_held
none_held = record { types = λ f t h. refl; action = refl; functions = λ f. refl; states = refl; others = refl; algorithms = refl; nothing = refl }

no_held_header : Fails is_held_header
no_held_header = record { types = λ f t h. refl; action = refl; functions = λ f. refl; states = refl; others = refl; algorithms = refl; nothing = refl }

pub core_no_header : (x : List ℕ) (xs : List (List ℕ)) → is_header_type (core (x ∷ xs)) ≡ false
core_no_header x xs = core_fails is_header_type no_header_type x xs

pub core_types : (M : List ℕ) → Types M core
core_types M =
    record {
      rooted = core_rooted;
      keeps = keeps_self core;
      flat = core_known.flat;
      in_header = λ t x xs h. core_fails is_header_type no_header_type t (x ∷ xs);
      deep = λ t x y ys. core_fails is_header_type no_header_type t (x ∷ y ∷ ys);
      metadata = λ x. core_fails is_header_type no_header_type M (x ∷ []);
      unheld = λ x y ys. core_fails is_held none_held x (y ∷ ys);
      no_header = λ x. core_fails is_held_header no_held_header x [];
    }

-- What is offered in ingress and egress of a linked program.
use Rattle.std.proofs.Common.{codes, ◌≡◌, ℕ, List, [], ◌∷◌, ◌++◌, Bool, true, false, cond, not, ◌&&◌, refl, sym, ap, ap₂, ◌∙◌}
use Rattle.lex_text.specs.Names.{same_text}
use Rattle.rule_tests.specs.Tests.{IsFine}
use Rattle.p4_tree.specs.Tree.{Top, constant, typedef, header_type, struct_type, register, parser, control}
use Rattle.p4_tree.specs.declared.statement.PTy.{PTy}
use Rattle.p4_tree.specs.declared.statement.PTy.TheVariants as type
use Rattle.p4_tree.specs.declared.program.Param.{Param}
use Rattle.p4_tree.specs.declared.program.Way.{Way}
use Rattle.p4_tree.specs.declared.program.Way.TheVariants.{Plain, Into, Out, Both}
use Rattle.p4_scopes.specs.Scopes.{Stands, missing, typed, held, cells, act, rows, state, function, algorithm, other, is_missing, as_held, as_typed, typed_thing, access_of, type_at, thing_in, Scope, What, alias, fields, value, action, table, parser_state, part, behind, declare, field_at, standard_at, core}
use Rattle.p4_scopes.specs.Scopes as scope
use Rattle.p4_scopes.specs.declared.kind.Kind.TheVariants.{Number}
use Rattle.p4_scopes.specs.declared.thing.Thing.TheVariants.{Scalar, Struct, Standard}
use Rattle.p4_scopes.specs.declared.thing.Access.{Access}
use Rattle.p4_scopes.specs.declared.thing.Access.TheVariants.{Writable}
use Rattle.p4_declaration_rules.specs.Parsers.{way_access, ways_tests}
use Rattle.p4_declaration_rules.specs.Controls.{after_top}
use Rattle.p4_rules.specs.Mains.{core_type, headers as headers_wanted, metadata as metadata_wanted, same_way, is_named, is_struct, Structs, is_wanted}
use Rattle.p4_rule_laws.specs.Old.{OldPath}
use Rattle.p4_rule_laws.specs.Kept.{Keeps}
use Rattle.p4_rule_laws.specs.Growth.{More, Sees}
use Rattle.p4_rule_laws.proofs.KeepsLemmas.{keeps_trans, declare_keeps, declared}
use Rattle.p4_typing_laws.proofs.Fine.{twice_not}
use Rattle.p4_typing_laws.proofs.CountedNames.{self_stands}
use Rattle.own_programs.specs.OwnPrograms.{is_own}
use Rattle.own_programs.proofs.Names.{broken}
use Rattle.own_programs.proofs.Params.{both_hold}
use Rattle.linked_programs.specs.Linked.{tele_name, tele_field, length_field}
use Rattle.linked_rules.specs.Passes.{Offers, Shows}

-- ---- a type at top level is not for reading only

abbrev is_fixed : Stands → Bool
is_fixed (typed true t) = true
is_fixed _ = false

pub record NoFixed (s : Scope) : Type 0 where
  pub none : (x : List ℕ) → is_fixed (s (x ∷ [])) ≡ false

behind_fixed : (s : Scope) (w : What) → is_fixed (behind s w []) ≡ false
behind_fixed s (alias t) = refl
behind_fixed s (fields h fs) = refl
behind_fixed s (value a t) = refl
behind_fixed s (scope.register t) = refl
behind_fixed s (action ps m) = refl
behind_fixed s (table m) = refl
behind_fixed s parser_state = refl
behind_fixed s part = refl

pub fixed_declared : (s : Scope) (n : List ℕ) (w : What) → NoFixed s → NoFixed (declare s n w)
unfolding declare
fixed_declared s n w h = record { none = λ x. go x (same_text n x) }
  where
    go : (x : List ℕ) (b : Bool) → is_fixed (cond b (behind s w []) (s (x ∷ []))) ≡ false
    go x true = behind_fixed s w
    go x false = h.none x

pub fixed_top : (s : Scope) (t : Top) → NoFixed s → NoFixed (after_top s t)
fixed_top s (constant q u x e) h = fixed_declared s x _ h
fixed_top s (typedef q u x) h = fixed_declared s x _ h
fixed_top s (header_type q x fs) h = fixed_declared s x _ h
fixed_top s (struct_type q x fs) h = fixed_declared s x _ h
fixed_top s (register q d) h = fixed_declared s d.name _ h
fixed_top s (parser q d) h = fixed_declared s d.name _ h
fixed_top s (control q c) h = fixed_declared s c.name _ h

passed : (b : Bool) (a u : Stands) → is_fixed a ≡ false → is_fixed u ≡ false → is_fixed (cond b a u) ≡ false
passed true a u n i = n
passed false a u n i = i

pub core_fixed : NoFixed core
unfolding core
core_fixed =
    record {
      none = λ x.
          passed (same_text x (codes "standard_metadata_t")) _ _ refl
          (passed (same_text x (codes "packet_in")) _ _ refl
          (passed (same_text x (codes "packet_out")) _ _ refl
          (passed (same_text x (codes "NoAction")) _ _ refl
          (passed (same_text x (codes "mark_to_drop")) _ _ refl
          (passed (same_text x (codes "digest")) _ _ refl
          (passed (same_text x (codes "verify_checksum")) _ _ refl
          (passed (same_text x (codes "update_checksum")) _ _ refl
          (passed (same_text x (codes "HashAlgorithm")) other missing refl refl))))))));
    }

struct_is : (st : Stands) → is_fixed st ≡ false → is_struct (typed_thing (as_typed st)) ≡ true → st ≡ typed false Struct
struct_is (typed false Struct) f h = refl
struct_is (typed true t) f h = broken f
struct_is (typed false (Scalar k)) f h = broken (sym h)
struct_is _ f h = broken (sym h)

-- a struct that is a struct behind all declarations is one where it is declared
pub struct_here : (S s : Scope) (x : List ℕ) → NoFixed s → S (x ∷ []) ≡ s (x ∷ []) → is_struct (thing_in S (type.Named x)) ≡ true → s (x ∷ []) ≡ typed false Struct
struct_here S s x n e h = struct_is (s (x ∷ [])) (n.none x) (ap (λ (st : Stands). is_struct (typed_thing (as_typed st))) (sym e) ∙ h)

way_is : (w v : Way) → same_way w v ≡ true → v ≡ w
way_is Plain Plain h = refl
way_is Into Into h = refl
way_is Out Out h = refl
way_is Both Both h = refl
way_is _ _ h = broken (sym h)

-- ---- the parameters of ingress and egress

-- what is known of the two structs at a place of the linked program
pub record HasStructs (S : Scope) (H M : List ℕ) (u t : Scope) : Type 0 where
  pub keeps : Keeps core t
  pub front : Keeps u t
  pub headers : is_missing (t (H ∷ [])) ≡ false
  pub metadata : is_missing (t (M ∷ [])) ≡ false
  pub tele : (xs : List (List ℕ)) → t (H ∷ tele_name ∷ xs) ≡ as_typed (u (codes "hydra_tele_t" ∷ xs))
  pub length : t (M ∷ codes "hydra_length" ∷ []) ≡ typed false (Scalar (Number 32))
  pub own_headers : (x : List ℕ) (xs : List (List ℕ)) → OldPath is_own (x ∷ xs) → t (H ∷ x ∷ xs) ≡ S (H ∷ x ∷ xs)
  pub own_metadata : (x : List ℕ) (xs : List (List ℕ)) → OldPath is_own (x ∷ xs) → t (M ∷ x ∷ xs) ≡ S (M ∷ x ∷ xs)

pub structs_kept : (S : Scope) (H M : List ℕ) (u s t : Scope) → Keeps s t → HasStructs S H M u s → HasStructs S H M u t
structs_kept S H M u s t k h =
    record {
      keeps = keeps_trans core s t h.keeps k;
      front = keeps_trans u s t h.front k;
      headers = ap is_missing (k.kept H [] h.headers) ∙ h.headers;
      metadata = ap is_missing (k.kept M [] h.metadata) ∙ h.metadata;
      tele = λ xs. k.kept H (tele_name ∷ xs) h.headers ∙ h.tele xs;
      length = k.kept M (codes "hydra_length" ∷ []) h.metadata ∙ h.length;
      own_headers = λ x xs o. k.kept H (x ∷ xs) h.headers ∙ h.own_headers x xs o;
      own_metadata = λ x xs o. k.kept M (x ∷ xs) h.metadata ∙ h.own_metadata x xs o;
    }

-- from what the two programs see
pub has_structs :
    (more : List ℕ → More) (S u s t : Scope) → Sees is_own more u s t → Keeps core t → Keeps s S → (H M : List ℕ) → is_own H ≡ true → is_own M ≡ true → s (H ∷ []) ≡ typed false Struct → s (M ∷ []) ≡ typed false Struct
    → (more H).front ++ (more H).back ≡ tele_field ∷ [] → (more M).front ++ (more M).back ≡ length_field ∷ [] → HasStructs S H M u t
has_structs more S u s t w keeps sS H M old_H old_M struct_H struct_M more_H more_M =
    record {
      keeps = keeps;
      front = w.front;
      headers = ap is_missing (sym (w.alike.same (H ∷ []) (old_H, tt))) ∙ ap is_missing struct_H;
      metadata = ap is_missing (sym (w.alike.same (M ∷ []) (old_M, tt))) ∙ ap is_missing struct_M;
      tele = λ xs. w.wider H old_H struct_H tele_name xs refl ∙ ap (λ (fs : List (PTy × List ℕ)). field_at u fs tele_name xs) more_H;
      length = w.wider M old_M struct_M (codes "hydra_length") [] refl ∙ ap (λ (fs : List (PTy × List ℕ)). field_at u fs (codes "hydra_length") []) more_M;
      own_headers = λ x xs o. sym (w.alike.same (H ∷ x ∷ xs) (old_H, o)) ∙ sym (sS.kept H (x ∷ xs) (ap is_missing struct_H));
      own_metadata = λ x xs o. sym (w.alike.same (M ∷ x ∷ xs) (old_M, o)) ∙ sym (sS.kept M (x ∷ xs) (ap is_missing struct_M));
    }

module _ (S : Scope) (H M : List ℕ) (u t : Scope) (has : HasStructs S H M u t) where
  abbrev keeps : Keeps core t
  keeps = has.keeps

  twice_typed : (a : Access) (st : Stands) → as_held a (as_typed (as_typed st)) ≡ as_held a (as_typed st)
  twice_typed a (typed f k) = refl
  twice_typed a missing = refl
  twice_typed a (held b k) = refl
  twice_typed a (cells k) = refl
  twice_typed a (act ps n) = refl
  twice_typed a (rows n) = refl
  twice_typed a state = refl
  twice_typed a (function f) = refl
  twice_typed a algorithm = refl
  twice_typed a other = refl

  module _ (a b c : Param) (ty_a : a.ty ≡ type.Named H) (ty_b : b.ty ≡ type.Named M) (ty_c : c.ty ≡ type.Named (codes "standard_metadata_t")) (way_a : way_access a.way ≡ Writable) (way_b : way_access b.way ≡ Writable) (way_c : way_access c.way ≡ Writable)
      (f : IsFine (ways_tests t (a ∷ b ∷ c ∷ []))) where
    abbrev what : Param → What
    what q = value (way_access q.way) q.ty

    abbrev t1 : Scope
    t1 = declare t a.name (what a)

    abbrev t2 : Scope
    t2 = declare t1 b.name (what b)

    abbrev v : Scope
    v = declare t2 c.name (what c)

    k1 : Keeps t t1
    k1 = declare_keeps t a.name (what a) f.0.0

    k2 : Keeps t1 t2
    k2 = declare_keeps t1 b.name (what b) f.1.0.0

    k3 : Keeps t2 v
    k3 = declare_keeps t2 c.name (what c) f.1.1.0.0

    self : (z : Scope) (q : Param) → is_missing (declare z q.name (what q) (q.name ∷ [])) ≡ false
    self z q = ap is_missing (self_stands z q.name (what q))

    held_behind : (z : Scope) (q : Param) (n x : List ℕ) (xs : List (List ℕ)) → q.ty ≡ type.Named n → way_access q.way ≡ Writable → declare z q.name (what q) (q.name ∷ x ∷ xs) ≡ as_held Writable (as_typed (z (n ∷ x ∷ xs)))
    held_behind z q n x xs e g = declared z q.name (what q) (x ∷ xs) ∙ ap₂ (λ (h : Access) (ty : PTy). as_held h (type_at z ty (x ∷ xs))) g e

    core_fields : (y : List ℕ) → core (codes "standard_metadata_t" ∷ y ∷ []) ≡ standard_at y
    unfolding core
    core_fields y = refl

    standard_self : core (codes "standard_metadata_t" ∷ []) ≡ typed false Standard
    unfolding core
    standard_self = refl

    to_t2 : Keeps t t2
    to_t2 = keeps_trans t t1 t2 k1 k2

    pub shown : Shows S H M (record { headers = a.name; metadata = b.name; standard = c.name }) v
    shown =
        record {
          headers = λ x xs o.
              (keeps_trans t1 t2 v k2 k3).kept a.name (x ∷ xs) (self t a) ∙ held_behind t a H x xs ty_a way_a ∙ ap (λ (st : Stands). as_held Writable (as_typed st)) (has.own_headers x xs o);
          metadata = λ x xs o.
              k3.kept b.name (x ∷ xs) (self t1 b) ∙ held_behind t1 b M x xs ty_b way_b ∙ ap (λ (st : Stands). as_held Writable (as_typed st)) (k1.kept M (x ∷ xs) has.metadata ∙ has.own_metadata x xs o);
        }

    pub offered : Offers (record { headers = a.name; metadata = b.name; standard = c.name }) u v
    offered =
        (let front : Keeps u t = has.front in
        let from_a = keeps_trans t1 t2 v k2 k3 in
        let core2 : Keeps core t2 = keeps_trans core t t2 keeps to_t2 in
        record {
          front = keeps_trans u t v front (keeps_trans t t2 v to_t2 k3);
          core = keeps_trans core t2 v core2 k3;
          headers = ap is_missing (from_a.kept a.name [] (self t a)) ∙ self t a;
          metadata = ap is_missing (k3.kept b.name [] (self t1 b)) ∙ self t1 b;
          standard =
              self_stands t2 c.name (what c) ∙ ap₂ (λ (h : Access) (ty : PTy). held h (typed_thing (type_at t2 ty []))) way_c ty_c
              ∙ ap (λ (st : Stands). held Writable (typed_thing (as_typed st))) (core2.kept (codes "standard_metadata_t") [] (ap is_missing standard_self) ∙ standard_self);
          tele = λ xs.
              from_a.kept a.name (tele_name ∷ xs) (self t a) ∙ held_behind t a H tele_name xs ty_a way_a ∙ ap (λ (st : Stands). as_held Writable (as_typed st)) (has.tele xs)
              ∙ twice_typed Writable (u (codes "hydra_tele_t" ∷ xs));
          length =
              k3.kept b.name (codes "hydra_length" ∷ []) (self t1 b) ∙ held_behind t1 b M (codes "hydra_length") [] ty_b way_b
              ∙ ap (λ (st : Stands). as_held Writable (as_typed st)) (k1.kept M (codes "hydra_length" ∷ []) has.metadata ∙ has.length);
          fields = λ y.
              held_behind t2 c (codes "standard_metadata_t") y [] ty_c way_c
              ∙ ap (λ (st : Stands). as_held Writable (as_typed st)) (core2.kept (codes "standard_metadata_t") (y ∷ []) (ap is_missing standard_self) ∙ core_fields y);
        })

-- by what is wanted of them
writable_way : (w : Way) (v : Way) → way_access w ≡ Writable → same_way w v ≡ true → way_access v ≡ Writable
writable_way w v a h = ap way_access (way_is w v h) ∙ a

pub wanted_way : (r : Structs) (w : Way) (q : Param) → way_access w ≡ Writable → not (is_wanted r (headers_wanted w) q) ≡ false → way_access q.way ≡ Writable
wanted_way r w q a k = writable_way w q.way a (both_hold (same_way w q.way) (is_named q.ty r.headers_type && r.has_headers) (twice_not _ k)).0

pub wanted_metadata : (r : Structs) (w : Way) (q : Param) → way_access w ≡ Writable → not (is_wanted r (metadata_wanted w) q) ≡ false → way_access q.way ≡ Writable
wanted_metadata r w q a k = writable_way w q.way a (both_hold (same_way w q.way) (is_named q.ty r.metadata_type && r.has_metadata) (twice_not _ k)).0

pub wanted_core : (r : Structs) (w : Way) (x : List ℕ) (q : Param) → way_access w ≡ Writable → not (is_wanted r (core_type w x) q) ≡ false → way_access q.way ≡ Writable
wanted_core r w x q a k = writable_way w q.way a (both_hold (same_way w q.way) (is_named q.ty x) (twice_not _ k)).0

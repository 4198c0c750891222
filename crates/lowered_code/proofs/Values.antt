-- An expression in P4 has the value that it has in the property, and the width of its own.
use Rattle.std.proofs.Common.{◌≡◌, ℕ, ◌+◌, List, [], ◌∷◌, true, not, Option, Some, None, refl, sym, ap, ap₂, ◌∙◌, subst}
use Rattle.bit_values.specs.Bits.{Word, IsWord}
use Rattle.bit_values.specs.Widths.{bit, holds, either_width, sound_width, cast_word}
use Rattle.bit_values.specs.Operators as table
use Rattle.bit_values.specs.Operators.{left_place, right_place, own_of}
use Rattle.bit_values.specs.declared.operator.Operator.{Operator}
use Rattle.p4_tree.specs.Tree as p4
use Rattle.p4_tree.specs.Operators as p4_operators
use Rattle.p4_meaning.specs.Store.{Store, read}
use Rattle.p4_meaning.specs.Value as p4v
use Rattle.network_run.specs.PathMeaning.{Doing}
use Rattle.indus_tree.specs.Tree.{Expr, Exprs, num, flag, read as reads, count, index, member, negation, inversion, binary, cast, none, more, Decl}
use Rattle.indus_tree.specs.State.{Held, lookup, held_width, shape_width, width_of}
use Rattle.indus_tree.specs.Operators as indus_operators
use Rattle.indus_tree.specs.Reads.{Seen}
use Rattle.indus_tree.specs.Shapes.{HasWidth}
use Rattle.indus_tree.specs.Meaning.{seen_by}
use Rattle.indus_tree.specs.Value.{own_width, value_of}
use Rattle.indus_tree.specs.declared.tree.DeclKind.{DeclKind}
use Rattle.indus_tree.specs.declared.tree.DeclKind.TheVariants.{Tele, Sensor, Header, Control}
use Rattle.indus_tree.specs.declared.tree.Ty.{Ty}
use Rattle.indus_tree.specs.declared.tree.Ty.TheVariants as ty
use Rattle.indus_tree.specs.declared.tree.Op as indus_op
use Rattle.indus_tree.specs.declared.tree.Op.TheVariants as op
use Rattle.lookup_names.specs.Names.{found_name}
use Rattle.lowered_code.specs.Environment.{tele_path, view_of}
use Rattle.lowered_code.specs.Expressions.{lowered_op, value_type, of_bits, as_bit, read_decl, is_in, place_in, built_in, found, name_by_kind, name_for, found_for, lowered}
use Rattle.lowered_code.specs.Suiting.{IsBuiltIn, HasPlace, SuitsName, SuitsIndex, SuitsMember, Suits}
use Rattle.lowered_code.specs.Standing.{Setting, environment}
use Rattle.lowered_code.proofs.Widths.{cast_same, cast_kept, value_at_own, value_width}

-- an expression of P4 is one of the property's: at each place it has the same value, and the same width of its own. As one
-- bit it has one
pub record Same (s : Store) (v : Seen) (f : p4.Expr) (e : Expr) : Type 0 where
  pub value : (w : ℕ) → p4v.value_of f w s ≡ value_of v e w
  pub own : p4v.own_width f s ≡ own_width v e
  pub narrow : p4v.own_width (as_bit f) s ≡ 1

op_same : (o : indus_op.Op) → p4_operators.operator_of (lowered_op o) ≡ indus_operators.operator_of o
op_same op.Mul = refl
op_same op.Add = refl
op_same op.Sub = refl
op_same op.Shl = refl
op_same op.Shr = refl
op_same op.BitAnd = refl
op_same op.BitXor = refl
op_same op.BitOr = refl
op_same op.Less = refl
op_same op.LessEq = refl
op_same op.More = refl
op_same op.MoreEq = refl
op_same op.Equal = refl
op_same op.Differ = refl
op_same op.Both = refl
op_same op.Either = refl

module _ (s : Store) (v : Seen) where
  -- the word at a path, which holds bits of a type
  bits_same : (t : Ty) (p : List (List ℕ)) (e : Expr) → read s p ≡ value_of v e 0 → HasWidth (width_of t) (value_of v e 0) → ((w : ℕ) → value_of v e 0 ≡ value_of v e w) → (value_of v e 0).width ≡ own_width v e → Same s v (of_bits t (p4.path 0 p)) e
  bits_same (ty.Bit n) p e is h flat wide = record { value = λ w. is ∙ flat w; own = ap (λ (u : Word). u.width) is ∙ wide; narrow = refl }
  bits_same ty.Bool p e is h flat wide = record { value = λ w. ap (cast_word 1) is ∙ cast_kept 1 (value_of v e 0) h ∙ flat w; own = sym h.width ∙ wide; narrow = ap (λ (u : Word). u.width) is ∙ h.width }

  inversion_same : (f : p4.Expr) (p : ℕ) (e : Expr) → HasPlace v e → ((w : ℕ) → IsWord (value_of v e w)) → Same s v f e → Same s v (p4.inversion 0 f) (inversion p e)
  inversion_same f p e wide words h =
      record {
        value = λ w.
            let m = either_width (own_width v e) w in
            let u = value_of v e w in
            ap (λ n. p4v.inverted (cast_word (sound_width (either_width n w)) (p4v.value_of f (either_width n w) s))) h.own
            ∙ ap (λ u. p4v.inverted (cast_word (sound_width m) u)) (h.value m ∙ value_at_own v e w)
            ∙ ap (λ (u : Word). p4v.inverted u) (cast_same (sound_width m) u (wide w) (words w).in_range);
        own = h.own;
        narrow = refl;
      }

  operated_same : (k : Operator) (f g : p4.Expr) (a b : Expr) (w : ℕ) → Same s v f a → Same s v g b →
      table.operate k
      (cast_word (sound_width (left_place (table.class_of k) (p4v.own_width f s) (p4v.own_width g s) w)) (p4v.value_of f (left_place (table.class_of k) (p4v.own_width f s) (p4v.own_width g s) w) s))
      (cast_word (sound_width (right_place (table.class_of k) (p4v.own_width f s) (p4v.own_width g s) w)) (p4v.value_of g (right_place (table.class_of k) (p4v.own_width f s) (p4v.own_width g s) w) s))
      ≡ table.operate k
      (cast_word (sound_width (left_place (table.class_of k) (own_width v a) (own_width v b) w)) (value_of v a (left_place (table.class_of k) (own_width v a) (own_width v b) w)))
      (cast_word (sound_width (right_place (table.class_of k) (own_width v a) (own_width v b) w)) (value_of v b (right_place (table.class_of k) (own_width v a) (own_width v b) w)))
  operated_same k f g a b w h i =
      let c = table.class_of k in
      ap₂ (λ x y. table.operate k (cast_word (sound_width (left_place c x y w)) (p4v.value_of f (left_place c x y w) s)) (cast_word (sound_width (right_place c x y w)) (p4v.value_of g (right_place c x y w) s))) h.own i.own
      ∙ ap₂ (λ x y. table.operate k (cast_word (sound_width (left_place c (own_width v a) (own_width v b) w)) x) (cast_word (sound_width (right_place c (own_width v a) (own_width v b) w)) y)) (h.value (left_place c (own_width v a) (own_width v b) w)) (i.value (right_place c (own_width v a) (own_width v b) w))

  binary_same : (p : ℕ) (o : indus_op.Op) (f g : p4.Expr) (a b : Expr) → Same s v f a → Same s v g b → Same s v (p4.binary 0 (lowered_op o) f g) (binary p o a b)
  binary_same p o f g a b h i =
      record {
        value = λ w.
            ap (λ k. table.operate k (cast_word (sound_width (left_place (table.class_of k) (p4v.own_width f s) (p4v.own_width g s) w)) (p4v.value_of f (left_place (table.class_of k) (p4v.own_width f s) (p4v.own_width g s) w) s)) (cast_word (sound_width (right_place (table.class_of k) (p4v.own_width f s) (p4v.own_width g s) w)) (p4v.value_of g (right_place (table.class_of k) (p4v.own_width f s) (p4v.own_width g s) w) s))) (op_same o)
            ∙ operated_same (indus_operators.operator_of o) f g a b w h i;
        own = ap (λ k. own_of (table.class_of k) (p4v.own_width f s) (p4v.own_width g s)) (op_same o) ∙ ap₂ (own_of (table.class_of (indus_operators.operator_of o))) h.own i.own;
        narrow = refl;
      }

-- ---- what was read before

module _ (ds : List Decl) (before : List Expr) where
  abbrev pub IsKindRead : DeclKind → Expr → Type 0
  IsKindRead Tele e = Unit {0}
  IsKindRead Sensor e = is_in before e ≡ true
  IsKindRead Header e = Unit {0}
  IsKindRead Control e = is_in before e ≡ true

  abbrev pub IsNameRead : Option Decl → Expr → Type 0
  IsNameRead None e = Unit {0}
  IsNameRead (Some c) e = IsKindRead c.kind e

  -- what the expression reads by statements was read before
  abbrev pub Covers : Expr → Type 0
  Covers (num p n) = Unit {0}
  Covers (flag p b) = Unit {0}
  Covers (reads p x) = IsNameRead (lookup ds x) (reads p x)
  Covers (count p x) = Unit {0}
  Covers (index p x ks) = is_in before (index p x ks) ≡ true
  Covers (member p ks x) = is_in before (member p ks x) ≡ true
  Covers (negation p e) = Covers e
  Covers (inversion p e) = Covers e
  Covers (binary p o e f) = Covers e × Covers f
  Covers (cast p w e) = Covers e

  abbrev pub AllCovered : Exprs → Type 0
  AllCovered none = Unit {0}
  AllCovered (more e es) = Covers e × AllCovered es

abbrev pub type_in : Option Decl → Ty
type_in None = ty.Bool
type_in (Some c) = value_type c.shape

-- ---- what a store has to show

module _ (p : Setting) (d : Doing Held Held) (base : ℕ) (before : List Expr) (s : Store) where
  abbrev v : Seen
  v = seen_by p.hop [] d

  abbrev ds : List Decl
  ds = p.hop.decls

  -- a variable holds what was read before
  pub record HoldsRead (e : Expr) : Type 0 where
    pub value : read s (found_name (base + place_in before e) ∷ []) ≡ value_of v e 0
    pub fits : HasWidth (width_of (type_in (read_decl ds e))) (value_of v e 0)

  -- a field holds what a variable of the packet's does
  pub record HoldsTele (x : List ℕ) (c : Decl) : Type 0 where
    pub value : read s (tele_path (environment p) x) ≡ value_of v (reads 0 x) 0
    pub fits : HasWidth (width_of (value_type c.shape)) (value_of v (reads 0 x) 0)

  pub record Sees : Type 0 where
    pub words : (e : Expr) (w : ℕ) → IsWord (value_of v e w)
    pub built_in : (x : List ℕ) → lookup ds x ≡ None → IsBuiltIn p.exits x → Same s v (built_in (environment p) x) (reads 0 x)
    pub sound : (x : List ℕ) (c : Decl) → lookup ds x ≡ Some c → sound_width (shape_width c.shape) ≡ shape_width c.shape
    pub held : (e : Expr) → is_in before e ≡ true → HoldsRead e
    pub tele : (x : List ℕ) (c : Decl) → lookup ds x ≡ Some c → c.kind ≡ Tele → HoldsTele x c
    pub view : (x : List ℕ) (c : Decl) → lookup ds x ≡ Some c → c.kind ≡ Header → Same s v (view_of c) (reads 0 x)

  module _ (see : Sees) where
    held_same : (e : Expr) (o : Option Decl) → read_decl ds e ≡ o → is_in before e ≡ true → ((w : ℕ) → value_of v e 0 ≡ value_of v e w) → (value_of v e 0).width ≡ own_width v e → Same s v (found (environment p) ds base before e (type_in o)) e
    held_same e o is i flat wide =
        let k = see.held e i in
        bits_same s v (type_in o) (found_name (base + place_in before e) ∷ []) e k.value (subst (λ o. HasWidth (width_of (type_in o)) (value_of v e 0)) is k.fits) flat wide

    kind_same : (k : DeclKind) (c : Decl) (q : ℕ) (x : List ℕ) → lookup ds x ≡ Some c → c.kind ≡ k → IsKindRead ds before k (reads q x) → Same s v (name_by_kind (environment p) ds base before k (reads q x) x c) (reads q x)
    kind_same Tele c q x is k i = let t = see.tele x c is k in bits_same s v (value_type c.shape) (tele_path (environment p) x) (reads q x) t.value t.fits (λ w. refl) refl
    kind_same Sensor c q x is k i = held_same (reads q x) (Some c) is i (λ w. refl) refl
    kind_same Header c q x is k i = let t = see.view x c is k in record { value = t.value; own = t.own; narrow = t.narrow }
    kind_same Control c q x is k i = held_same (reads q x) (Some c) is i (λ w. refl) refl

    name_same : (o : Option Decl) (q : ℕ) (x : List ℕ) → lookup ds x ≡ o → SuitsName p.exits v o x → IsNameRead ds before o (reads q x) → Same s v (name_for (environment p) ds base before o (reads q x) x) (reads q x)
    name_same None q x is k i = let t = see.built_in x is k in record { value = t.value; own = t.own; narrow = t.narrow }
    name_same (Some c) q x is k i = kind_same c.kind c q x is refl i

    -- the width of what was read is the declared one
    held_own : (e : Expr) (c : Decl) (x : List ℕ) → lookup ds x ≡ Some c → read_decl ds e ≡ Some c → is_in before e ≡ true → (value_of v e 0).width ≡ shape_width c.shape
    held_own e c x is r i =
        subst (λ o. (value_of v e 0).width ≡ sound_width (width_of (type_in o))) r (see.held e i).fits.width ∙ ap sound_width (value_width c.shape) ∙ see.sound x c is

    index_same : (o : Option Decl) (q : ℕ) (x : List ℕ) (ks : Exprs) → lookup ds x ≡ o → SuitsIndex p.exits v o ks → is_in before (index q x ks) ≡ true → Same s v (found_for (environment p) ds base before o (index q x ks)) (index q x ks)
    index_same None q x ks is k i = absurd k
    index_same (Some c) q x ks is k i = held_same (index q x ks) (Some c) is i (λ w. refl) (held_own (index q x ks) c x is is i ∙ sym (ap held_width is))

    member_same : (o : Option Decl) (q : ℕ) (x : List ℕ) (ks : Exprs) → lookup ds x ≡ o → SuitsMember p.exits v o ks → is_in before (member q ks x) ≡ true → Same s v (found_for (environment p) ds base before o (member q ks x)) (member q ks x)
    member_same None q x ks is k i = absurd k
    member_same (Some c) q x ks is k i = held_same (member q ks x) (Some c) is i (λ w. refl) refl

    pub same : (e : Expr) → Suits p.exits v e → Covers ds before e → Same s v (lowered (environment p) ds base before e) e
    same (num q n) k i = record { value = λ w. refl; own = refl; narrow = refl }
    same (flag q b) k i = record { value = λ w. refl; own = refl; narrow = refl }
    same (reads q x) k i = name_same (lookup ds x) q x refl k i
    same (count q x) k i = absurd k
    same (index q x ks) k i = index_same (lookup ds x) q x ks refl k.0 i
    same (member q ks x) k i = member_same (lookup ds x) q x ks refl k.0 i
    same (negation q e) k i = let j = same e k i in record { value = λ w. ap (λ u. bit (not (holds u))) (j.value 1); own = refl; narrow = refl }
    same (inversion q e) k i = inversion_same s v (lowered (environment p) ds base before e) q e k.0 (λ w. see.words e w) (same e k.1 i)
    same (binary q o e f) k i = binary_same s v q o (lowered (environment p) ds base before e) (lowered (environment p) ds base before f) e f (same e k.0 i.0) (same f k.1 i.1)
    same (cast q n e) k i = let j = same e k i in record { value = λ w. ap (λ u. cast_word (sound_width n) u) (j.value 0); own = refl; narrow = refl }

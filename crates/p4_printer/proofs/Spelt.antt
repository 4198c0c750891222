-- What can be spelled is spelled but for places: lists and expressions.
use Rattle.std.proofs.Common.{◌≡◌, ℕ, zero, suc, ◌+◌, true, false, List, [], ◌∷◌, ◌++◌, length, map, refl, sym, ap, subst, ◌∙◌, arith}
use Rattle.std.proofs.lemmas.List.{append-nil}
use Rattle.lex_words.specs.Seen.{Lexeme, key}
use Rattle.lex_words.specs.declared.key.Key.TheVariants as k
use Rattle.p4_tree.specs.Tree.{Expr, num, flag, path, valid, applied, error_name, negation, inversion, opposite, binary, conditional, slice, cast}
use Rattle.p4_tree.specs.Places.{plain}
use Rattle.p4_tree.specs.declared.statement.Op.{Op}
use Rattle.p4_tree.specs.declared.statement.Op.TheVariants as op
use Rattle.p4_tree.specs.declared.statement.PTy.{PTy}
use Rattle.p4_tree.specs.declared.statement.PTy.TheVariants as type
use Rattle.p4_spelling.specs.Operators.{top}
use Rattle.p4_spelling.specs.Lists.{SpellsList, SpellsSome, SpellsEach, last, then, no_item, items, no_more, one_more}
use Rattle.p4_spelling.specs.Types.{SpellsScalar, SpellsType, a_bool, bits, a_scalar, a_name}
use Rattle.p4_spelling.specs.Expressions.{SpellsPath, last_name, then_names, SpellsPostfix, a_number, a_true, a_false, an_error, a_path, a_validity, an_application, in_brackets, a_slice, Spells, a_postfix, a_not, an_inversion, an_opposite, a_cast, tighter, joined, a_conditional}
use Rattle.p4_printer.specs.Layout.{bare, in_row, separated}
use Rattle.p4_printer.specs.Expressions.{key_of_op, lexemes_of_type, lexemes_of_path, lexemes_of_expr, lexemes_of_exprs}
use Rattle.p4_printer.specs.CanSpell.{EachCan, SomeCan, CanSpellScalar, CanSpellType, CanSpellPath, CanSpellExpr}

-- From lexeme p on, the lexemes spell a tree that is t but for places. S: which lexemes spell a tree.
pub record Spelt {A : Type 0} (place_less : A → A) (S : (p : ℕ) → A → List Lexeme → Type 0) (p : ℕ) (t : A) (u : List Lexeme) : Type 0 where
  pub tree : A
  pub same : place_less tree ≡ place_less t
  pub spells : S p tree u

pub two : {A B C : Type 0} (f : A → B → C) {a c : A} {b d : B} → a ≡ c → b ≡ d → f a b ≡ f c d
two f {c = c} {b = b} x y = ap (λ z. f z b) x ∙ ap (λ z. f c z) y

pub three : {A B C D : Type 0} (f : A → B → C → D) {a x : A} {b y : B} {c z : C} → a ≡ x → b ≡ y → c ≡ z → f a b c ≡ f x y z
three f {x = x} {y = y} {c = c} e g h = two (λ s t. f s t c) e g ∙ ap (λ t. f x y t) h

-- ---- lists

module _ {A : Type 0} (place_less : A → A) (S : (p : ℕ) → A → List Lexeme → Type 0) (C : A → Type 0) (f : A → List Lexeme) (go : (a : A) → C a → (p : ℕ) → Spelt place_less S p a (f a)) where
  pub spelt_each : (list : List A) → EachCan C list → (p : ℕ) → Spelt (map place_less) (SpellsEach S) p list (in_row (map f list))
  spelt_each [] c p = record { tree = []; same = refl; spells = no_more }
  spelt_each (a ∷ rest) c p =
      let x = go a c.0 p in
      let y = spelt_each rest c.1 (p + length (f a)) in
      record { tree = x.tree ∷ y.tree; same = two (λ s t. s ∷ t) x.same y.same; spells = one_more x.spells y.spells }

  pub spelt_list : (list : List A) → SomeCan C list → (p : ℕ) → Spelt (map place_less) (SpellsList S) p list (separated (key k.Comma) (map f list))
  spelt_list [] c p = absurd c
  spelt_list (a ∷ []) c p =
      let x = go a c.0 p in
      record { tree = x.tree ∷ []; same = ap (λ s. s ∷ []) x.same; spells = subst (SpellsList S p (x.tree ∷ [])) (sym (append-nil (f a))) (last x.spells) }
  spelt_list (a ∷ b ∷ rest) c p =
      let x = go a c.0 p in
      let y = spelt_list (b ∷ rest) c.1 (p + length (f a) + 1) in
      record { tree = x.tree ∷ y.tree; same = two (λ s t. s ∷ t) x.same y.same; spells = then x.spells y.spells }

  pub spelt_some : (list : List A) → EachCan C list → (p : ℕ) → Spelt (map place_less) (SpellsSome S) p list (separated (key k.Comma) (map f list))
  spelt_some [] c p = record { tree = []; same = refl; spells = no_item }
  spelt_some (a ∷ rest) c p = let x = spelt_list (a ∷ rest) c p in record { tree = x.tree; same = x.same; spells = items x.spells }

-- ---- types and paths

pub spelt_scalar : (t : PTy) → CanSpellScalar t → SpellsScalar t (lexemes_of_type t)
spelt_scalar (type.Bit w) c = bits (bare w) c
spelt_scalar type.Bool c = a_bool
spelt_scalar (type.Named x) c = absurd c

pub spelt_type : (t : PTy) → CanSpellType t → SpellsType t (lexemes_of_type t)
spelt_type (type.Bit w) c = a_scalar (bits (bare w) c)
spelt_type type.Bool c = a_scalar a_bool
spelt_type (type.Named x) c = a_name x

pub spelt_path : (xs : List (List ℕ)) → CanSpellPath xs → SpellsPath xs (lexemes_of_path xs)
spelt_path [] c = absurd c
spelt_path (x ∷ []) c = last_name x
spelt_path (x ∷ y ∷ rest) c = then_names x (spelt_path (y ∷ rest) c.1)

-- ---- expressions: what is printed of one is an operand

pub raise : {p : ℕ} {a : Expr} {u : List Lexeme} (l : ℕ) → Spells 0 p a u → Spells l p a u
raise zero s = s
raise (suc l) s = tighter (raise l s)

pub up : {p : ℕ} {a : Expr} {u : List Lexeme} (l : ℕ) → SpellsPostfix p a u → Spells l p a u
up l s = raise l (a_postfix s)

up_from : {l p : ℕ} {a : Expr} {u : List Lexeme} (m : ℕ) → Spells l p a u → Spells (m + l) p a u
up_from {l = l} {p = p} {a = a} {u = u} zero s = let e : l ≡ 0 + l = omega arith in subst (λ n. Spells n p a u) e s
up_from {l = l} {p = p} {a = a} {u = u} (suc m) s = let e : suc (m + l) ≡ suc m + l = omega arith in subst (λ n. Spells n p a u) e (tighter (up_from m s))

in_operator : {p : ℕ} {a b : Expr} {u v : List Lexeme} (o : Op) → SpellsPostfix p a u → SpellsPostfix (p + length u + 1) b v → Spells top p (binary p o a b) (u ++ key (key_of_op o) ∷ v)
in_operator op.Mul s r = up_from 10 (joined (key_of_op op.Mul) op.Mul refl (up 1 s) (up 0 r))
in_operator op.Add s r = up_from 9 (joined (key_of_op op.Add) op.Add refl (up 2 s) (up 1 r))
in_operator op.Sub s r = up_from 9 (joined (key_of_op op.Sub) op.Sub refl (up 2 s) (up 1 r))
in_operator op.Concat s r = up_from 9 (joined (key_of_op op.Concat) op.Concat refl (up 2 s) (up 1 r))
in_operator op.Shl s r = up_from 8 (joined (key_of_op op.Shl) op.Shl refl (up 3 s) (up 2 r))
in_operator op.Shr s r = up_from 8 (joined (key_of_op op.Shr) op.Shr refl (up 3 s) (up 2 r))
in_operator op.BitAnd s r = up_from 7 (joined (key_of_op op.BitAnd) op.BitAnd refl (up 4 s) (up 3 r))
in_operator op.BitXor s r = up_from 6 (joined (key_of_op op.BitXor) op.BitXor refl (up 5 s) (up 4 r))
in_operator op.BitOr s r = up_from 5 (joined (key_of_op op.BitOr) op.BitOr refl (up 6 s) (up 5 r))
in_operator op.Less s r = up_from 4 (joined (key_of_op op.Less) op.Less refl (up 7 s) (up 6 r))
in_operator op.LessEq s r = up_from 4 (joined (key_of_op op.LessEq) op.LessEq refl (up 7 s) (up 6 r))
in_operator op.More s r = up_from 4 (joined (key_of_op op.More) op.More refl (up 7 s) (up 6 r))
in_operator op.MoreEq s r = up_from 4 (joined (key_of_op op.MoreEq) op.MoreEq refl (up 7 s) (up 6 r))
in_operator op.Equal s r = up_from 3 (joined (key_of_op op.Equal) op.Equal refl (up 8 s) (up 7 r))
in_operator op.Differ s r = up_from 3 (joined (key_of_op op.Differ) op.Differ refl (up 8 s) (up 7 r))
in_operator op.Both s r = up_from 2 (joined (key_of_op op.Both) op.Both refl (up 9 s) (up 8 r))
in_operator op.Either s r = up_from 1 (joined (key_of_op op.Either) op.Either refl (up 10 s) (up 9 r))

abbrev Operand : (p : ℕ) → Expr → List Lexeme → Type 0
Operand p t u = Spelt plain SpellsPostfix p t u

conditional_of : {p q : ℕ} {t a b : Expr} {u v w : List Lexeme} → Operand (p + 1) t u → Operand (p + 1 + length u + 1) a v → Operand (p + 1 + length u + 1 + length v + 1) b w
    → Operand p (conditional q t a b) (key k.Open ∷ ((u ++ key k.Question ∷ (v ++ key k.Colon ∷ w)) ++ key k.Close ∷ []))
conditional_of {p = p} x y z = record {
  tree = conditional (p + 1) x.tree y.tree z.tree;
  same = three (conditional 0) x.same y.same z.same;
  spells = in_brackets (a_conditional (up 10 x.spells) (up top y.spells) (up top z.spells));
}

pub spelt : (t : Expr) → CanSpellExpr t → (p : ℕ) → Operand p t (lexemes_of_expr t)
spelt (num q n) c p = record { tree = num p n; same = refl; spells = a_number n }
spelt (flag q true) c p = record { tree = flag p true; same = refl; spells = a_true }
spelt (flag q false) c p = record { tree = flag p false; same = refl; spells = a_false }
spelt (path q xs) c p = record { tree = path p xs; same = refl; spells = a_path (spelt_path xs c) }
spelt (valid q xs) c p = record { tree = valid p xs; same = refl; spells = a_validity (spelt_path xs c) }
spelt (applied q x hit) c p = record { tree = applied p x hit; same = refl; spells = an_application x hit }
spelt (error_name q x) c p = record { tree = error_name p x; same = refl; spells = an_error x }
spelt (negation q a) c p =
    let r = spelt a c (p + 1 + 1) in
    record { tree = negation (p + 1) r.tree; same = ap (negation 0) r.same; spells = in_brackets (raise top (a_not (a_postfix r.spells))) }
spelt (inversion q a) c p =
    let r = spelt a c (p + 1 + 1) in
    record { tree = inversion (p + 1) r.tree; same = ap (inversion 0) r.same; spells = in_brackets (raise top (an_inversion (a_postfix r.spells))) }
spelt (opposite q a) c p =
    let r = spelt a c (p + 1 + 1) in
    record { tree = opposite (p + 1) r.tree; same = ap (opposite 0) r.same; spells = in_brackets (raise top (an_opposite (a_postfix r.spells))) }
spelt (binary q o a b) c p =
    let r = spelt a c.0 (p + 1) in
    let s = spelt b c.1 (p + 1 + length (lexemes_of_expr a) + 1) in
    record { tree = binary (p + 1) o r.tree s.tree; same = two (binary 0 o) r.same s.same; spells = in_brackets (in_operator o r.spells s.spells) }
spelt (conditional q t a b) c p =
    conditional_of (spelt t c.0 (p + 1)) (spelt a c.1 (p + 1 + length (lexemes_of_expr t) + 1)) (spelt b c.2 (p + 1 + length (lexemes_of_expr t) + 1 + length (lexemes_of_expr a) + 1))
spelt (slice q a high low) c p =
    let r = spelt a c.0 p in
    record { tree = slice p r.tree high low; same = ap (λ z. slice 0 z high low) r.same; spells = a_slice (bare high) (bare low) c.1 c.2 r.spells }
spelt (cast q t a) c p =
    let r = spelt a c.1 (p + 1 + 1 + length (lexemes_of_type t) + 1) in
    record { tree = cast (p + 1) t r.tree; same = ap (cast 0 t) r.same; spells = in_brackets (raise top (a_cast (spelt_scalar t c.0) (a_postfix r.spells))) }

-- an expression at any place
pub spelt_expr : (t : Expr) → CanSpellExpr t → (p : ℕ) → Spelt plain (Spells top) p t (lexemes_of_expr t)
spelt_expr t c p = let r = spelt t c p in record { tree = r.tree; same = r.same; spells = up top r.spells }

pub spelt_exprs : (es : List Expr) → SomeCan CanSpellExpr es → (p : ℕ) → Spelt (map plain) (SpellsList (Spells top)) p es (lexemes_of_exprs es)
spelt_exprs es c p = spelt_list plain (Spells top) CanSpellExpr lexemes_of_expr spelt_expr es c p

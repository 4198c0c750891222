-- With which lexemes expressions and types begin.
use Rattle.std.proofs.Common.{◌≡◌, ℕ, ◌+◌, false, List, ◌∷◌, length, Some, refl, ap, ◌∙◌}
use Rattle.std.specs.Prelude.{slice_get}
use Rattle.lex_words.specs.declared.key.Key.{Key}
use Rattle.lex_words.specs.declared.key.Key.TheVariants as k
use Rattle.lex_words.specs.Seen.{Lexeme, key, at_key}
use Rattle.lex_words.proofs.Standing.{Stands, Stands-split}
use Rattle.p4_tree.specs.Tree.{Expr}
use Rattle.p4_tree.specs.declared.statement.PTy.{PTy}
use Rattle.p4_spelling.specs.Types.{a_bool, a_bit, bits, SpellsType, a_scalar, a_name}
use Rattle.p4_spelling.specs.Expressions.{SpellsPath, last_name, then_names, SpellsPostfix, a_number, a_true, a_false, an_error, a_path, a_validity, an_application, in_brackets, a_slice, Spells, a_postfix, a_not, an_inversion, an_opposite, a_cast, tighter, joined, a_conditional}
use Rattle.p4_expressions.proofs.Balanced.{valid_end, slice_end}

-- no expression begins with this key
pub record BeginsNone (x : Key) : Type 0 where
  pub true_ : at_key x (Some (key k.True)) ≡ false
  pub false_ : at_key x (Some (key k.False)) ≡ false
  pub error_ : at_key x (Some (key k.Error)) ≡ false
  pub negation : at_key x (Some (key k.Not)) ≡ false
  pub inversion : at_key x (Some (key k.Tilde)) ≡ false
  pub opposite : at_key x (Some (key k.Minus)) ≡ false
  pub round : at_key x (Some (key k.Open)) ≡ false

module _ (ws : List Lexeme) (x : Key) (b : BeginsNone x) where
  path_first : {xs : List (List ℕ)} {u : List Lexeme} → SpellsPath xs u → (p q : ℕ) → Stands ws p u q → at_key x (slice_get ws p) ≡ false
  path_first (last_name y) p q st = ap (at_key x) st.0
  path_first (then_names y s) p q st = ap (at_key x) st.0

  postfix_first : {p : ℕ} {t : Expr} {u : List Lexeme} → SpellsPostfix p t u → (q : ℕ) → Stands ws p u q → at_key x (slice_get ws p) ≡ false
  postfix_first (a_number n) q st = ap (at_key x) st.0
  postfix_first a_true q st = ap (at_key x) st.0 ∙ b.true_
  postfix_first a_false q st = ap (at_key x) st.0 ∙ b.false_
  postfix_first (an_error y) q st = ap (at_key x) st.0 ∙ b.error_
  postfix_first {p = p} (a_path s) q st = path_first s p q st
  postfix_first {p = p} (a_validity {u = u} s) q st = path_first s p (p + length u) (Stands-split ws p q u valid_end st).0
  postfix_first (an_application t hit) q st = ap (at_key x) st.0
  postfix_first (in_brackets s) q st = ap (at_key x) st.0 ∙ b.round
  postfix_first {p = p} (a_slice {u = u} high low h l s) q st = postfix_first s (p + length u) (Stands-split ws p q u (slice_end high low) st).0

  pub expr_first : {l p : ℕ} {t : Expr} {u : List Lexeme} → Spells l p t u → (q : ℕ) → Stands ws p u q → at_key x (slice_get ws p) ≡ false
  expr_first (a_postfix s) q st = postfix_first s q st
  expr_first (a_not s) q st = ap (at_key x) st.0 ∙ b.negation
  expr_first (an_inversion s) q st = ap (at_key x) st.0 ∙ b.inversion
  expr_first (an_opposite s) q st = ap (at_key x) st.0 ∙ b.opposite
  expr_first (a_cast t s) q st = ap (at_key x) st.0 ∙ b.round
  expr_first (tighter s) q st = expr_first s q st
  expr_first {p = p} (joined {u = u} {v = v} y op o s t) q st = expr_first s (p + length u) (Stands-split ws p q u (key y ∷ v) st).0
  expr_first {p = p} (a_conditional {u = u} s t r) q st = expr_first s (p + length u) (Stands-split ws p q u _ st).0

-- a type begins with a name, or with one of two keys
pub type_first : (ws : List Lexeme) (x : Key) → at_key x (Some (key k.Bool)) ≡ false → at_key x (Some (key k.Bit)) ≡ false → {t : PTy} {u : List Lexeme} → SpellsType t u → (p q : ℕ) → Stands ws p u q → at_key x (slice_get ws p) ≡ false
type_first ws x e f (a_scalar a_bool) p q st = ap (at_key x) st.0 ∙ e
type_first ws x e f (a_scalar a_bit) p q st = ap (at_key x) st.0 ∙ f
type_first ws x e f (a_scalar (bits n low)) p q st = ap (at_key x) st.0 ∙ f
type_first ws x e f (a_name y) p q st = ap (at_key x) st.0

pub close_first : BeginsNone k.Close
close_first = record { true_ = refl; false_ = refl; error_ = refl; negation = refl; inversion = refl; opposite = refl; round = refl }

pub brace_first : BeginsNone k.BraceClose
brace_first = record { true_ = refl; false_ = refl; error_ = refl; negation = refl; inversion = refl; opposite = refl; round = refl }

-- What becomes of an expression that is gone through from the inside to the outside. Each part that is a value is offered
-- once, with what was answered for its own parts in their place; what is answered is not offered again. Read `Tree` of
-- `p4_tree` before it.
use Rattle.std.specs.Prelude.{◌≡◌, ◌⊎◌, ℕ, Bool, true, false, ◌||◌, Option, Some, None}
use Rattle.p4_tree.specs.Tree.{Expr, num, flag, path, valid, applied, error_name, negation, inversion, opposite, binary, conditional, slice, cast}
use Rattle.p4_tree.specs.declared.statement.Op.{Op}
use Rattle.p4_tree.specs.declared.statement.PTy.{PTy}
use Rattle.p4_statement_rules.specs.Expressions.{is_error_name}

-- a value of bits, or a truth value: not the outcome of a table, nor an error of the parser
abbrev pub is_offered : Expr → Bool
is_offered (applied p t h) = false
is_offered (error_name p x) = false
is_offered _ = true

-- it has no parts that are offered: none at all, or an error of the parser and the name that it is compared with
abbrev pub has_no_parts : Expr → Bool
has_no_parts (num p n) = true
has_no_parts (flag p b) = true
has_no_parts (path p x) = true
has_no_parts (valid p x) = true
has_no_parts (applied p t h) = true
has_no_parts (error_name p x) = true
has_no_parts (binary p op a b) = is_error_name a || is_error_name b
has_no_parts _ = false

-- Answers: what may be answered where an expression is offered, an expression or none
module _ (Answers : Expr → Option Expr → Type 0) where
  -- the answer, or else the expression itself
  abbrev pub IsAnswered : Expr → Expr → Type 0
  IsAnswered e f = Answers e (Some f) ⊎ (Answers e None × (f ≡ e))

  mutual
    pub data IsSimplified : Expr → Expr → Type 0 where
      left_alone : {e : Expr} → is_offered e ≡ false → IsSimplified e e
      offered : {e i f : Expr} → is_offered e ≡ true → HasSimplifiedParts e i → IsAnswered i f → IsSimplified e f

    pub data HasSimplifiedParts : Expr → Expr → Type 0 where
      no_parts : {e : Expr} → has_no_parts e ≡ true → HasSimplifiedParts e e
      in_negation : {a b : Expr} (p : ℕ) → IsSimplified a b → HasSimplifiedParts (negation p a) (negation p b)
      in_inversion : {a b : Expr} (p : ℕ) → IsSimplified a b → HasSimplifiedParts (inversion p a) (inversion p b)
      in_opposite : {a b : Expr} (p : ℕ) → IsSimplified a b → HasSimplifiedParts (opposite p a) (opposite p b)
      in_binary : {a b c d : Expr} (p : ℕ) (op : Op) → has_no_parts (binary p op a b) ≡ false → IsSimplified a c → IsSimplified b d → HasSimplifiedParts (binary p op a b) (binary p op c d)
      in_conditional : {t a b u c d : Expr} (p : ℕ) → IsSimplified t u → IsSimplified a c → IsSimplified b d → HasSimplifiedParts (conditional p t a b) (conditional p u c d)
      in_slice : {a b : Expr} (p h l : ℕ) → IsSimplified a b → HasSimplifiedParts (slice p a h l) (slice p b h l)
      in_cast : {a b : Expr} (p : ℕ) (t : PTy) → IsSimplified a b → HasSimplifiedParts (cast p t a) (cast p t b)

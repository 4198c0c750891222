-- The rule `fold_numbers`: an operator on two numbers, or on two truth values, becomes what it makes of them. Read
-- `Known` before it, and `Operators` of `bit_values`.
use Rattle.std.specs.Prelude.{ℕ, ◌+◌, Bool, true, false, nat_eq, nat_le, Option, Some, None, if◌then◌else◌}
use Rattle.bit_values.specs.Bits.{Word, word, cast}
use Rattle.bit_values.specs.Operators.{Class, like, shift, joined, compare, logic}
use Rattle.bit_values.specs.Widths.{bit, holds, either_width}
use Rattle.p4_tree.specs.Operators.{class_of, operate}
use Rattle.p4_tree.specs.Tree.{Expr, num, flag, binary}
use Rattle.p4_tree.specs.declared.statement.Op.{Op}
use Rattle.p4_tree.specs.declared.statement.Op.TheVariants.{Equal, Differ, Both, Either}
use Rattle.p4_statement_rules.specs.Expressions.{bad_width}
use Rattle.simplify_rules.specs.declared.operand.Known.{Known}
use Rattle.simplify_rules.specs.declared.operand.Known.TheVariants.{Number, Truth}
use Rattle.simplify_rules.specs.Known.{known_in}

-- a number that is cut to its width, where numbers can have that
abbrev pub cut : (width number : ℕ) → Option Word
cut w n = if bad_width w then None else Some (word w (cast w n))

-- the width of a right operand, by the one that is written: a shift's has 128 bits where none is
abbrev pub right_width : Class → (written : ℕ) → ℕ
right_width like w = w
right_width shift w = either_width w 128
right_width joined w = w
right_width compare w = w
right_width logic w = w

-- an operator takes numbers of these widths
abbrev pub takes_widths : Class → (left right : ℕ) → Bool
takes_widths like v u = nat_eq v u
takes_widths shift v u = true
takes_widths joined v u = nat_le (v + u) 128
takes_widths compare v u = nat_eq v u
takes_widths logic v u = false

-- and truth values
abbrev pub takes_truths : Op → Bool
takes_truths Equal = true
takes_truths Differ = true
takes_truths Both = true
takes_truths Either = true
takes_truths _ = false

-- what an operator makes, as an expression: a comparison makes a truth value, and what else takes numbers a number, whose
-- width is written
abbrev pub made : Class → (at : ℕ) → Word → Expr
made like p w = num p (record { width = w.width; value = w.value })
made shift p w = num p (record { width = w.width; value = w.value })
made joined p w = num p (record { width = w.width; value = w.value })
made compare p w = flag p (holds w)
made logic p w = flag p (holds w)

abbrev pub words_folded : Op → (at : ℕ) → Option Word → Option Word → Option Expr
words_folded op p (Some a) (Some b) = if takes_widths (class_of op) a.width b.width then Some (made (class_of op) p (operate op a b)) else None
words_folded op p _ _ = None

abbrev pub folded : Op → (at : ℕ) → Known → Known → Option Expr
folded op p (Number m) (Number n) = words_folded op p (cut m.width m.value) (cut (right_width (class_of op) n.width) n.value)
folded op p (Truth a) (Truth b) = if takes_truths op then Some (flag p (holds (operate op (bit a) (bit b)))) else None
folded op p _ _ = None

abbrev pub fold_numbers : Expr → Option Expr
fold_numbers (binary p op a b) = folded op p (known_in a) (known_in b)
fold_numbers _ = None

-- The binary operators, from the tightest to the loosest.
use Rattle.std.specs.Prelude.{ℕ, Option, Some, None}
use Rattle.lex_words.specs.declared.key.Key.{Key}
use Rattle.lex_words.specs.declared.key.Key.TheVariants.{Times, Plus, Minus, Concat, ShiftLeft, ShiftRight, And, Caret, Or, Less, LessEq, More, MoreEq, Equal, Differ, Both, Either}
use Rattle.p4_tree.specs.declared.statement.Op.{Op}
use Rattle.p4_tree.specs.declared.statement.Op.TheVariants as op

-- the level of any expression, the loosest: that of `? :`
abbrev pub top : ℕ
top = 11

-- the operator that a key is, with its level: 1 for the tightest, 10 for the loosest
abbrev pub op_at : Key → Option (ℕ × Op)
op_at Times = Some (1, op.Mul)
op_at Plus = Some (2, op.Add)
op_at Minus = Some (2, op.Sub)
op_at Concat = Some (2, op.Concat)
op_at ShiftLeft = Some (3, op.Shl)
op_at ShiftRight = Some (3, op.Shr)
op_at And = Some (4, op.BitAnd)
op_at Caret = Some (5, op.BitXor)
op_at Or = Some (6, op.BitOr)
op_at Less = Some (7, op.Less)
op_at LessEq = Some (7, op.LessEq)
op_at More = Some (7, op.More)
op_at MoreEq = Some (7, op.MoreEq)
op_at Equal = Some (8, op.Equal)
op_at Differ = Some (8, op.Differ)
op_at Both = Some (9, op.Both)
op_at Either = Some (10, op.Either)
op_at _ = None

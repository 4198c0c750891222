-- What joins two operands, and the numbers of types, sizes and casts.
use Rattle.std.specs.Prelude.{◌≡◌, ℕ, ◌≤◌, Option, Some, None}
use Rattle.lex_text.specs.declared.literal.Literal.{Literal}
use Rattle.lex_words.specs.declared.key.Key.{Key}
use Rattle.lex_words.specs.declared.key.Key.TheVariants.{Times, Plus, Minus, ShiftLeft, ShiftRight, And, Caret, Or, Less, LessEq, More, MoreEq, In, Equal, Differ, Both, Either}
use Rattle.indus_tree.specs.declared.tree.Op.TheVariants as op
use Rattle.indus_spelling.specs.declared.operator.Join.{Join}
use Rattle.indus_spelling.specs.declared.operator.Join.TheVariants.{Binary, Member}

-- the level of any expression, the loosest
abbrev pub top : ℕ
top = 10

-- what a key joins, with its level: 1 for the tightest
abbrev pub join_at : Key → Option (ℕ × Join)
join_at Times = Some (1, Binary op.Mul)
join_at Plus = Some (2, Binary op.Add)
join_at Minus = Some (2, Binary op.Sub)
join_at ShiftLeft = Some (3, Binary op.Shl)
join_at ShiftRight = Some (3, Binary op.Shr)
join_at And = Some (4, Binary op.BitAnd)
join_at Caret = Some (5, Binary op.BitXor)
join_at Or = Some (6, Binary op.BitOr)
join_at Less = Some (7, Binary op.Less)
join_at LessEq = Some (7, Binary op.LessEq)
join_at More = Some (7, Binary op.More)
join_at MoreEq = Some (7, Binary op.MoreEq)
join_at In = Some (7, Member)
join_at Equal = Some (8, Binary op.Equal)
join_at Differ = Some (8, Binary op.Differ)
join_at Both = Some (9, Binary op.Both)
join_at Either = Some (10, Binary op.Either)
join_at _ = None

-- a number of a type, a size or a cast has no written width and is at most 255
pub record IsSize (n : Literal) : Type 0 where
  pub plain : n.width ≡ 0
  pub low : n.value ≤ 255

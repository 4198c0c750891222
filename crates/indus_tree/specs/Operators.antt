-- The operators of Indus among those of both languages. Read `Value` after it.
use Rattle.bit_values.specs.Bits.{Word}
use Rattle.bit_values.specs.Operators as table
use Rattle.bit_values.specs.Operators.{Class}
use Rattle.bit_values.specs.declared.operator.Operator.{Operator}
use Rattle.bit_values.specs.declared.operator.Operator.TheVariants as operator
use Rattle.indus_tree.specs.declared.tree.Op.{Op}
use Rattle.indus_tree.specs.declared.tree.Op.TheVariants.{Mul, Add, Sub, Shl, Shr, BitAnd, BitXor, BitOr, Less, LessEq, More, MoreEq, Equal, Differ, Both, Either}

abbrev pub operator_of : Op → Operator
operator_of Mul = operator.Mul
operator_of Add = operator.Add
operator_of Sub = operator.Sub
operator_of Shl = operator.Shl
operator_of Shr = operator.Shr
operator_of BitAnd = operator.BitAnd
operator_of BitXor = operator.BitXor
operator_of BitOr = operator.BitOr
operator_of Less = operator.Less
operator_of LessEq = operator.LessEq
operator_of More = operator.More
operator_of MoreEq = operator.MoreEq
operator_of Equal = operator.Equal
operator_of Differ = operator.Differ
operator_of Both = operator.Both
operator_of Either = operator.Either

-- how an operator takes its operands
abbrev pub class_of : Op → Class
class_of op = table.class_of (operator_of op)

-- what an operator makes of two words
abbrev pub operate : Op → Word → Word → Word
operate op a b = table.operate (operator_of op) a b

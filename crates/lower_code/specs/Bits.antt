-- Truth values that are one bit without a cast. Read `Expressions` of `lowered_code` before it.
use Rattle.std.specs.Prelude.{Option, Some, None}
use Rattle.p4_tree.specs.Tree as p4
use Rattle.p4_tree.specs.declared.statement.PTy.TheVariants as type
use Rattle.monitor_laws.specs.Trees.{number}
use Rattle.bit_values.specs.Widths.{bit}

-- what is read, where that is a path
abbrev pub path_again : p4.Expr → Option p4.Expr
path_again (p4.path q x) = Some (p4.path q x)
path_again e = None

-- a truth value that is written, and one that is a bit which was read
abbrev pub bit_again : p4.Expr → Option p4.Expr
bit_again (p4.flag p b) = Some (number 1 (bit b).value)
bit_again (p4.cast p type.Bool e) = path_again e
bit_again e = None

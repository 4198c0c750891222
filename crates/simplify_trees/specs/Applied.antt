-- The outcome of a table, with nothing before it.
use Rattle.std.specs.Prelude.{Bool, true, false}
use Rattle.p4_tree.specs.Tree.{Expr, applied}

abbrev pub is_applied : Expr → Bool
is_applied (applied p t h) = true
is_applied _ = false

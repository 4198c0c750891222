use Rattle.std.proofs.Common.{◌≡◌, ◌++◌, map, drop}
use Rattle.p4_tree.specs.View.{stmts_of}
use Rattle.p4_meaning.specs.Parts.{emits_of}
use Rattle.p4_parts.specs.Paths.{path_in}
use Rattle.p4_parts.proofs.emits.emits_of.Given as goal

abbrev pub invariant-loop-s : goal.invariant-loop-s
invariant-loop-s l = map path_in l.emits.items ++ emits_of (stmts_of (drop l.s-index l.list)) ≡ emits_of (stmts_of l.list)

-- What statements declare, one part behind another.
use Rattle.std.proofs.Common.{◌≡◌, ◌+◌, arith}
use Rattle.p4_tree.specs.Tree.{Stmts, done, next, and_then}
use Rattle.slot_programs.specs.Room.{variables_in}

pub variables_then : (a b : Stmts) → variables_in (and_then a b) ≡ variables_in a + variables_in b
variables_then done b = omega arith
variables_then (next s ss) b = (let e : variables_in (and_then ss b) ≡ variables_in ss + variables_in b = variables_then ss b in omega (arith, e))

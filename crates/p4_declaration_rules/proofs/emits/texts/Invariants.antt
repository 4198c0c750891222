use Rattle.std.proofs.Common.{◌≡◌, ◌++◌, drop}
use Rattle.p4_declaration_rules.specs.Loops.{path_in}
use Rattle.p4_declaration_rules.proofs.emits.texts.Given as goal

abbrev pub invariant-loop-name : goal.invariant-loop-name
invariant-loop-name l = path_in l.texts ++ drop l.name-index l.path ≡ l.path

use Rattle.std.proofs.Common.{◌≡◌, map, drop}
use Rattle.indus_scopes.specs.Scopes.{loop_of}
use Rattle.indus_rules.specs.Rules.{walked}
use Rattle.indus_rules.proofs.stmt_rules.walked.Given as goal

abbrev pub invariant-loop-l : goal.invariant-loop-l
invariant-loop-l l = walked (map loop_of (drop l.l-index l.loops)) l.x ≡ walked (map loop_of l.loops) l.x

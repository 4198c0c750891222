use Rattle.std.proofs.Common.{◌≡◌, map, take}
use Rattle.p4_meaning.specs.Actions.{param_under}
use Rattle.p4_parts.specs.PartsIn.{param_in}
use Rattle.p4_resolved.specs.Scopes.{scope_of}
use Rattle.p4_parts.proofs.actions.params_under.Given as goal

abbrev pub invariant-loop-p : goal.invariant-loop-p
invariant-loop-p l = map param_in l.params.items ≡ map (param_under (scope_of l.sc)) (take l.p-index l.list)

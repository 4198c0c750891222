use Rattle.std.proofs.Common.{◌≡◌, take}
use Rattle.p4_meaning.specs.Actions.{params_in}
use Rattle.p4_resolved.specs.Scopes.{names_of}
use Rattle.p4_resolved.proofs.layer.param_names.Given as goal

abbrev pub invariant-loop-p : goal.invariant-loop-p
invariant-loop-p l = names_of l.names ≡ params_in (take l.p-index l.params)

use Rattle.std.proofs.Common.{◌≡◌, ◌++◌, map, drop}
use Rattle.p4_tree.specs.View.{local_of}
use Rattle.p4_meaning.specs.Actions.{actions_in}
use Rattle.p4_parts.specs.PartsIn.{action_in}
use Rattle.p4_resolved.specs.Scopes.{at_part}
use Rattle.p4_parts.proofs.actions.push_actions_in.Given as goal

abbrev pub invariant-loop-local : goal.invariant-loop-local
invariant-loop-local l = map action_in l.actions.items ++ actions_in (at_part l.top l.layer) (map local_of (drop l.local-index l.locals)) ≡ map action_in l.initial.actions.items ++ actions_in (at_part l.top l.initial.layer) (map local_of l.locals)

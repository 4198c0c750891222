use Rattle.std.proofs.Common.{◌≡◌, drop}
use Rattle.p4_meaning.specs.Scope.{is_among}
use Rattle.slot_control_codes.proofs.bodies.is_among.Given as goal

abbrev pub invariant-loop-name : goal.invariant-loop-name
invariant-loop-name l = is_among (drop l.name-index l.names) l.x ≡ is_among l.names l.x

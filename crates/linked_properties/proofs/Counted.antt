-- The bytes that are added to a frame.
use Rattle.std.proofs.Common.{arith}
use Rattle.monitor_rules.proofs.CountRules.{numbered_sum}
use Rattle.linked_properties.specs.Counted.{RoomIsCounted}

pub room_is_counted : RoomIsCounted
room_is_counted g = let e = numbered_sum g.property.decls 0 in omega (arith, e)

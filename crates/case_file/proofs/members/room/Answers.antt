use Rattle.std.proofs.Common.{codes, arith}
use Rattle.json_parts.specs.Views.{object_seen}
use Rattle.case_file.proofs.Ranges.{number_is_low}
use Rattle.case_file.proofs.members.room.Goals as goal

pub overflow_cast-result : goal.overflow_cast-result
overflow_cast-result c =
    let low = number_is_low (object_seen c.args.members.now) (codes "room") 1 256 128 c.in_ok-room.room (omega arith) c.in_ok-room.ensures in
    omega arith

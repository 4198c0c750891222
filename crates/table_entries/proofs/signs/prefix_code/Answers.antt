use Rattle.table_entries.proofs.Packed.{room}
use Rattle.table_entries.proofs.signs.prefix_code.Goals as goal

pub overflow_add-result : goal.overflow_add-result
overflow_add-result c = room c.args.length c.args.bits c.if-length-lt128.true c.if-bits-length.true

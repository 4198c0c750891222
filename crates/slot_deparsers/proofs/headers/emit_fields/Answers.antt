use Rattle.std.proofs.Common.{sym, subst}
use Rattle.slot_packets.specs.Fields.{AreWidths}
use Rattle.slot_places.proofs.LoopLemmas.{widths_are}
use Rattle.slot_deparsers.proofs.headers.emit_fields.Goals as goal

pub put_fields-requires-clause-widths : goal.put_fields-requires-clause-widths
put_fields-requires-clause-widths c = subst AreWidths (sym c.deref.ensures.value) (widths_are c.args.h.now.widths.items c.args.h.now.sound)

use Rattle.p4_typing_laws.proofs.ValueWidths.{fine_has_static}
use Rattle.p4_typing_laws.proofs.FineUses.{each_has_width}
use Rattle.p4_typing_laws.proofs.laws.values_have_static_widths.Goals as goal

pub returns : goal.returns
returns c = record { expressions = fine_has_static; programs = each_has_width }

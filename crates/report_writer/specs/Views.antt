-- Rows of the program without where they lie in memory.
use Rattle.report_writer.specs.Texts as text
use Rattle.report_writer.specs.declared.rows.ReportRow.{ReportRow}
use Rattle.report_writer.specs.declared.rows.CellRow.{CellRow}
use Rattle.report_writer.specs.declared.rows.Counts.{Counts}

abbrev pub report_of : ReportRow → text.Report
report_of r = record { packet = r.packet; switch = r.switch.now; number = r.number; values = r.values.now }

abbrev pub cell_of : CellRow → text.Cell
cell_of c = record { switch = c.switch.now; register = c.register.now; index = c.index; value = c.value.value }

abbrev pub counts_of : Counts → text.Counts
counts_of c = record { packets = c.packets; sent = c.sent; dropped = c.dropped; rejected = c.rejected; lost = c.lost; reports = c.reports }

use Rattle.std.proofs.Common.{◌≡◌, map, take, string_bytes}
use Rattle.std.specs.List.{flat_map}
use Rattle.report_writer.specs.Texts.{cell_line}
use Rattle.report_writer.specs.Views.{cell_of}
use Rattle.report_writer.proofs.texts.cells_text.Given as goal

abbrev pub invariant-loop-row : goal.invariant-loop-row
invariant-loop-row l = string_bytes l.out ≡ flat_map cell_line (map cell_of (take l.row-index l.rows))

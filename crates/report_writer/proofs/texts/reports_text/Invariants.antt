use Rattle.std.proofs.Common.{◌≡◌, map, take, string_bytes}
use Rattle.std.specs.List.{flat_map}
use Rattle.report_writer.specs.Texts.{report_line}
use Rattle.report_writer.specs.Views.{report_of}
use Rattle.report_writer.proofs.texts.reports_text.Given as goal

abbrev pub invariant-loop-row : goal.invariant-loop-row
invariant-loop-row l = string_bytes l.out ≡ flat_map report_line (map report_of (take l.row-index l.rows))

-- The lines of reports, and of the forwarding program's digests. Read `Linkage` of linkage before it, `Texts` of report_writer
-- and `Rows` of forward_texts.
use Rattle.std.specs.Prelude.{ℕ, List, [], ◌∷◌, map, filter, count_by, Bool, not, get_or}
use Rattle.bit_values.specs.Bits.{Word, cast}
use Rattle.network_run.specs.Network.{Told}
use Rattle.linkage.specs.Linkage.{is_report}
use Rattle.report_writer.specs.Texts.{Report, reports_of}
use Rattle.forward_texts.specs.Rows.{report_of}

-- a digest is a report, or else the forwarding program's
abbrev pub is_told_report : Told → Bool
is_told_report t = is_report t.digest

abbrev pub is_told_digest : Told → Bool
is_told_digest t = not (is_told_report t)

-- the first value of a report's digest is the report's number, a word of 16 bits, and the others are its values. Of a longer
-- word the lowest 32 bits would be taken, and 0 where there is none
abbrev pub number_in : List Word → ℕ
number_in [] = 0
number_in (w ∷ ws) = cast 32 w.value

abbrev pub values_in : List Word → List Word
values_in [] = []
values_in (w ∷ ws) = ws

abbrev pub report_in : (names : List (List ℕ)) → Told → Report
report_in names t =
    record { packet = t.packet; switch = get_or names t.switch []; number = number_in t.digest.values; values = values_in t.digest.values }

-- a line for each report, and for each of the others
abbrev pub reports_lines : (names : List (List ℕ)) → List Told → List ℕ
reports_lines names ts = reports_of (map (report_in names) (filter is_told_report ts))

abbrev pub digests_lines : (names : List (List ℕ)) → List Told → List ℕ
digests_lines names ts = reports_of (map (report_of names) (filter is_told_digest ts))

-- how many reports there are
abbrev pub reports_in : List Told → ℕ
reports_in ts = count_by is_told_report ts

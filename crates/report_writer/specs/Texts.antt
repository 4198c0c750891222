-- The texts that a run writes, byte by byte: numbers are decimal, and each line ends in a line feed.
use Rattle.std.specs.Prelude.{ℕ, List, ◌++◌, codes}
use Rattle.std.specs.Fmt.{decimal}
use Rattle.std.specs.List.{flat_map}
use Rattle.bit_values.specs.Bits.{Word}

-- ---- reports and digests

-- what a packet told at a switch: the report's number or the digest's receiver, and values
pub record Report : Type 0 where
  pub packet : ℕ
  pub switch : List ℕ
  pub number : ℕ
  pub values : List Word

abbrev pub value_text : Word → List ℕ
value_text w = codes " " ++ decimal w.value

-- packet, switch, number and values, with a space between
abbrev pub report_line : Report → List ℕ
report_line r =
    decimal r.packet ++ (codes " " ++ (r.switch ++ (codes " " ++ (decimal r.number ++ (flat_map value_text r.values ++ codes "\n")))))

abbrev pub reports_of : List Report → List ℕ
reports_of rs = flat_map report_line rs

-- ---- cells of registers

pub record Cell : Type 0 where
  pub switch : List ℕ
  pub register : List ℕ
  pub index : ℕ
  pub value : ℕ

-- switch, register, index and value, with a space between
abbrev pub cell_line : Cell → List ℕ
cell_line c =
    c.switch ++ (codes " " ++ (c.register ++ (codes " " ++ (decimal c.index ++ (codes " " ++ (decimal c.value ++ codes "\n"))))))

abbrev pub cells_of : List Cell → List ℕ
cells_of cs = flat_map cell_line cs

-- ---- the summary

-- how many packets there were, how many left, were dropped, were rejected and were lost, and how many
-- reports there were
pub record Counts : Type 0 where
  pub packets : ℕ
  pub sent : ℕ
  pub dropped : ℕ
  pub rejected : ℕ
  pub lost : ℕ
  pub reports : ℕ

-- the last three lines
abbrev pub losses_of : Counts → List ℕ
losses_of c =
    codes "rejected " ++ (decimal c.rejected ++ (codes "\nlost " ++ (decimal c.lost ++ (codes "\nreports " ++ (decimal c.reports
    ++ codes "\n")))))

-- six lines, each a word, a space and a number
abbrev pub summary_of : Counts → List ℕ
summary_of c =
    codes "packets " ++ (decimal c.packets ++ (codes "\nsent " ++ (decimal c.sent ++ (codes "\ndropped " ++ (decimal c.dropped
    ++ (codes "\n" ++ losses_of c))))))

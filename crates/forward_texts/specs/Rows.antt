-- The lines of digests and registers. Read `Rows` of register_texts, `Texts` of report_writer, and `Numbers` of p4_types,
-- before it.
use Rattle.std.specs.Prelude.{ℕ, ◌+◌, List, [], ◌∷◌, ◌++◌, get_or, true}
use Rattle.p4_tree.specs.Tree.{Program}
use Rattle.p4_types.specs.Numbers.{names, registers}
use Rattle.p4_meaning.specs.Parts.{parts_of}
use Rattle.p4_meaning.specs.Pass.{Kept}
use Rattle.network_run.specs.Network.{Told}
use Rattle.report_writer.specs.Texts.{Report, Cell}
use Rattle.register_texts.specs.Rows.{registers_cells}

-- ---- digests

-- a digest, with its receiver in the place of a report's number
abbrev pub report_of : (names : List (List ℕ)) → Told → Report
report_of names t = record { packet = t.packet; switch = get_or names t.switch []; number = t.digest.receiver; values = t.digest.values }

-- ---- registers

-- those of all switches, the first of which has the number s, by their names. Registers stand in the order of the program's
-- text; the name of one in a control is `Control.name`
abbrev pub switches_cells : Program → (keeps : ℕ → Kept) → (s : ℕ) → (switches : List (List ℕ)) → List Cell
switches_cells p keeps s [] = []
switches_cells p keeps s (n ∷ ns) =
    registers_cells (λ x. true) n (keeps s).registers (names registers p) (parts_of p).registers ++ switches_cells p keeps (s + 1) ns

-- The lines of the registers of switches that run linked programs, and how many packets they count as rejected. Read `Rows`
-- and `Which` of register_texts before it.
use Rattle.std.specs.Prelude.{ℕ, ◌+◌, List, [], ◌∷◌, ◌++◌, map}
use Rattle.bit_values.specs.Bits.{cast}
use Rattle.p4_tree.specs.Tree.{Program}
use Rattle.p4_types.specs.Numbers.{names, registers}
use Rattle.p4_meaning.specs.Parts.{parts_of}
use Rattle.p4_meaning.specs.Pass.{Kept, Registers}
use Rattle.monitor_laws.specs.Names.{rejects_register}
use Rattle.path_runner.specs.Nets.{Switch}
use Rattle.report_writer.specs.Texts.{Cell}
use Rattle.register_texts.specs.Rows.{registers_cells, first_cell}
use Rattle.register_texts.specs.Which.{is_one_of}
use Rattle.register_texts.specs.declared.which.Which.{Which}
use Rattle.register_texts.specs.declared.which.Which.TheVariants.{Forwarding, Sensors, Rejects}

-- the programs of switches
abbrev pub programs_in : List Switch → List Program
programs_in xs = map (λ x. x.program) xs

-- the cells of some registers of a program that are not 0, in the order of its text
abbrev pub meant_cells : Which → Program → (switch : List ℕ) → Registers → List Cell
meant_cells w q n cells = registers_cells (is_one_of w) n cells (names registers q) (parts_of q).registers

-- those of the forwarding program, then those of sensors, then the number of rejected packets
abbrev pub switch_cells : Program → (switch : List ℕ) → Registers → List Cell
switch_cells q n cells =
    meant_cells Forwarding q n cells ++ (meant_cells Sensors q n cells ++ meant_cells Rejects q n cells)

-- of all switches, the first of which has the number s, each with its program
abbrev pub switches_cells : List Program → (keeps : ℕ → Kept) → (s : ℕ) → (switches : List (List ℕ)) → List Cell
switches_cells [] keeps s ns = []
switches_cells (q ∷ qs) keeps s [] = []
switches_cells (q ∷ qs) keeps s (n ∷ ns) = switch_cells q n (keeps s).registers ++ switches_cells qs keeps (s + 1) ns

-- how many packets a switch counts as rejected, in a word of 32 bits
abbrev pub rejected_at : Program → Kept → ℕ
rejected_at q k = cast 32 (first_cell (parts_of q).registers k.registers rejects_register)

-- how many all switches count, the first of which has the number s
abbrev pub rejected_from : List Program → (keeps : ℕ → Kept) → (s : ℕ) → ℕ
rejected_from [] keeps s = 0
rejected_from (q ∷ qs) keeps s = rejected_at q (keeps s) + rejected_from qs keeps (s + 1)

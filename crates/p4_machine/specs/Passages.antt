-- What a passage of a switch does. Read `Pass` of the trees' meaning, and `State` and `Named` of `p4_tables`, before it.
use Rattle.std.specs.Prelude.{ℕ, List, [], ◌++◌, Option, Some, None, slice_get}
use Rattle.p4_tree.specs.Tree.{Program}
use Rattle.p4_meaning.specs.Statements.{Digest}
use Rattle.p4_meaning.specs.Tables.{Tables}
use Rattle.p4_meaning.specs.Parts.{Cells, Parts, parts_of}
use Rattle.p4_meaning.specs.Pass.{Registers, Queued, Entered, parts_enter, parts_leave}
use Rattle.p4_tables.specs.State.{Held}
use Rattle.p4_tables.specs.Named.{tables_in}
use Rattle.p4_passages.specs.Waiting.{goes_to}

-- what a passage leaves: the registers, the digests in order, and the port and the frame where the packet goes on
pub record Passage : Type 0 where
  pub registers : Registers
  pub digests : List Digest
  pub out : Option (ℕ × List ℕ)

-- the exit half of what waits, behind these digests; where nothing waits, nothing happens
abbrev pub exit_from : Parts → Tables → Registers → List Digest → Option Queued → Passage
exit_from p held cells ds None = record { registers = cells; digests = ds; out = None }
exit_from p held cells ds (Some q) =
    record {
      registers = (parts_leave p held cells q).registers;
      digests = ds ++ (parts_leave p held cells q).digests;
      out = goes_to (parts_leave p held cells q).going;
    }

-- the exit half behind an entry half
abbrev pub exit_behind : Parts → Tables → Entered → Passage
exit_behind p held e = exit_from p held e.registers e.digests e.queued

-- ---- of a program, whose tables hold this by their numbers

-- the entry half
abbrev pub entry_in : Program → List Held → Registers → (port : ℕ) → (frame : List ℕ) → Entered
entry_in p held = parts_enter (parts_of p) (tables_in (parts_of p) held)

-- the exit half
abbrev pub exit_in : Program → List Held → Registers → List Digest → Option Queued → Passage
exit_in p held = exit_from (parts_of p) (tables_in (parts_of p) held)

-- a passage: the entry half, and then the exit half
abbrev pub passage_in : Program → List Held → Registers → (port : ℕ) → (frame : List ℕ) → Passage
passage_in p held cells port frame = exit_behind (parts_of p) (tables_in (parts_of p) held) (entry_in p held cells port frame)

-- the full name of the register of a number; nothing where there is none
abbrev pub name_or : Option Cells → List ℕ
name_or None = []
name_or (Some c) = c.name

abbrev pub register_name : Program → ℕ → List ℕ
register_name p n = name_or (slice_get (parts_of p).registers n)

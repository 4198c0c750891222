-- What is asked of what is loaded, and the switch that is loaded. Read `Rows` before it, `Carried` of `p4_tables` and `Starts`
-- of `path_runner`.
use Rattle.std.specs.Prelude.{◌≡◌, ℕ, ◌+◌, ◌≤◌, List, [], ◌∷◌, length, true, false}
use Rattle.std.specs.List.{AllByRecursion}
use Rattle.lex_text.specs.Names.{same_text}
use Rattle.p4_tree.specs.Tree.{Program}
use Rattle.p4_meaning.specs.Parts.{parts_of}
use Rattle.p4_meaning.specs.Pass.{start_cells}
use Rattle.p4_meaning.specs.Tables.{Table, Tables}
use Rattle.p4_tables.specs.State.{Held}
use Rattle.p4_tables.specs.Named.{tables_in}
use Rattle.p4_tables.specs.Programs.{state_before}
use Rattle.p4_tables.specs.Carried.{is_table, held_or}
use Rattle.indus_tree.specs.Tree.{Shape}
use Rattle.indus_tree.specs.State.{Contents}
use Rattle.control_maps.specs.Numbers.{Numbered, HasShape, keys_of, AreUnequal}
use Rattle.path_runner.specs.Nets.{Switch}
use Rattle.loaded_tables.specs.Rows.{Row, row_name}

-- no row's table is one of these
abbrev pub AreNew : List Table → List Row → Type 0
AreNew ts rows = AllByRecursion (λ r. is_table ts (row_name r) ≡ false) rows

-- each of the tables `to` is one of the tables `from`, or a row's
abbrev pub AddsOnly : (from to : List Table) → List Row → Type 0
AddsOnly from to rows = (x : List ℕ) → AllByRecursion (λ r. same_text (row_name r) x ≡ false) rows → is_table to x ≡ true → is_table from x ≡ true

-- ---- contents

-- contents have a variable's shape, and no equal keys
pub record IsOfShape (d : Shape) (c : Contents) : Type 0 where
  pub shape : HasShape d c
  pub keys : AreUnequal (keys_of c)

-- the keys of all tables of a map
abbrev pub keys_in : List Numbered → (contents : ℕ → Contents) → ℕ
keys_in [] contents = 0
keys_in (n ∷ ns) contents = length (keys_of (contents n.variable)) + keys_in ns contents

-- the tables of a map take the contents of their variables: they are of their shapes, and there are at most 65,536 entries
-- with those that are held
pub record AreTaken (held : ℕ) (ns : List Numbered) (contents : ℕ → Contents) : Type 0 where
  pub shapes : AllByRecursion (λ n. IsOfShape n.shape (contents n.variable)) ns
  pub few : held + keys_in ns contents ≤ 65536

-- ---- the switch

-- what tables hold into which those of a program were carried, before contents are loaded: the program's what they held,
-- others nothing, with the default that is written
abbrev pub carried_entries : (given : Program) → List Held → (program : Program) → Tables
carried_entries given held program x = held_or (parts_of given) held x (tables_in (parts_of program) (state_before program) x)

-- a switch with these tables, before the first event
abbrev pub switch_before : Program → List Held → Switch
switch_before p st = record { program = p; tables = st; cells = start_cells (parts_of p).registers }

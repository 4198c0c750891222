-- What tables hold that are carried into another program, by the full names of tables and actions, and when all of it has
-- a place there. Read `Programs` and `Named` before it.
use Rattle.std.specs.Prelude.{◌≡◌, ◌≢◌, ℕ, List, [], ◌∷◌, map, Bool, true, if◌then◌else◌}
use Rattle.std.specs.List.{AllByRecursion}
use Rattle.p4_meaning.specs.Scope.{is_among}
use Rattle.p4_meaning.specs.Actions.{Action}
use Rattle.p4_meaning.specs.Tables.{Table, Entries}
use Rattle.p4_tree.specs.Tree.{Program}
use Rattle.p4_meaning.specs.Parts.{Parts, parts_of}
use Rattle.table_shapes.specs.Shapes.{ActionShape, Shape}
use Rattle.table_entries.specs.Entries.{Entry, Act}
use Rattle.p4_tables.specs.State.{Held, held_at}
use Rattle.p4_tables.specs.Programs.{state_before, shapes, action_place}
use Rattle.p4_tables.specs.Named.{action_name, table_place, tables_in}

-- a table of this full name is declared
abbrev pub is_table : List Table → List ℕ → Bool
is_table ts x = is_among (map (λ t. t.name) ts) x

-- what a program's table of this full name holds, where its tables hold this; without such a table something else
abbrev pub held_or : Parts → List Held → (x : List ℕ) → Entries → Entries
held_or from st x other = if is_table from.tables x then tables_in from st x else other

-- tables of a program with these parts, which held something before, hold what is carried into them: each that the other
-- program has holds what it holds there, and any other what it held before
pub record AreCarried (from : Parts) (st : List Held) (to : Parts) (before after : List Held) : Type 0 where
  pub held : (x : List ℕ) → is_table to.tables x ≡ true → tables_in to after x ≡ held_or from st x (tables_in to before x)

-- the tables of a program hold what is carried into them from another program, whose tables hold this: each that the
-- other program has holds what it holds there, and any other is empty, with the default that is written
abbrev pub HoldsCarried : (from : Program) → List Held → (to : Program) → List Held → Type 0
HoldsCarried from st to after = AreCarried (parts_of from) st (parts_of to) (state_before to) after

-- ---- by numbers

-- the number that the action of a number has in another program, where it stands under its name
abbrev pub same_number : (from to : List Action) → ℕ → ℕ
same_number from to n = action_place to (action_name from n)

-- an entry, and a default, with the action of another number
abbrev pub renumbered : (ℕ → ℕ) → Entry → Entry
renumbered re e = record e { action = re e.action }

abbrev pub act_renumbered : (ℕ → ℕ) → Act → Act
act_renumbered re d = record d { action = re d.action }

-- a table holds what another one holds, with actions of other numbers
abbrev pub refilled : (ℕ → ℕ) → (to from : Held) → Held
refilled re to from = record to { listed = map (renumbered re) from.listed; default = act_renumbered re from.default }

-- the same of tables by their numbers: each table of the other program stands under its name, with all its entries in their
-- order and its default, their actions under other numbers alone; and a table of no such name is as it was before
pub record AreRefilled (from : Parts) (st : List Held) (to : Parts) (before after : List Held) : Type 0 where
  pub same : (x : List ℕ) → is_table from.tables x ≡ true →
      held_at after (table_place to.tables x) ≡ refilled (same_number from.actions to.actions) (held_at before (table_place to.tables x)) (held_at st (table_place from.tables x))
  pub others : (n : ℕ) → AllByRecursion (λ t. table_place to.tables t.name ≢ n) from.tables → held_at after n ≡ held_at before n

-- ---- when all that is held has a place

-- the action of a number is the first of its name, and an action of this name stands in the other program
pub record ActionStands (from to : List Action) (n : ℕ) : Type 0 where
  pub first : action_place from (action_name from n) ≡ n
  pub there : action_name to (same_number from to n) ≡ action_name from n

-- an action of a list, and what a table takes, with actions of other numbers
abbrev pub action_renumbered : (ℕ → ℕ) → ActionShape → ActionShape
action_renumbered re a = record a { number = re a.number }

abbrev pub shape_renumbered : (ℕ → ℕ) → Shape → Shape
shape_renumbered re s = record s { actions = map (action_renumbered re) s.actions; written = re s.written }

-- a table that takes this stands in the other program under its name, where each action of its list, and that of its default,
-- stands under its own: with keys of the same kinds and widths, the same list of actions with the same parameters, and the
-- same default, `const` or not
pub record TableStands (from : List Action) (to : Program) (t : Table) (s : Shape) : Type 0 where
  pub there : is_table (parts_of to).tables t.name ≡ true
  pub actions : AllByRecursion (ActionStands from (parts_of to).actions) (s.written ∷ map (λ a. a.number) s.actions)
  pub shape : (held_at (state_before to) (table_place (parts_of to).tables t.name)).shape ≡ shape_renumbered (same_number from (parts_of to).actions) s

-- so does each of these tables
abbrev pub TablesStand : List Action → Program → List Table → List Shape → Type 0
TablesStand from to [] ss = Unit {0}
TablesStand from to (t ∷ ts) [] = Unit {0}
TablesStand from to (t ∷ ts) (s ∷ ss) = TableStands from to t s × TablesStand from to ts ss

-- each table of a program stands in the other one
pub record StandsIn (from to : Program) : Type 0 where
  pub tables : TablesStand (parts_of from).actions to (parts_of from).tables (shapes (state_before from))

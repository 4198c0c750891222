-- Laws of tables by the names of their actions: what they hold runs actions of their lists, a table that is given entries holds
-- them under its name, and a table of the same shape in another program takes what a table holds. Read `Laws`, `Faults` and
-- `Carried` of `p4_tables` before it.
use Rattle.std.specs.Prelude.{◌≡◌, ◌≢◌, ℕ, ◌+◌, ◌<◌, ◌≤◌, List, [], ◌∷◌, length, map, Option, Some, None, true}
use Rattle.std.specs.List.{AllByRecursion}
use Rattle.p4_tree.specs.Tree.{Program}
use Rattle.p4_meaning.specs.Actions.{Action}
use Rattle.p4_meaning.specs.Tables.{Table, Entries}
use Rattle.p4_meaning.specs.Parts.{Parts, parts_of}
use Rattle.p4_meaning.specs.Laws.{AreListed}
use Rattle.value_shapes.specs.declared.values.ValueShape.{ValueShape}
use Rattle.table_shapes.specs.Shapes.{Shape, has_action}
use Rattle.table_entries.specs.Entries.{Entry, Act, named}
use Rattle.p4_tables.specs.State.{Held, held_at, entries_in, replaced}
use Rattle.p4_tables.specs.Faults.{AreAccepted}
use Rattle.p4_tables.specs.Kept.{IsSound}
use Rattle.p4_tables.specs.Laws.{RunsListed}
use Rattle.p4_tables.specs.Named.{action_name, named_act, tables_in, table_place}
use Rattle.p4_tables.specs.Programs.{action_place, action_shape, IsStateOf}
use Rattle.p4_tables.specs.Carried.{same_number, renumbered, action_renumbered}
use Rattle.p4_rules.specs.ProgramRules.{IsWellTyped}
use Rattle.p4_typing_laws.specs.Plain.{HavePlainNames}

-- ---- actions of lists

-- a name that stands for an action: one of the program's, or `NoAction`
abbrev pub IsActionName : List Action → List ℕ → Type 0
IsActionName as' x = action_name as' (action_place as' x) ≡ x

-- so does each name in a table's list, and the default that is written
abbrev pub NamesActions : List Action → Table → Type 0
NamesActions as' t = AllByRecursion (IsActionName as') (t.default.action ∷ t.actions)

abbrev pub TablesNameActions : Parts → Type 0
TablesNameActions f = AllByRecursion (NamesActions f.actions) f.tables

-- what the tables of a switch hold, by their numbers, runs actions of their lists by the full names: so what each world
-- holds that was loaded by `insert` and `set_default`, since each `TableState` is so (`actions_are_listed` of `p4_tables`)
abbrev pub LoadedTablesAreListed : Type 0
LoadedTablesAreListed = (p : Program) → IsWellTyped p → HavePlainNames p.tops → (st : List Held) → IsStateOf p st → RunsListed st → AreListed (parts_of p) (tables_in (parts_of p) st)

-- ---- entries that are put

-- these entries, with the names of actions, and the default that is given, or else the one that was there
abbrev pub given_entries : (name : ℕ → List ℕ) → Entries → List Entry → Option Act → Entries
given_entries name old es None = record { listed = map (named name) es; default = old.default }
given_entries name old es (Some d) = record { listed = map (named name) es; default = named_act name d }

-- a table that is given entries holds them under its name, and a table of another place what it held
pub record PutsByName (f : Parts) (st : List Held) (x : List ℕ) (es : List Entry) (d : Option Act) : Type 0 where
  pub there : tables_in f (replaced st (table_place f.tables x) es d) x ≡ given_entries (action_name f.actions) (tables_in f st x) es d
  pub others : (y : List ℕ) → table_place f.tables y ≢ table_place f.tables x → tables_in f (replaced st (table_place f.tables x) es d) y ≡ tables_in f st y

abbrev pub ReplacedIsPut : Type 0
ReplacedIsPut = (f : Parts) (st : List Held) (x : List ℕ) (es : List Entry) (d : Option Act) → length st ≡ length f.tables → table_place f.tables x < length f.tables → PutsByName f st x es d

-- ---- tables of another program

-- a table of the other program: keys of the same kinds and widths, and the same list of actions with the same parameters, whose
-- numbers are other ones, no two of them one
pub record IsSameShape (re : ℕ → ℕ) (a b : Shape) : Type 0 where
  pub keys : b.keys ≡ a.keys
  pub actions : b.actions ≡ map (action_renumbered re) a.actions
  pub apart : (n : ℕ) → has_action a.actions n ≡ true → AllByRecursion (λ x. re x.number ≡ re n → x.number ≡ n) a.actions

-- it takes all entries that the table holds, one after the other, where it is empty and all tables hold few
abbrev pub SameShapesTakeTheSame : Type 0
SameShapesTakeTheSame =
    (re : ℕ → ℕ) (h : Held) (st : List Held) (n : ℕ) → IsSound h → n < length st → IsSameShape re h.shape (held_at st n).shape → (held_at st n).listed ≡ [] →
    entries_in st + length h.listed ≤ 65536 → AreAccepted st n (map (renumbered re) h.listed)

-- numbers of the other program are apart, where the names of a list stand for actions in both
abbrev pub SameNumbersAreApart : Type 0
SameNumbersAreApart =
    (from to : List Action) (pss : List (List ValueShape)) (xs : List (List ℕ)) → AllByRecursion (IsActionName from) xs → AllByRecursion (IsActionName to) xs →
    (n : ℕ) → has_action (map (action_shape from pss) xs) n ≡ true → AllByRecursion (λ x. same_number from to x.number ≡ same_number from to n → x.number ≡ n) (map (action_shape from pss) xs)

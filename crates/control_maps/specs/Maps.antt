-- The map: which tables hold the contents of which control variables, by their full names. Read `Contents` of
-- `control_tables` before it, and `Numbers` after it.
use Rattle.std.specs.Prelude.{◌≡◌, codes, ℕ, List, [], ◌∷◌, false, nat_eq, if◌then◌else◌}
use Rattle.std.specs.List.{AllByRecursion}
use Rattle.lex_text.specs.Names.{same_text}
use Rattle.p4_meaning.specs.Tables.{Chosen, Entries, Tables}
use Rattle.table_laws.specs.Loaded.{given_entries}
use Rattle.indus_tree.specs.State.{Contents}
use Rattle.control_tables.specs.Contents.{entries_for, default_for}
use Rattle.switch_machines.specs.Programs.{Controls}

-- a table and its first action, by their full names, and the number of the variable whose contents it holds
pub record Lookup : Type 0 where
  pub table : List ℕ
  pub action : List ℕ
  pub variable : ℕ

-- the miss, in which nothing is done
abbrev pub miss : Chosen
miss = record { action = codes "NoAction"; args = [] }

-- what a table with this first action holds for contents: a scalar's has the value in its default, any other its miss
abbrev pub held_for : (action : List ℕ) → Contents → Entries
held_for x c = given_entries (λ n. x) (record { listed = []; default = miss }) (entries_for 0 c) (default_for 0 c)

-- the table holds these contents, and any other what it held
abbrev pub put_named : Lookup → Contents → Tables → Tables
put_named l c held x = if same_text l.table x then held_for l.action c else held x

-- each table of the map holds the contents of its variable
abbrev pub loads : List Lookup → (contents : ℕ → Contents) → Tables → Tables
loads [] c held = held
loads (l ∷ ls) c held = loads ls c (put_named l (c l.variable) held)

-- each table of the variable holds its new contents
abbrev pub sets : List Lookup → (variable : ℕ) → Contents → Tables → Tables
sets [] v c held = held
sets (l ∷ ls) v c held = sets ls v c (if nat_eq l.variable v then put_named l c held else held)

-- so is a switch loaded and set
abbrev pub map_controls : List Lookup → Controls Contents
map_controls ls = record { loaded = loads ls; set = sets ls }

-- no table of the map has this name
abbrev pub Misses : List ℕ → List Lookup → Type 0
Misses x ls = AllByRecursion (λ l. same_text l.table x ≡ false) ls

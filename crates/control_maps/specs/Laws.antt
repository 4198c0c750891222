-- Contents that are put into tables by numbers are put into them by names, and are taken. Read `Maps` and `Numbers` before it.
use Rattle.std.specs.Prelude.{◌≡◌, ℕ, ◌≤◌, List, map, true, nat_eq}
use Rattle.std.specs.List.{AllByRecursion}
use Rattle.p4_meaning.specs.Tables.{Tables}
use Rattle.p4_meaning.specs.Parts.{Parts}
use Rattle.p4_tables.specs.State.{Held, entries_in}
use Rattle.p4_tables.specs.Faults.{IsReplaceable}
use Rattle.p4_tables.specs.Named.{tables_in}
use Rattle.p4_tables.specs.Programs.{shapes}
use Rattle.indus_tree.specs.State.{Contents}
use Rattle.control_tables.specs.Contents.{entries_for, default_for}
use Rattle.control_maps.specs.Maps.{Lookup, held_for, Misses, loads, sets}
use Rattle.control_maps.specs.Numbers.{Numbered, named_in, put_in, load_in, set_in, HasShape, keys_of, AreUnequal, IsOfForm, IsMapOf}

-- the tables of a switch, by numbers and by names
pub record NumbersAreNames : Type 0 where
  pub loads : (f : Parts) (st : List Held) (ns : List Numbered) (c : ℕ → Contents) → IsMapOf f st ns → AllByRecursion (λ n. HasShape n.shape (c n.variable)) ns
      → tables_in f (load_in ns c st) ≡ loads (map (named_in f) ns) c (tables_in f st)
  pub sets : (f : Parts) (st : List Held) (ns : List Numbered) (v : ℕ) (c : Contents) → IsMapOf f st ns → AllByRecursion (λ n. nat_eq n.variable v ≡ true → HasShape n.shape c) ns
      → tables_in f (set_in ns v c st) ≡ sets (map (named_in f) ns) v c (tables_in f st)

-- a map stays one, and tables take what they took
pub record MapsStay : Type 0 where
  pub loads : (f : Parts) (st : List Held) (ns : List Numbered) (c : ℕ → Contents) → IsMapOf f st ns → AllByRecursion (λ n. HasShape n.shape (c n.variable)) ns
      → IsMapOf f (load_in ns c st) ns × (shapes (load_in ns c st) ≡ shapes st)
  pub sets : (f : Parts) (st : List Held) (ns : List Numbered) (v : ℕ) (c : Contents) → IsMapOf f st ns → AllByRecursion (λ n. nat_eq n.variable v ≡ true → HasShape n.shape c) ns
      → IsMapOf f (set_in ns v c st) ns × (shapes (set_in ns v c st) ≡ shapes st)

-- where tables hold the contents of their variables, and the others what was there, they are loaded with them
abbrev pub HeldIsLoaded : Type 0
HeldIsLoaded =
    (now before : Tables) (ls : List Lookup) (c : ℕ → Contents) → AllByRecursion (λ l. now l.table ≡ held_for l.action (c l.variable)) ls
    → ((x : List ℕ) → Misses x ls → now x ≡ before x) → now ≡ loads ls c before

-- contents stand in the tables of the map alone
pub record OthersAreLeft : Type 0 where
  pub loads : (ls : List Lookup) (c : ℕ → Contents) (held : Tables) (x : List ℕ) → Misses x ls → loads ls c held x ≡ held x
  pub sets : (ls : List Lookup) (v : ℕ) (c : Contents) (held : Tables) (x : List ℕ) → Misses x ls → sets ls v c held x ≡ held x

-- a table of the form that is given for a variable takes contents of the variable's shape, no two of whose keys are equal, where
-- all tables hold few then
abbrev pub ContentsAreTaken : Type 0
ContentsAreTaken =
    (f : Parts) (st : List Held) (n : Numbered) (c : Contents) → IsOfForm f st n → HasShape n.shape c → AreUnequal (keys_of c)
    → entries_in (put_in n c st) ≤ 65536 → IsReplaceable st n.table (entries_for n.action c) (default_for n.action c)

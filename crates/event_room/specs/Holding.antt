-- The tables of a switch's map hold the contents of their variables. Read `Contents` before it, and `Numbers` of control_maps.
use Rattle.std.specs.Prelude.{◌≡◌, ℕ, ◌+◌, ◌≤◌, List, length, true, nat_eq}
use Rattle.std.specs.List.{AllByRecursion}
use Rattle.p4_meaning.specs.Parts.{Parts, parts_of}
use Rattle.p4_meaning.specs.Tables.{Tables}
use Rattle.p4_tables.specs.State.{Held, held_at, entries_in}
use Rattle.indus_tree.specs.State.{Contents}
use Rattle.network_run.specs.NetworkRun.{put}
use Rattle.control_maps.specs.Numbers.{Numbered, set_in, HasShape, keys_of, IsMapOf}
use Rattle.path_runner.specs.Nets.{Switch}
use Rattle.path_runner.specs.Starts.{IsLoaded}
use Rattle.loaded_tables.specs.Loading.{keys_in}

-- each table of the map has an entry for each key of what its variable holds, and the other tables have at most so many
pub record Holds (f : Parts) (others : ℕ) (ns : List Numbered) (contents : ℕ → Contents) (st : List Held) : Type 0 where
  pub map : IsMapOf f st ns
  pub keys : AllByRecursion (λ n. length (held_at st n.table).listed ≡ length (keys_of (contents n.variable))) ns
  pub total : entries_in st ≤ others + keys_in ns contents

-- it is so where a switch was loaded, and where one variable is set behind that
pub record TablesHold : Type 0 where
  pub loaded :
      (x : Switch) (others : ℕ) (ns : List Numbered) (entries : Tables) (c : ℕ → Contents)
      → IsMapOf (parts_of x.program) x.tables ns → IsLoaded x ns entries c → entries_in x.tables ≤ others + keys_in ns c
      → Holds (parts_of x.program) others ns c x.tables
  pub set :
      (f : Parts) (others : ℕ) (ns : List Numbered) (c : ℕ → Contents) (st : List Held) → Holds f others ns c st
      → (v : ℕ) (x : Contents) → AllByRecursion (λ n. nat_eq n.variable v ≡ true → HasShape n.shape x) ns
      → Holds f others ns (put c v x) (set_in ns v x st)

-- A map's tables in the middle of a walk over them. Read `Loading` before it.
use Rattle.std.specs.Prelude.{◌≡◌, ℕ, ◌+◌, ◌<◌, List, [], ◌∷◌, length, drop, if◌then◌else◌}
use Rattle.std.specs.List.{AllByRecursion}
use Rattle.p4_meaning.specs.Parts.{Parts}
use Rattle.p4_meaning.specs.Tables.{Table}
use Rattle.p4_tables.specs.State.{Held, held_at, entries_in}
use Rattle.p4_tables.specs.Programs.{shapes}
use Rattle.indus_tree.specs.Tree.{Decl}
use Rattle.indus_tree.specs.State.{Contents}
use Rattle.indus_tree.specs.Hops.{same_kind}
use Rattle.indus_tree.specs.declared.tree.DeclKind.TheVariants.{Control}
use Rattle.control_maps.specs.Numbers.{Numbered, load_in, IsMapOf}
use Rattle.loaded_tables.specs.Rows.{Row, row_place}
use Rattle.loaded_tables.specs.Loading.{AreTaken, keys_in}

-- a row can be numbered: its table is there, and has an action, and its variable is declared
pub record IsNumberable (ts : List Table) (st : List Held) (ds : List Decl) (r : Row) : Type 0 where
  pub there : row_place ts r < length st
  pub acts : 0 < length (held_at st (row_place ts r)).shape.actions
  pub declared : r.2 < length ds

-- the tables of a map, none of which holds an entry
pub record AreEmpty (st : List Held) (ns : List Numbered) : Type 0 where
  pub parts : Parts
  pub map : IsMapOf parts st ns
  pub empty : AllByRecursion (λ n. (held_at st n.table).listed ≡ []) ns

-- from `old` to `now` the first i tables of a map were given the contents of their variables
pub record AreLoadedTo (ns : List Numbered) (contents : ℕ → Contents) (old now : List Held) (i : ℕ) : Type 0 where
  pub same : load_in (drop i ns) contents now ≡ load_in ns contents old
  pub shapes : shapes now ≡ shapes old
  pub empty : AreEmpty now (drop i ns)
  pub taken : AreTaken (entries_in now) (drop i ns) contents
  pub counted : entries_in now + keys_in (drop i ns) contents ≡ entries_in old + keys_in ns contents

-- for each declaration, how many control variables stand before it, where so many stand before all
abbrev pub seats_before : ℕ → List Decl → List ℕ
seats_before n [] = []
seats_before n (d ∷ ds) = n ∷ seats_before (if same_kind Control d.kind then n + 1 else n) ds

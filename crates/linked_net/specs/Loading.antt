-- The tables of all switches, loaded. Read `Starts` of linked_starts before it, and `Loading` of loaded_tables.
use Rattle.std.specs.Prelude.{◌≡◌, ℕ, ◌+◌, ◌<◌, ◌≤◌, List, [], length, get_or, slice_get, Some}
use Rattle.p4_tree.specs.Tree.{Program}
use Rattle.p4_meaning.specs.Parts.{parts_of}
use Rattle.p4_tables.specs.State.{Held, entries_in}
use Rattle.p4_tables.specs.Named.{tables_in}
use Rattle.p4_tables.specs.Programs.{IsStateOf}
use Rattle.p4_tables.specs.Carried.{StandsIn}
use Rattle.indus_tree.specs.Tree.{Decl}
use Rattle.indus_tree.specs.State.{Contents}
use Rattle.control_maps.specs.Numbers.{Numbered, IsMapOf}
use Rattle.path_runner.specs.Starts.{IsLoaded}
use Rattle.loaded_tables.specs.Rows.{Row, numbered_rows}
use Rattle.loaded_tables.specs.Loading.{AreTaken, keys_in, switch_before}
use Rattle.linked_starts.specs.Starts.{CanBeLoaded}
use Rattle.read_contents.specs.Fits.{contents_at}

-- what is loaded: the given program, the declarations of the property, and the rows of the map
module _ (given : Program) (ds : List Decl) (rows : List Row) where
  -- a linked program's tables take what the given program's hold, and the contents of control variables
  pub record CanLoad (p : Program) (held : List Held) (contents : List Contents) : Type 0 where
    pub state : IsStateOf given held
    pub stands : StandsIn given p
    pub can : CanBeLoaded given p ds rows
    pub taken : AreTaken (entries_in held) (numbered_rows p ds rows) (contents_at ds contents)

  -- they were loaded with it. ns: the map of its tables
  pub record AreLoadedWith (p : Program) (held : List Held) (contents : List Contents) (now : List Held) (ns : List Numbered) : Type 0 where
    pub state : IsStateOf p now
    pub map : ns ≡ numbered_rows p ds rows
    pub mapped : IsMapOf (parts_of p) now ns
    pub loaded : IsLoaded (switch_before p now) ns (tables_in (parts_of given) held) (contents_at ds contents)
    pub entries : entries_in now ≤ entries_in held + keys_in ns (contents_at ds contents)

  -- so it is at each switch. ps: the linked programs; helds, css: what the given program's tables hold, and the contents
  module _ (ps : List Program) (helds : List (List Held)) (css : List (List Contents)) where
    pub record CanLoadAll : Type 0 where
      pub tables : length helds ≡ length ps
      pub contents : length css ≡ length ps
      pub each : (k : ℕ) (p : Program) → slice_get ps k ≡ Some p → CanLoad p (get_or helds k []) (get_or css k [])

    -- at the first n switches. nss: the map of each
    pub record AreLoadedTo (n : ℕ) (sts : List (List Held)) (nss : List (List Numbered)) : Type 0 where
      pub tables : length sts ≡ n
      pub maps : length nss ≡ n
      pub each : (k : ℕ) (p : Program) → k < n → slice_get ps k ≡ Some p → AreLoadedWith p (get_or helds k []) (get_or css k []) (get_or sts k []) (get_or nss k [])

-- There is room for all contents. Read `Contents` before it, `Items` of table_items, `Loading` of loaded_tables and `Starts` of
-- linked_starts.
use Rattle.std.specs.Prelude.{◌≡◌, ℕ, ◌+◌, ◌<◌, ◌≤◌, List, [], ◌++◌, length, get_or, slice_get, All, Some, Ok}
use Rattle.p4_tree.specs.Tree.{Program}
use Rattle.indus_tree.specs.State.{Contents}
use Rattle.network_run.specs.Events.{Event}
use Rattle.table_items.specs.Items.{within_limits}
use Rattle.whole_properties.specs.Whole.{Given}
use Rattle.whole_properties.specs.Asked.{IsGiven}
use Rattle.loaded_tables.specs.Rows.{Row, numbered_rows}
use Rattle.loaded_tables.specs.Loading.{keys_in, AreTaken}
use Rattle.linked_starts.specs.Starts.{AreRowsOf}
use Rattle.read_contents.specs.Fits.{contents_at, FitDecls, IsFitEvent}
use Rattle.event_room.specs.Contents.{contents_after}

-- what is known of a property, of what the tables of each switch hold at first, and of a schedule: these rows are its map's, and no
-- switch has too many table items. `entries` has how many entries stand in other tables, and `contents` those of all control
-- variables in order of declaration
pub record IsWithin (g : Given) (rows : List Row) (entries : List ℕ) (contents : List (List Contents)) (events : List (Event Contents)) : Type 0 where
  pub given : IsGiven g
  pub mapped : AreRowsOf g rows
  pub within : within_limits g.property entries contents events ≡ Ok tt

-- at each switch, and after any first events, the tables of the map have room for what their variables hold then. Of a row its
-- variable counts alone, so it does not matter of which program the tables are
abbrev pub ThereIsRoom : Type 0
ThereIsRoom =
    (g : Given) (rows : List Row) (entries : List ℕ) (contents : List (List Contents)) (events : List (Event Contents))
    → IsWithin g rows entries contents events
    → (s n : ℕ) → slice_get entries s ≡ Some n → s < length contents
    → (done rest : List (Event Contents)) → events ≡ done ++ rest → (program : Program)
    → n + keys_in (numbered_rows program g.property.decls rows) (contents_after s (contents_at g.property.decls (get_or contents s [])) done) ≤ 65536

-- where contents and events fit the property, these are taken
abbrev pub ContentsAreTaken : Type 0
ContentsAreTaken =
    (g : Given) (rows : List Row) (entries : List ℕ) (contents : List (List Contents)) (events : List (Event Contents))
    → IsWithin g rows entries contents events
    → All (FitDecls g.property.decls) contents → (packets switches : ℕ) → All (IsFitEvent packets switches g.property.decls) events
    → (s n : ℕ) → slice_get entries s ≡ Some n → s < length contents
    → (done rest : List (Event Contents)) → events ≡ done ++ rest → (program : Program)
    → AreTaken n (numbered_rows program g.property.decls rows) (contents_after s (contents_at g.property.decls (get_or contents s [])) done)

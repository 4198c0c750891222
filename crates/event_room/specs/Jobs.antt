-- The events of a job can happen one after the other: before each of them the tables of all switches hold the contents of control
-- variables then, and take what it sets. Read `Room` and `Holding` before it, `Run` of linked_jobs, and `Nets` and `Conditions` of
-- path_runner.
use Rattle.std.specs.Prelude.{◌≡◌, ℕ, ◌+◌, ◌<◌, ◌≤◌, List, [], ◌∷◌, ◌++◌, length, get_or, slice_get, Some}
use Rattle.p4_meaning.specs.Parts.{parts_of}
use Rattle.p4_tables.specs.State.{Held, entries_in}
use Rattle.indus_tree.specs.State.{Contents}
use Rattle.network_run.specs.Events.{Event}
use Rattle.control_maps.specs.Numbers.{Numbered, IsMapOf}
use Rattle.path_runner.specs.Nets.{Switch, State, tables_of, tables_after}
use Rattle.path_runner.specs.Starts.{IsLoaded}
use Rattle.path_runner.specs.Conditions.{IsEvent}
use Rattle.loaded_tables.specs.Loading.{keys_in, AreTaken}
use Rattle.linked_jobs.specs.Job.{Job, IsReady}
use Rattle.linked_jobs.specs.Run.{Linked, IsLinked, maps_of, world_of}
use Rattle.event_room.specs.Contents.{contents_after}
use Rattle.event_room.specs.Holding.{Holds}

module _ (j : Job) (l : Linked) where
  -- the map of a switch; how many entries the given program's tables have there; and what control variables hold there after
  -- some events
  abbrev pub map_at : (switch : ℕ) → List Numbered
  map_at s = get_or (maps_of j l) s []

  abbrev pub entries_at : (switch : ℕ) → ℕ
  entries_at s = entries_in (get_or j.tables s [])

  abbrev pub contents_at : List (Event Contents) → (switch variable : ℕ) → Contents
  contents_at done s = contents_after s ((world_of j).contents s) done

  -- a state of the job's network, at any moment
  pub record IsOfJob (s : State) : Type 0 where
    pub switches : length s.switches ≡ length j.network.names
    pub maps : s.maps ≡ maps_of j l
    pub packets : length s.places ≡ length j.packets

  -- the switch of a number was loaded for the job
  pub record IsStarted (k : ℕ) (x : Switch) : Type 0 where
    pub program : x.program ≡ l.programs k
    pub map : IsMapOf (parts_of x.program) x.tables (map_at k)
    pub loaded : IsLoaded x (map_at k) ((world_of j).entries k) ((world_of j).contents k)
    pub few : entries_in x.tables ≤ entries_at k + keys_in (map_at k) ((world_of j).contents k)

  -- what the tables of all switches hold after some events
  pub record AreHeld (done : List (Event Contents)) (tables : List (List Held)) : Type 0 where
    pub switches : length tables ≡ length j.network.names
    pub held : (s : ℕ) (st : List Held) → slice_get tables s ≡ Some st → Holds (parts_of (l.programs s)) (entries_at s) (map_at s) (contents_at done s) st

-- for each job that is ready, with what a linker made for it
pub record EventsHaveRoom (j : Job) (l : Linked) : Type 0 where
  -- the tables of a switch take what their variables hold after any first events; at the start, where they are loaded, after none
  pub taken :
      (done rest : List (Event Contents)) → j.events ≡ done ++ rest → (s : ℕ) → s < length j.network.names
      → AreTaken (entries_at j l s) (map_at j l s) (contents_at j l done s)
  -- the tables hold them where all switches were loaded, and after each event
  pub started :
      (s : State) → IsOfJob j l s → ((k : ℕ) (x : Switch) → slice_get s.switches k ≡ Some x → IsStarted j l k x)
      → AreHeld j l [] (tables_of s)
  pub after :
      (s : State) (done rest : List (Event Contents)) (e : Event Contents) → j.events ≡ done ++ e ∷ rest → IsOfJob j l s
      → AreHeld j l done (tables_of s) → AreHeld j l (done ++ e ∷ []) (tables_after s e)
  -- and the next event can happen
  pub event :
      (s : State) (done rest : List (Event Contents)) (e : Event Contents) → j.events ≡ done ++ e ∷ rest → IsOfJob j l s
      → AreHeld j l done (tables_of s) → IsEvent s e

abbrev pub JobsHaveRoom : Type 0
JobsHaveRoom = (j : Job) (l : Linked) → IsReady j → IsLinked j l → EventsHaveRoom j l

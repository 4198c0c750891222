-- A net before the first event, and the first networks of worlds that it stands for. Read `Nets` before it, and `World` of
-- the network's run.
use Rattle.std.specs.Prelude.{◌≡◌, ℕ, List, [], map, get_or, slice_get, Some}
use Rattle.std.specs.List.{AllByRecursion}
use Rattle.p4_meaning.specs.Parts.{parts_of}
use Rattle.p4_meaning.specs.Pass.{Kept, Queued, start_cells}
use Rattle.p4_meaning.specs.Tables.{Tables}
use Rattle.p4_tables.specs.Named.{tables_in}
use Rattle.indus_tree.specs.State.{Contents}
use Rattle.network_run.specs.Network.{Place, Net}
use Rattle.network_run.specs.NetworkRun.{Limits}
use Rattle.network_run.specs.World.{Arrival, World, first_place, first_net}
use Rattle.network_file.specs.Network.{Network}
use Rattle.switch_machines.specs.Programs.{Programs, machine_with}
use Rattle.control_maps.specs.Maps.{Lookup, held_for, Misses}
use Rattle.control_maps.specs.Numbers.{Numbered, named_in}
use Rattle.path_runner.specs.Nets.{Switch, State, AreSwitches, Shows, controls_of, no_traffic}

-- each packet in flight at its switch and port
abbrev pub in_flight : List Arrival → List (Place Queued)
in_flight arrivals = map (λ a. first_place (Some a)) arrivals

-- before the first event
abbrev pub state_before : Network → Limits → List Switch → List (List Numbered) → List Arrival → State
state_before n l xs maps arrivals =
    record { network = n; limits = l; switches = xs; maps = maps; places = in_flight arrivals; traffic = no_traffic }

-- the network of the definition before the first event, whose switches keep this. Where they keep what a machine starts
-- with, it is the first network of a world
abbrev pub net_before : (kept : ℕ → Kept) (contents : (switch variable : ℕ) → Contents) → List Arrival → Net Kept Queued Contents
net_before kept contents arrivals =
    record {
      switches = kept;
      contents = contents;
      packets = λ i. first_place (slice_get arrivals i);
      log = [];
      wires = [];
      edges = [];
      told = [];
      dropped = [];
      lost = [];
    }

-- the state stands for it, whatever runs on these switches
abbrev pub Starts : List Switch → List Arrival → State → Type 0
Starts xs arrivals s =
    (p : Programs) (keeps : ℕ → Kept) (contents : (switch variable : ℕ) → Contents) →
    AreSwitches p keeps xs → Shows p s (net_before keeps contents arrivals)

-- ---- in a world

-- the switch was loaded: its registers are as at first, each table of its map holds the contents of its variable, and every
-- other name what the entries say
pub record IsLoaded (x : Switch) (ns : List Numbered) (entries : Tables) (contents : ℕ → Contents) : Type 0 where
  pub cells : x.cells ≡ start_cells (parts_of x.program).registers
  pub controls :
      AllByRecursion (λ (l : Lookup). tables_in (parts_of x.program) x.tables l.table ≡ held_for l.action (contents l.variable))
      (map (named_in (parts_of x.program)) ns)
  pub others :
      (name : List ℕ) → Misses name (map (named_in (parts_of x.program)) ns) →
      tables_in (parts_of x.program) x.tables name ≡ entries name

-- the switches run these programs, and were loaded for the world
pub record AreLoaded (p : Programs) (w : World Tables Contents) (xs : List Switch) (maps : List (List Numbered)) : Type 0 where
  pub programs : (i : ℕ) (x : Switch) → slice_get xs i ≡ Some x → p.program i ≡ parts_of x.program
  pub loaded : (i : ℕ) (x : Switch) → slice_get xs i ≡ Some x → IsLoaded x (get_or maps i []) (w.entries i) (w.contents i)

-- the state stands for the first network of each world for which the switches were loaded, and whose packets these are
abbrev pub StartsWorlds : List Switch → List (List Numbered) → List Arrival → State → Type 0
StartsWorlds xs maps arrivals s =
    (p : Programs) (w : World Tables Contents) → AreLoaded p w xs maps → w.packets ≡ arrivals →
    Shows p s (first_net (machine_with (controls_of s) p) w)

-- What `run` is to do. Read `Fits` of read_contents before it, `World` of the network's run, `Network` of network_file, `Linked` of
-- linked_properties and `Items` of table_items.
use Rattle.std.specs.Prelude.{◌≡◌, ℕ, ◌≤◌, List, length, map, All, Ok}
use Rattle.p4_tree.specs.Tree.{Program}
use Rattle.p4_tables.specs.State.{Held, entries_in}
use Rattle.p4_tables.specs.Laws.{RunsListed}
use Rattle.table_file.specs.Laws.{AreOf}
use Rattle.indus_tree.specs.Tree.{Property}
use Rattle.indus_tree.specs.State.{Contents}
use Rattle.network_run.specs.Events.{Event}
use Rattle.network_run.specs.Network.{IsWiring}
use Rattle.network_run.specs.NetworkRun.{longest_frame}
use Rattle.network_run.specs.World.{Arrival}
use Rattle.network_file.specs.Network.{Network}
use Rattle.network_file.specs.Wiring.{wiring_of}
use Rattle.path_runner.specs.Conditions.{IsAtEdge, most_packets}
use Rattle.run_captures.specs.Captures.{Time}
use Rattle.table_items.specs.Items.{within_limits}
use Rattle.linked_properties.specs.Linked.{CanBeLinked, AreTextNames}
use Rattle.read_contents.specs.Fits.{FitDecls, IsFitEvent}

-- a property, the program that was given, and a network; how many switches a packet may pass, and how many bytes of telemetry
-- a frame may carry; what the tables of the given program hold at each switch by their numbers, and the contents of all
-- control variables there, in order of declaration; the packets with their times, and the schedule
pub record Job : Type 0 where
  pub property : Property
  pub program : Program
  pub network : Network
  pub hops : ℕ
  pub room : ℕ
  pub tables : List (List Held)
  pub contents : List (List Contents)
  pub packets : List Arrival
  pub times : List Time
  pub events : List (Event Contents)

-- what is known of a job whose files were read: the property can be linked with the program; each switch has tables of the
-- given program, as entries leave them, and contents that fit the property; the packets come to edge ports; the schedule speaks
-- of them, and sets what fits; and at no event there are too many table items
pub record IsReady (j : Job) : Type 0 where
  pub linkable : CanBeLinked j.property j.program j.room
  pub names : AreTextNames j.property.decls
  pub wiring : IsWiring (wiring_of j.network)
  pub few_switches : length j.network.names ≤ 256
  pub hops : 1 ≤ j.hops
  pub tables : AreOf j.program j.network.names j.tables
  pub listed : All RunsListed j.tables
  pub switches : length j.contents ≡ length j.network.names
  pub contents : All (FitDecls j.property.decls) j.contents
  pub few : length j.packets ≤ most_packets
  pub packets : All (IsAtEdge j.network longest_frame) j.packets
  pub events : All (IsFitEvent (length j.packets) (length j.network.names) j.property.decls) j.events
  pub items : within_limits j.property (map entries_in j.tables) j.contents j.events ≡ Ok tt

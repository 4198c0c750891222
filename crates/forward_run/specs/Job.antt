-- What `forward` is to do. Read `World` of the network's run, and `Network` of network_file, before it.
use Rattle.std.specs.Prelude.{◌≡◌, ℕ, ◌<◌, ◌≤◌, List, length, All}
use Rattle.p4_tree.specs.Tree.{Program}
use Rattle.p4_printer.specs.CanSpell.{CanSpell}
use Rattle.p4_tables.specs.State.{Held}
use Rattle.p4_tables.specs.Programs.{IsStateOf}
use Rattle.indus_tree.specs.State.{Contents}
use Rattle.network_run.specs.Events.{Event, Enter, Leave, Set}
use Rattle.network_run.specs.NetworkRun.{longest_frame}
use Rattle.network_run.specs.World.{Arrival}
use Rattle.network_file.specs.Network.{Network}
use Rattle.path_runner.specs.Conditions.{IsAtEdge, most_packets}
use Rattle.run_captures.specs.Captures.{Time}

-- a program that runs at every switch of a network, how many switches a packet may pass, what the tables of each switch
-- hold by their numbers, the packets with their times, and the schedule
pub record Job : Type 0 where
  pub program : Program
  pub network : Network
  pub hops : ℕ
  pub tables : List (List Held)
  pub packets : List Arrival
  pub times : List Time
  pub events : List (Event Contents)

-- the event's packet is there, or its switch
abbrev pub IsEventAmong : (packets switches : ℕ) → Event Contents → Type 0
IsEventAmong packets switches (Enter i) = i < packets
IsEventAmong packets switches (Leave i) = i < packets
IsEventAmong packets switches (Set switch v c) = switch < switches

-- what is known of a job whose files were read: some tokens spell the program, each switch has its tables, the packets come to
-- edge ports, and the schedule speaks of them
pub record IsReady (j : Job) : Type 0 where
  pub spelled : CanSpell j.program
  pub hops : 1 ≤ j.hops
  pub switches : length j.tables ≡ length j.network.names
  pub tables : All (IsStateOf j.program) j.tables
  pub few : length j.packets ≤ most_packets
  pub packets : All (IsAtEdge j.network longest_frame) j.packets
  pub events : All (IsEventAmong (length j.packets) (length j.network.names)) j.events

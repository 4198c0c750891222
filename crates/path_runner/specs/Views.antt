-- What a net of the program holds.
use Rattle.std.specs.Prelude.{List, [], map, Bool}
use Rattle.p4_tree.specs.Tree.{Program}
use Rattle.p4_meaning.specs.Pass.{Registers}
use Rattle.p4_tables.specs.State.{Held}
use Rattle.p4_machine.specs.declared.pass.Pass.{Ghosts}
use Rattle.network_run.specs.NetworkRun.{Limits}
use Rattle.path_runner.specs.Nets as nets
use Rattle.path_runner.specs.Nets.{Switch, State}
use Rattle.set_contents.specs.Maps.{maps_of}
use Rattle.path_runner.specs.Packets.{sent_of, told_of}
use Rattle.path_runner.specs.Places.{place_in, limits_of}
use Rattle.path_runner.specs.Switches.{switch_of}
use Rattle.path_runner.specs.declared.station.Station.{Station}
use Rattle.path_runner.specs.declared.traffic.Traffic.{Traffic}
use Rattle.path_runner.specs.declared.net.Net.{Net}
use Rattle.path_runner.specs.declared.log.RunLog.{RunLog}

abbrev pub traffic_in : Traffic → nets.Traffic
traffic_in t =
    record {
      wires = map sent_of t.wires.items;
      edges = map sent_of t.edges.items;
      told = map told_of t.told.items;
      dropped = t.dropped;
      lost = t.lost;
    }

abbrev pub station_in : {P Q : Type 0} {g : Ghosts P Q} → Station P Q g → Switch
station_in {P} {Q} {g} x = switch_of g.program g.tables g.cells x.switch

-- what the net holds
abbrev pub state_of : {P Q : Type 0} {g : Ghosts P Q} → Net P Q g → State
state_of {P} {Q} {g} n =
    record {
      network = n.network;
      limits = limits_of n.limits;
      switches = map station_in n.stations.items;
      maps = maps_of n.maps.items;
      places = map place_in n.places.items;
      traffic = traffic_in n.traffic;
    }

-- memory was wanting, so that the net is given up
abbrev pub is_given_up : {P Q : Type 0} {g : Ghosts P Q} → Net P Q g → Bool
is_given_up n = n.given_up

-- what a log holds: no packet is under way
abbrev pub log_of : {P : Type 0} → (P → Program) → (P → List Held) → (P → Registers) → Limits → RunLog P → State
log_of program tables cells l x =
    record {
      network = x.net;
      limits = l;
      switches = map (switch_of program tables cells) x.switches.items;
      maps = [];
      places = [];
      traffic = record {
        wires = map sent_of x.wires.items;
        edges = map sent_of x.edges.items;
        told = map told_of x.told.items;
        dropped = x.dropped;
        lost = x.lost;
      };
    }

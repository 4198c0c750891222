-- The packets of a case's captures, with their times.
use Rattle.std.specs.Prelude.{List, [], ◌∷◌, ◌++◌, map}
use Rattle.network_run.specs.World.{Arrival}
use Rattle.network_file.specs.Network.{Port}
use Rattle.pcap_io.specs.Record.{Record}
use Rattle.run_captures.specs.Captures.{Time}

pub record Packets : Type 0 where
  pub arrivals : List Arrival
  pub times : List Time

-- a captured frame comes to a switch by a port
abbrev pub arrival_at : Port → Record → Arrival
arrival_at p r = record { switch = p.0; port = p.1; frame = r.bytes }

-- the frames of captures, each of which enters at the place of its number: captures one after the other, and the records of
-- each in order
abbrev pub arrivals_of : List Port → List (List Record) → List Arrival
arrivals_of [] rss = []
arrivals_of (p ∷ ps) [] = []
arrivals_of (p ∷ ps) (rs ∷ rss) = map (arrival_at p) rs ++ arrivals_of ps rss

-- when a frame was captured
abbrev pub time_at : Record → Time
time_at r = record { seconds = r.seconds; micros = r.micros }

abbrev pub times_of : List (List Record) → List Time
times_of [] = []
times_of (rs ∷ rss) = map time_at rs ++ times_of rss

abbrev pub packets_of : List Port → List (List Record) → Packets
packets_of ps rss = record { arrivals = arrivals_of ps rss; times = times_of rss }

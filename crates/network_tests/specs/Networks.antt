-- Small networks, programs and properties, on which the definitions are worked out. Sums do not wrap
-- here.
use Rattle.std.specs.Prelude.{ℕ, ◌+◌, List, [], ◌∷◌, ◌++◌, Bool, true, Option, Some, None, if◌then◌else◌}
use Rattle.bit_values.specs.Bits.{Word, word}
use Rattle.network_run.specs.Machine.{Machine}
use Rattle.network_run.specs.Network.{Wiring, Link, Net}
use Rattle.network_run.specs.Events.{Event}
use Rattle.network_run.specs.PathMeaning.{Reads, Doing, Property, Report, Reported, Path, path_meaning}
use Rattle.network_run.specs.World.{Arrival, World, net_at_end}

-- a link from port 2 of one switch to a port of another
abbrev cable : (one other port : ℕ) → Link
cable one other port = record { one = one; one_port = 2; other = other; other_port = port }

-- one switch without links; switches in a line, each linked by its port 2 to port 1 of the next;
-- two switches in a ring
abbrev pub alone : Wiring
alone = record { switches = 1; links = [] }

abbrev pub line2 : Wiring
line2 = record { switches = 2; links = cable 0 1 1 ∷ [] }

abbrev pub line3 : Wiring
line3 = record { switches = 3; links = cable 0 1 1 ∷ cable 1 2 1 ∷ [] }

abbrev pub ring2 : Wiring
ring2 = record { switches = 2; links = cable 0 1 1 ∷ cable 1 0 3 ∷ [] }

-- packets that come to port 1 of switch 0, one for each frame. Each control variable contains 5
abbrev pub arrivals : List (List ℕ) → List Arrival
arrivals [] = []
arrivals (f ∷ fs) = record { switch = 0; port = 1; frame = f } ∷ arrivals fs

abbrev pub world : (hops : ℕ) → (frames : List (List ℕ)) → List (Event ℕ) → World (Unit {0}) ℕ
world hops frames events =
    record {
      hops = hops;
      entries = λ s. tt;
      contents = λ s v. 5;
      packets = arrivals frames;
      events = events;
    }

-- one packet, or two, with this schedule and a hop limit of 64; and one packet with this frame, without a schedule
abbrev pub one_packet : List (Event ℕ) → World (Unit {0}) ℕ
one_packet events = world 64 ([] ∷ []) events

abbrev pub two_packets : List (Event ℕ) → World (Unit {0}) ℕ
two_packets events = world 64 ([] ∷ [] ∷ []) events

abbrev pub framed : List ℕ → World (Unit {0}) ℕ
framed frame = world 64 (frame ∷ []) []

-- a program whose one register counts the packets that come. The ingress drops a packet unless
-- `ingress` holds, and the egress drops it unless `egress` does; else it goes by port 2 as it came
abbrev pub unless_dropped : {A : Type 0} → Bool → A → Option A
unless_dropped goes x = if goes then Some x else None

abbrev pub program : (ingress egress : Bool) → Machine (Unit {0}) ℕ (List ℕ) ℕ
program ingress egress =
    record {
      start = λ s e contents. 0;
      enter = λ s count port frame.
          record {
            after = count + 1;
            digests = [];
            view = word 9 port ∷ [];
            queued = unless_dropped ingress frame;
          };
      leave = λ s count frame.
          record {
            after = count;
            digests = [];
            going = unless_dropped egress (record { port = 2; frame = frame; view = [] });
          };
      set = λ s count v c. count;
    }

-- all packets go by port 2
abbrev pub to_port_2 : Machine (Unit {0}) ℕ (List ℕ) ℕ
to_port_2 = program true true

-- report 0, of these values
abbrev pub report_of : List Word → Report
report_of values = record { number = 0; values = values }

-- a block that does nothing
abbrev pub nothing : {T Z : Type 0} → Reads ℕ → Doing T Z → Doing T Z
nothing r d = d

-- tele bit<8> mine; sensor bit<8> seen; {} {seen = seen + 1; mine = seen;} {report(mine);}
abbrev pub counting : Property ℕ ℕ ℕ
counting =
    record {
      tele = 0;
      sensors = 0;
      init = nothing;
      telemetry = λ r d. record d { tele = d.sensors + 1; sensors = d.sensors + 1 };
      checker = λ r d. record d { reports = d.reports ++ report_of (word 8 d.tele ∷ []) ∷ [] };
    }

-- control bit<8> c; tele bit<8> before; {before = c;} {} {report(before, c);}
abbrev pub watching : Property ℕ (Unit {0}) ℕ
watching =
    record {
      tele = 0;
      sensors = tt;
      init = λ r d. record d { tele = r.contents 0 };
      telemetry = nothing;
      checker = λ r d. record d { reports = d.reports ++ report_of (word 8 d.tele ∷ word 8 (r.contents 0) ∷ []) ∷ [] };
    }

-- tele list of the hops' flags; {} {flags.push((first_hop, last_hop));} {}
abbrev pub flagging : Property (List (Bool × Bool)) (Unit {0}) ℕ
flagging =
    record {
      tele = [];
      sensors = tt;
      init = nothing;
      telemetry = λ r d. record d { tele = d.tele ++ (r.first, r.last) ∷ [] };
      checker = nothing;
    }

-- tele bit<8> n; sensor bit<8> s; {n = n + 100; s = s + 1;} {n = n + 1; s = s + 10;} {report(n);
-- reject;}
abbrev pub rejecting : Property ℕ ℕ ℕ
rejecting =
    record {
      tele = 0;
      sensors = 0;
      init = λ r d. record d { tele = d.tele + 100; sensors = d.sensors + 1 };
      telemetry = λ r d. record d { tele = d.tele + 1; sensors = d.sensors + 10 };
      checker = λ r d.
          record d { rejected = true; reports = d.reports ++ report_of (word 8 d.tele ∷ []) ∷ [] };
    }

-- the network at the end of a world, without telemetry on its links
abbrev pub ended : (ingress egress : Bool) → Wiring → World (Unit {0}) ℕ → Net ℕ (List ℕ) ℕ
ended ingress egress net w = net_at_end (program ingress egress) net 0 w

-- what a property says of the program that sends all packets on
abbrev pub said : {T Z : Type 0} → Property T Z ℕ → Wiring → World (Unit {0}) ℕ → Path T Z
said p net w = path_meaning p (ended true true net w).log

-- report 0, of this packet and switch
abbrev pub report_at : (packet switch : ℕ) → List Word → Reported
report_at packet switch values =
    record { packet = packet; switch = switch; report = report_of values }

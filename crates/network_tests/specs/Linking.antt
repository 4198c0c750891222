-- A small forwarding program, a property and programs linked by hand, on which the definitions are
-- worked out. Sums do not wrap here.
use Rattle.std.specs.Prelude.{◌≡◌, ℕ, zero, suc, ◌+◌, ◌%◌, ◌^◌, List, [], ◌∷◌, ◌++◌, Bool, true, false, if◌then◌else◌, ◌==◌, bit_xor, Some, None}
use Rattle.bit_values.specs.Bits.{word}
use Rattle.network_run.specs.Machine.{Digest, Entered, Leaving, Machine}
use Rattle.network_run.specs.Network.{Wiring, at_edge, Net, one_if}
use Rattle.network_run.specs.Events.{Event}
use Rattle.network_run.specs.PathMeaning.{Property, Path, path_meaning}
use Rattle.network_run.specs.World.{World, net_at_end}
use Rattle.network_tests.specs.Networks.{arrivals, report_of}
use Rattle.linkage.specs.Linkage.{Telemetry, RegisterReading, report_digest}

-- the forwarding program counts the packets that come, tells the control plane the port of each,
-- and sends it by port 2, but its egress drops a frame that begins with 0
abbrev pub is_dropped : List ℕ → Bool
is_dropped [] = false
is_dropped (byte ∷ rest) = byte == 0

abbrev pub port_digest : ℕ → Digest
port_digest port = record { receiver = 7; values = word 9 port ∷ [] }

abbrev pub plain_leave : (dropped : Bool) → ℕ → List ℕ → Leaving ℕ
plain_leave true count frame = record { after = count; digests = []; going = None }
plain_leave false count frame =
    record {
      after = count;
      digests = [];
      going = Some (record { port = 2; frame = frame; view = [] });
    }

abbrev pub forwarding : Machine (Unit {0}) ℕ (List ℕ) ℕ
forwarding =
    record {
      start = λ s e contents. 0;
      enter = λ s count port frame.
          record {
            after = count + 1;
            digests = port_digest port ∷ [];
            view = [];
            queued = Some frame;
          };
      leave = λ s count frame. plain_leave (is_dropped frame) count frame;
      set = λ s count v c. count;
    }

-- what the linker by hand is given: the network, and the initial value of the property's sensor
pub record Given : Type 0 where
  pub network : Wiring
  pub initial : ℕ

-- control bit<8> limit; tele bit<8> n; sensor bit<8> seen = initial;
-- {n = n + 10;} {n = n + 1; seen = seen + 1;} {report(n, seen); if (n == limit) {reject;}}
abbrev pub limited : (initial : ℕ) → Property ℕ ℕ ℕ
limited initial =
    record {
      tele = 0;
      sensors = initial;
      init = λ r d. record d { tele = d.tele + 10 };
      telemetry = λ r d. record d { tele = d.tele + 1; sensors = d.sensors + 1 };
      checker = λ r d.
          record d {
            rejected = d.tele == r.contents 0;
            reports = d.reports ++ report_of (word 8 d.tele ∷ word 8 d.sensors ∷ []) ∷ [];
          };
    }

-- telemetry is the byte 48 in hexadecimal, and n
abbrev pub two_bytes : Telemetry ℕ
two_bytes = record { bytes = λ n. 72 ∷ n ∷ []; size = 2 }

-- what a linked switch keeps: the forwarding register, the sensor, the rejected packets and the
-- limit
pub record Keeps : Type 0 where
  pub count : ℕ
  pub seen : ℕ
  pub rejected : ℕ
  pub limit : ℕ

-- a packet that is queued in a linked switch
pub record Parked : Type 0 where
  pub frame : List ℕ
  pub n : ℕ

-- a frame that came by a link, without its telemetry
abbrev pub unwrapped : List ℕ → Parked
unwrapped [] = record { frame = []; n = 0 }
unwrapped (byte ∷ []) = record { frame = []; n = 0 }
unwrapped (byte ∷ n ∷ frame) = record { frame = frame; n = n }

abbrev pub parked : (edge : Bool) → List ℕ → Parked
parked true frame = record { frame = frame; n = 10 }
parked false frame = unwrapped frame

abbrev pub linked_enter : (edge : Bool) → Keeps → ℕ → List ℕ → Entered Keeps Parked
linked_enter edge b port frame =
    record {
      after = record b { count = b.count + 1 };
      digests = port_digest port ∷ [];
      view = [];
      queued = Some (parked edge frame);
    }

-- at an edge port, where the checker rejects the packet, and where it does not
abbrev pub checked_leave : (rejects : Bool) → Keeps → Parked → Leaving Keeps
checked_leave rejects b q =
    record {
      after = record b { seen = b.seen + 1; rejected = b.rejected + one_if rejects };
      digests = report_digest (report_of (word 8 (q.n + 1) ∷ word 8 (b.seen + 1) ∷ [])) ∷ [];
      going = if rejects then None else Some (record { port = 2; frame = q.frame; view = [] });
    }

abbrev pub linked_leave : (dropped edge : Bool) → Keeps → Parked → Leaving Keeps
linked_leave true edge b q = record { after = b; digests = []; going = None }
linked_leave false true b q = checked_leave (q.n + 1 == b.limit) b q
linked_leave false false b q =
    record {
      after = record b { seen = b.seen + 1 };
      digests = [];
      going = Some (record { port = 2; frame = 72 ∷ (q.n + 1) ∷ q.frame; view = [] });
    }

-- the programs linked from both, on a network
abbrev pub linked : Wiring → (initial : ℕ) → Machine (Unit {0}) Keeps Parked ℕ
linked net initial =
    record {
      start = λ s e contents. record { count = 0; seen = initial; rejected = 0; limit = contents 0 };
      enter = λ s b port frame. linked_enter (at_edge net s port) b port frame;
      leave = λ s b q. linked_leave (is_dropped q.frame) (at_edge net s 2) b q;
      set = λ s b v c. record b { limit = if 0 == v then c else b.limit };
    }

-- registers 0, 1 and 2: the forwarding program's, the sensor's and that of rejected packets
abbrev pub register_of : (initial : ℕ) → Keeps → ℕ → List ℕ
register_of initial b zero = b.count ∷ []
register_of initial b (suc zero) = bit_xor b.seen initial ∷ []
register_of initial b (suc (suc r)) = b.rejected % 2 ^ 32 ∷ []

abbrev pub registers : (initial : ℕ) → RegisterReading ℕ Keeps ℕ ℕ
registers initial =
    record {
      plain_cells = λ count r. count ∷ [];
      linked_cells = register_of initial;
      forwarding = 0 ∷ [];
      sensors = record { name = 1; cells = λ seen. seen ∷ []; initial = initial } ∷ [];
      rejects = 2;
    }

-- all entries are fit; the property's one control variable has number 0, and all contents are fit for
-- it
abbrev pub AnyEntries : (switch : ℕ) → Unit {0} → Type 0
AnyEntries s e = Unit {0}

abbrev pub IsLimit : ℕ → Type 0
IsLimit v = v ≡ 0

abbrev pub AnyContents : (switch variable : ℕ) → ℕ → Type 0
AnyContents s v c = Unit {0}

-- packets that come to port 1 of switch 0, one for each frame, with this limit at each switch
abbrev pub with_limit : ℕ → (frames : List (List ℕ)) → List (Event ℕ) → World (Unit {0}) ℕ
with_limit limit frames events =
    record {
      hops = 64;
      entries = λ s. tt;
      contents = λ s v. limit;
      packets = arrivals frames;
      events = events;
    }

-- one packet with this frame, without a schedule
abbrev pub framed : (limit : ℕ) → List ℕ → World (Unit {0}) ℕ
framed limit frame = with_limit limit (frame ∷ []) []

-- the forwarding network at the end, the linked one, and what the property says, whose sensor is 3
-- at the start
abbrev pub plain_end : Wiring → World (Unit {0}) ℕ → Net ℕ (List ℕ) ℕ
plain_end net w = net_at_end forwarding net 0 w

abbrev pub linked_end : Wiring → World (Unit {0}) ℕ → Net Keeps Parked ℕ
linked_end net w = net_at_end (linked net 3) net 2 w

abbrev pub path_end : Wiring → World (Unit {0}) ℕ → Path ℕ ℕ
path_end net w = path_meaning (limited 3) (plain_end net w).log

-- what a linked switch keeps, and a queued packet there, stand for what their names say
pub record KeptBy (s count seen : ℕ) (contents : ℕ → ℕ) (rejected : ℕ) (b : Keeps) : Type 0 where
  pub same_count : b.count ≡ count
  pub same_seen : b.seen ≡ seen
  pub same_rejected : b.rejected ≡ rejected
  pub same_limit : b.limit ≡ contents 0

pub record HeldBy (s : ℕ) (first : Bool) (frame : List ℕ) (n : ℕ) (q : Parked) : Type 0 where
  pub same_frame : q.frame ≡ frame
  pub same_n : q.n ≡ n

abbrev pub AnyTele : ℕ → Type 0
AnyTele n = Unit {0}

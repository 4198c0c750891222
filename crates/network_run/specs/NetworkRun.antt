-- What a network does with its packets, event by event. The same words serve the forwarding program
-- and the linked programs. Read `Events` before it and `PathMeaning` after it.
use Rattle.std.specs.Prelude.{ℕ, ◌+◌, List, [], ◌∷◌, ◌++◌, length, map, Bool, true, false, ◌||◌, if◌then◌else◌, ◌==◌, nat_lt, nat_le, Option, Some, None}
use Rattle.bit_values.specs.Bits.{Word}
use Rattle.network_run.specs.Machine.{Digest, Entered, Going, Leaving, Machine}
use Rattle.network_run.specs.Events.{Event, Enter, Leave, Set, WholeEvent, halves_of}
use Rattle.network_run.specs.Network.{Wiring, far_end, at_edge, Place, Flying, Waiting, Over, Sent, Told, Half, Net}

-- how many switches a packet may pass, and the greatest length of a frame on a link, in bytes
pub record Limits : Type 0 where
  pub hops : ℕ
  pub link : ℕ

-- the greatest length of a frame that leaves by an edge port, in bytes
abbrev pub longest_frame : ℕ
longest_frame = 65535

-- f, but v at i
abbrev pub put : {A : Type 0} → (ℕ → A) → ℕ → A → ℕ → A
put f i v = λ j. if j == i then v else f j

-- the digests of packet i's half at switch s, in order
abbrev pub told_by : (i s : ℕ) → List Digest → List Told
told_by i s digests = map (λ d. record { packet = i; switch = s; digest = d }) digests

-- a packet that is queued waits, and a dropped one is over
abbrev pub queued_or_over : {Q : Type 0} → (s port n : ℕ) → Option Q → Place Q
queued_or_over s port n None = Over
queued_or_over s port n (Some q) = Waiting s port q n

-- packet i, where it is dropped
abbrev pub dropped_if_none : {A : Type 0} → ℕ → Option A → List ℕ
dropped_if_none i None = i ∷ []
dropped_if_none i (Some a) = []

-- the log's entry for the entry half of packet i, which came to switch s by this port
abbrev pub entry_half : {C : Type 0} → Wiring → (i s port : ℕ) → List Word → (ℕ → C) → Half C
entry_half net i s port view contents =
    record {
      is_exit = false;
      packet = i;
      switch = s;
      first = at_edge net s port;
      last = false;
      view = view;
      contents = contents;
    }

-- the log's entry for its exit half, which sends it by the port `to`
abbrev pub exit_half : {C : Type 0} → Wiring → (i s port to : ℕ) → List Word → (ℕ → C) → Half C
exit_half net i s port to view contents =
    record {
      is_exit = true;
      packet = i;
      switch = s;
      first = at_edge net s port;
      last = at_edge net s to;
      view = view;
      contents = contents;
    }

-- the frame that switch s sends of packet i
abbrev pub frame_of : (i s : ℕ) → Going → Sent
frame_of i s g = record { packet = i; switch = s; port = g.port; frame = g.frame }

-- packet i is dropped
abbrev pub dropped : {S Q C : Type 0} → Net S Q C → ℕ → Net S Q C
dropped w i = record w { packets = put w.packets i Over; dropped = w.dropped ++ i ∷ [] }

-- packet i is lost, or else the network is as the last argument says
abbrev pub lost_if : {S Q C : Type 0} → Bool → Net S Q C → ℕ → Net S Q C → Net S Q C
lost_if true w i goes = record w { packets = put w.packets i Over; lost = w.lost ++ i ∷ [] }
lost_if false w i goes = goes

module _ {S Q C : Type 0} (net : Wiring) (limits : Limits) where
  -- after the entry half of packet i, which came to switch s by this port and had passed n switches
  abbrev pub entered : Net S Q C → (i s port n : ℕ) → Entered S Q → Net S Q C
  entered w i s port n e =
      record w {
        switches = put w.switches s e.after;
        packets = put w.packets i (queued_or_over s port n e.queued);
        log = w.log ++ entry_half net i s port e.view (w.contents s) ∷ [];
        told = w.told ++ told_by i s e.digests;
        dropped = w.dropped ++ dropped_if_none i e.queued;
      }

  -- the frame leaves by an edge port, unless it is too long; or it is put on the link to the far
  -- end, unless it is too long or the packet has passed as many switches as it may
  abbrev pub sent : Net S Q C → (i s n : ℕ) → Going → Option (ℕ × ℕ) → (half : ℕ) → Net S Q C
  sent w i s n g None half =
      lost_if (nat_lt longest_frame (length g.frame)) w i
      (record w {
        packets = put w.packets i Over;
        edges = w.edges ++ frame_of i s g ∷ [];
      })
  sent w i s n g (Some far) half =
      lost_if (nat_le limits.hops (n + 1) || nat_lt limits.link (length g.frame)) w i
      (record w {
        packets = put w.packets i (Flying far.0 far.1 g.frame (n + 1));
        wires = w.wires ++ record { half = half; sent = frame_of i s g } ∷ [];
      })

  -- the packet is dropped, or its exit half is logged and the frame is sent
  abbrev pub went : Net S Q C → (i s port n : ℕ) → Option Going → Net S Q C
  went w i s port n None = dropped w i
  went w i s port n (Some g) =
      sent (record w { log = w.log ++ exit_half net i s port g.port g.view (w.contents s) ∷ [] })
      i s n g (far_end net s g.port) (length w.log)

  -- after the exit half of packet i at switch s
  abbrev pub left : Net S Q C → (i s port n : ℕ) → Leaving S → Net S Q C
  left w i s port n l =
      went
      (record w { switches = put w.switches s l.after; told = w.told ++ told_by i s l.digests })
      i s port n l.going

module _ {E S Q C : Type 0} (m : Machine E S Q C) (net : Wiring) (limits : Limits) where
  -- a packet in flight enters its switch; for a packet in another place nothing changes
  abbrev pub enters : Net S Q C → ℕ → Place Q → Net S Q C
  enters w i (Flying s port frame n) =
      entered net limits w i s port n (m.enter s (w.switches s) port frame)
  enters w i (Waiting s port q n) = w
  enters w i Over = w

  -- a queued packet leaves its switch; for a packet in another place nothing changes
  abbrev pub leaves : Net S Q C → ℕ → Place Q → Net S Q C
  leaves w i (Flying s port frame n) = w
  leaves w i (Waiting s port q n) = left net limits w i s port n (m.leave s (w.switches s) q)
  leaves w i Over = w

  -- the network after one event. New contents and the tables that hold them are set in one step
  abbrev pub happens : Net S Q C → Event C → Net S Q C
  happens w (Enter i) = enters w i (w.packets i)
  happens w (Leave i) = leaves w i (w.packets i)
  happens w (Set s v c) =
      record w {
        contents = put w.contents s (put (w.contents s) v c);
        switches = put w.switches s (m.set s (w.switches s) v c);
      }

  -- the network after a list of events
  abbrev pub run_of_halves : Net S Q C → List (Event C) → Net S Q C
  run_of_halves w [] = w
  run_of_halves w (e ∷ es) = run_of_halves (happens w e) es

-- the network after a list of whole hops and updates
abbrev pub run_of_hops :
    {E S Q C : Type 0} → Machine E S Q C → Wiring → Limits → Net S Q C → List (WholeEvent C) →
    Net S Q C
run_of_hops m net limits w es = run_of_halves m net limits w (halves_of es)

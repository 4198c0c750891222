-- What becomes of a packet that leaves a switch. Read `Nets` and `Switches` before it.
use Rattle.std.specs.Prelude.{ℕ, ◌+◌, List, [], ◌∷◌, ◌++◌, length, map, ◌||◌, nat_lt, nat_le, if◌then◌else◌, Option, Some, None}
use Rattle.p4_meaning.specs.Pass.{Queued}
use Rattle.p4_machine.specs.Passages.{Passage}
use Rattle.switch_machines.specs.Programs.{network_digest}
use Rattle.network_run.specs.Network.{Wiring, far_end, Place, Flying, Over, Sent}
use Rattle.network_run.specs.NetworkRun.{Limits, longest_frame, told_by}
use Rattle.path_runner.specs.Nets.{Traffic}

-- where a packet is, and what has happened then
pub record Departure : Type 0 where
  pub place : Place Queued
  pub traffic : Traffic

-- the packet is lost
abbrev pub lost_in : Traffic → Departure
lost_in t = record { place = Over; traffic = record t { lost = t.lost + 1 } }

-- a switch sends the frame of a packet, which has passed n switches, and now this one, to the far end of a port
abbrev pub sent_departure : Limits → Traffic → (n : ℕ) → Sent → Option (ℕ × ℕ) → Departure
sent_departure l t n x None =
    if nat_lt longest_frame (length x.frame)
    then lost_in t
    else record { place = Over; traffic = record t { edges = t.edges ++ x ∷ [] } }
sent_departure l t n x (Some far) =
    if nat_le l.hops (n + 1) || nat_lt l.link (length x.frame)
    then lost_in t
    else record { place = Flying far.0 far.1 x.frame (n + 1); traffic = record t { wires = t.wires ++ x ∷ [] } }

-- a packet that has passed n switches leaves switch s by a port, with a frame, or is dropped there
abbrev pub out_departure : Wiring → Limits → Traffic → (i s n : ℕ) → Option (ℕ × List ℕ) → Departure
out_departure net l t i s n None = record { place = Over; traffic = record t { dropped = t.dropped + 1 } }
out_departure net l t i s n (Some g) =
    sent_departure l t n (record { packet = i; switch = s; port = g.0; frame = g.1 }) (far_end net s g.0)

-- behind its exit half, whose digests are told
abbrev pub left_departure : Wiring → Limits → Traffic → (i s n : ℕ) → Passage → Departure
left_departure net l t i s n x =
    out_departure net l (record t { told = t.told ++ told_by i s (map network_digest x.digests) }) i s n x.out

-- What it means that linked programs are a linkage of a forwarding program and a property on a
-- network. Read `network_run`'s `World` before it, and the two meanings, `Law` of `indus_tree` and
-- `Pass` of `p4_tree`, after it.
use Rattle.std.specs.Prelude.{◌≡◌, ℕ, ◌+◌, ◌%◌, ◌^◌, ◌<◌, List, [], ◌∷◌, ◌++◌, map, filter, Bool, false, not, ◌==◌, slice_index_or, All, bit_xor}
use Rattle.bit_values.specs.Bits.{word}
use Rattle.network_run.specs.Machine.{Digest, Machine}
use Rattle.network_run.specs.Network.{Wiring, Sent, Wired, Told, Net, times, one_if}
use Rattle.network_run.specs.PathMeaning.{Reads, Report, Doing, Property, Reported, Path, path_meaning, rejects}
use Rattle.network_run.specs.World.{World, IsValid, net_after}

-- the telemetry bytes of tele values, and how many they are
pub record Telemetry (T : Type 0) : Type 0 where
  pub bytes : T → List ℕ
  pub size : ℕ

-- a sensor's register: its name, the cells that the sensor has, and the initial value of each
pub record SensorRegister (Z N : Type 0) : Type 0 where
  pub name : N
  pub cells : Z → List ℕ
  pub initial : ℕ

-- how the registers of a switch are read by their names, in the forwarding network and in the
-- linked one; the names of the forwarding program's registers; the sensors' registers; and the
-- register that counts rejected packets
pub record RegisterReading (S S' Z N : Type 0) : Type 0 where
  pub plain_cells : S → N → List ℕ
  pub linked_cells : S' → N → List ℕ
  pub forwarding : List N
  pub sensors : List (SensorRegister Z N)
  pub rejects : N

-- reports are digests of this receiver, the letters HYDR
abbrev pub report_receiver : ℕ
report_receiver = 1213809746

-- the digest is a report
abbrev pub is_report : Digest → Bool
is_report d = d.receiver == report_receiver

-- the digest of a report: its number, as a word of 16 bits, and then its values
abbrev pub report_digest : Report → Digest
report_digest r = record { receiver = report_receiver; values = word 16 r.number ∷ r.values }

-- the same, with the report's packet and switch
abbrev pub told_report : Reported → Told
told_report r = record { packet = r.packet; switch = r.switch; digest = report_digest r.report }

-- the frame that is on a link of the linked network, in place of this one: before it stand the
-- telemetry bytes of the tele values that its packet has after the half that sent it
abbrev pub monitored : {T Z C : Type 0} → Property T Z C → Telemetry T → Path T Z → Wired → Sent
monitored p telemetry path x =
    record x.sent {
      frame = telemetry.bytes (slice_index_or path.trail x.half p.tele) ++ x.sent.frame;
    }

-- the linked switch's registers for the forwarding program hold the cells of the forwarding switch
abbrev pub SameRegisters : {S S' Z N : Type 0} → RegisterReading S S' Z N → S → S' → Type 0
SameRegisters r plain linked =
    All (λ x. r.linked_cells linked x ≡ r.plain_cells plain x) r.forwarding

-- a cell xor an initial value
abbrev pub xor_with : ℕ → ℕ → ℕ
xor_with initial cell = bit_xor cell initial

-- a linked switch's registers for the monitor: each cell of a sensor's register is the sensor's
-- cell xor its initial value, and the register of rejected packets has their number, modulo 2^32
pub record MonitorRegisters
    {S S' Z N : Type 0} (r : RegisterReading S S' Z N) (z : Z) (rejected : ℕ) (linked : S')
    : Type 0 where
  pub sensors :
      All (λ x. r.linked_cells linked x.name ≡ map (xor_with x.initial) (x.cells z)) r.sensors
  pub rejects : r.linked_cells linked r.rejects ≡ rejected % 2 ^ 32 ∷ []

-- dropped in the linked network are the packets that the forwarding program drops, and the rejected
-- ones; lost are those that the forwarding network loses, without the rejected ones
pub record Counts
    {S Q S' Q' C T Z : Type 0} (path : Path T Z) (plain : Net S Q C) (linked : Net S' Q' C)
    : Type 0 where
  pub dropped : (i : ℕ) → times i linked.dropped ≡ times i plain.dropped + one_if (rejects path i)
  pub lost : linked.lost ≡ filter (λ i. not (rejects path i)) plain.lost

module _
    {E S Q S' Q' C T Z N : Type 0}
    (forwarding : Machine E S Q C) (linked : Machine E S' Q' C)
    (net : Wiring) (p : Property T Z C) (telemetry : Telemetry T) (registers : RegisterReading S S' Z N)
    (IsFitEntries : (switch : ℕ) → E → Type 0) (IsVariable : ℕ → Type 0)
    (IsFitContents : (switch variable : ℕ) → C → Type 0)
  where
    -- the forwarding network after n steps, on whose links a frame has at most 65,535 bytes
    abbrev pub plain_after : World E C → ℕ → Net S Q C
    plain_after w n = net_after forwarding net 0 w n

    -- the linked network after n steps, on whose links a frame may be longer by the telemetry
    abbrev pub linked_after : World E C → ℕ → Net S' Q' C
    linked_after w n = net_after linked net telemetry.size w n

    -- what the property says after n steps: it is folded over the log of the forwarding network
    -- alone
    abbrev pub path_after : World E C → ℕ → Path T Z
    path_after w n = path_meaning p (plain_after w n).log

    -- in every valid world, after every number of steps
    abbrev pub Always : (World E C → ℕ → Type 0) → Type 0
    Always P = (w : World E C) → IsValid net IsFitEntries IsVariable IsFitContents w → (n : ℕ) → P w n

    -- the linked programs are a linkage of the forwarding program and the property on the network
    pub record Linkage : Type 0 where
      -- each switch's forwarding registers hold the same cells
      pub forwarding_registers : Always (λ w n. (s : ℕ) → s < net.switches →
          SameRegisters registers ((plain_after w n).switches s) ((linked_after w n).switches s))
      -- the monitor's registers hold the sensors and the number of rejected packets
      pub monitor_registers : Always (λ w n. (s : ℕ) → s < net.switches →
          MonitorRegisters registers ((path_after w n).sensors s) ((path_after w n).rejected_at s)
          ((linked_after w n).switches s))
      -- the frames on links are the same, in order, each behind its telemetry bytes
      pub link_frames : Always (λ w n.
          map (λ x. x.sent) (linked_after w n).wires
          ≡ map (monitored p telemetry (path_after w n)) (plain_after w n).wires)
      -- the frames that leave by edge ports are the same, in order, without those of rejected
      -- packets
      pub edge_frames : Always (λ w n.
          (linked_after w n).edges
          ≡ filter (λ x. not (rejects (path_after w n) x.packet)) (plain_after w n).edges)
      -- the reports are the property's, in order, each with its packet and switch
      pub reports : Always (λ w n.
          filter (λ t. is_report t.digest) (linked_after w n).told
          ≡ map told_report (path_after w n).reports)
      -- the other digests are the forwarding program's, in order
      pub digests : Always (λ w n.
          filter (λ t. not (is_report t.digest)) (linked_after w n).told ≡ (plain_after w n).told)
      -- the dropped packets, and the lost ones
      pub counts : Always (λ w n. Counts (path_after w n) (plain_after w n) (linked_after w n))

    -- the frames that leave by edge ports are those of the forwarding network, and no others
    abbrev pub SameEdges : Type 0
    SameEdges = Always (λ w n. (linked_after w n).edges ≡ (plain_after w n).edges)

-- the checker rejects nothing, whatever it reads and works on
abbrev pub NeverRejects : {T Z C : Type 0} → Property T Z C → Type 0
NeverRejects {T} {Z} {C} p =
    (r : Reads C) (d : Doing T Z) → d.rejected ≡ false → (p.checker r d).rejected ≡ false

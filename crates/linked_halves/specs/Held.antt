-- What the linked network keeps and queues, for what the forwarding network does.
use Rattle.std.specs.Prelude.{◌≡◌, ℕ, ◌%◌, ◌^◌, List, [], ◌∷◌, Bool, false, Some, None, ◌||◌, not, nat_eq}
use Rattle.bit_values.specs.Bits.{word}
use Rattle.p4_meaning.specs.Standard.{metadata_root, ingress_port, egress_spec, egress_port}
use Rattle.p4_meaning.specs.Tables.{Table, table_named, Tables}
use Rattle.p4_meaning.specs.Parts.{Parts}
use Rattle.p4_meaning.specs.Pass.{Kept, Queued}
use Rattle.own_code.specs.Regions.{is_mine}
use Rattle.own_code.specs.Relations.{bare, Alike, IsPort}
use Rattle.own_code.specs.OwnCode.{AreOwnEntries}
use Rattle.packet_lengths.specs.Lengths.{plain_store}
use Rattle.monitor_laws.specs.Names.{rejects_register}
use Rattle.monitor_laws.specs.Monitor.{Monitor}
use Rattle.monitor_laws.specs.MonitorLaws.{HasTele}
use Rattle.linked_halves.specs.Widths.{HasWidths}

-- a port is one of some ports
abbrev pub is_in : ℕ → List ℕ → Bool
is_in port [] = false
is_in port (n ∷ ns) = nat_eq port n || is_in port ns

-- a switch's own tables hold entries and defaults that run own actions
abbrev pub OwnEntries : Parts → Tables → Type 0
OwnEntries f held = (x : List ℕ) (t : Table) → table_named f.tables x ≡ Some t → AreOwnEntries (held x)

module _ {T Z C : Type 0} (m : Monitor T Z C) (Fit : T → Type 0) (Keeps : Z → (ℕ → C) → Kept → Type 0) (f : Parts) where
  -- what a switch keeps: the program's own registers, the number of rejected packets, what own tables hold, and what
  -- stands for sensors and contents
  pub record KeptBy (s : ℕ) (a : Kept) (z : Z) (c : ℕ → C) (k : ℕ) (b : Kept) : Type 0 where
    pub own : (x : List ℕ) → is_mine x ≡ false → b.registers x ≡ a.registers x
    pub rejects : b.registers rejects_register ≡ word 32 (k % 2 ^ 32) ∷ []
    pub tables : (x : List ℕ) → is_mine x ≡ false → b.tables x ≡ a.tables x
    pub entries : OwnEntries f a.tables
    pub monitor : Keeps z c b

  -- a queued packet, with the plain length in its place: the own headers and metadata, in their widths, and the remaining
  -- bytes, the telemetry, and the port by which the frame came
  pub record HoldsCore (links : ℕ → List ℕ) (s : ℕ) (first : Bool) (q : Queued) (t : T) (q' : Queued) : Type 0 where
    pub alike : Alike (bare q.store) (bare q'.store)
    pub tele : HasTele m Fit Keeps q'.store t
    pub rest : q'.rest ≡ q.rest
    pub going : IsPort (q'.store.values egress_port)
    pub spec : IsPort (q'.store.values egress_spec)
    pub came : IsPort (q'.store.values ingress_port)
    pub widths : HasWidths f q.store
    pub arrived : first ≡ not (is_in (q'.store.values ingress_port).value (links s))

  -- a queued packet of the linked network, in which the length without telemetry is kept elsewhere
  pub record HeldBy (links : ℕ → List ℕ) (s : ℕ) (first : Bool) (q : Queued) (t : T) (q' : Queued) : Type 0 where
    pub plain : HoldsCore links s first q t (record q' { store = plain_store q'.store })
    pub meta : q'.store.headers (metadata_root ∷ []) ≡ None

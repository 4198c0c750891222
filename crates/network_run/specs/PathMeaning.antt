-- What a property says of packets' paths: its parts, folded over the log of the forwarding
-- program's own run. Read `NetworkRun` before it and `World` after it.
use Rattle.std.specs.Prelude.{ℕ, ◌+◌, List, [], ◌∷◌, ◌++◌, map, Bool, false, ◌&&◌, if◌then◌else◌, Option, Some, None}
use Rattle.bit_values.specs.Bits.{Word}
use Rattle.network_run.specs.Network.{Half, one_if}
use Rattle.network_run.specs.NetworkRun.{put}

-- what a block may read besides the packet's and the switch's variables
pub record Reads (C : Type 0) : Type 0 where
  pub switch : ℕ
  pub first : Bool
  pub last : Bool
  pub view : List Word
  pub contents : ℕ → C

-- a report: its number, which says which report of the text it is, and its values, each a word of
-- its own width
pub record Report : Type 0 where
  pub number : ℕ
  pub values : List Word

-- what a block works on: the packet's tele values, the switch's sensors, whether the packet is
-- rejected, and the reports so far
pub record Doing (T Z : Type 0) : Type 0 where
  pub tele : T
  pub sensors : Z
  pub rejected : Bool
  pub reports : List Report

-- a property: a packet's tele values at the start, a switch's sensors at the start, and the three
-- blocks
pub record Property (T Z C : Type 0) : Type 0 where
  pub tele : T
  pub sensors : Z
  pub init : Reads C → Doing T Z → Doing T Z
  pub telemetry : Reads C → Doing T Z → Doing T Z
  pub checker : Reads C → Doing T Z → Doing T Z

-- a report, with the packet and the switch that it comes from
pub record Reported : Type 0 where
  pub packet : ℕ
  pub switch : ℕ
  pub report : Report

-- what the property says so far: the tele values of each packet, the sensors of each switch, the
-- tele values of the packet after each half of the log, the verdict on each packet whose exit half
-- at its last hop is past (true where it is rejected), how many packets each switch rejected, and
-- the reports
pub record Path (T Z : Type 0) : Type 0 where
  pub tele : ℕ → T
  pub sensors : ℕ → Z
  pub trail : List T
  pub verdicts : ℕ → Option Bool
  pub rejected_at : ℕ → ℕ
  pub reports : List Reported

-- before any block: nothing is rejected or reported
abbrev pub nothing_yet : {T Z : Type 0} → T → Z → Doing T Z
nothing_yet tele sensors = record { tele = tele; sensors = sensors; rejected = false; reports = [] }

-- what the blocks read at a half of a passage of a switch
abbrev pub reads_at :
    {C : Type 0} → (switch : ℕ) → (first last : Bool) → (view : List Word) → (ℕ → C) → Reads C
reads_at s first last view c =
    record { switch = s; first = first; last = last; view = view; contents = c }

abbrev pub reads_of : {C : Type 0} → Half C → Reads C
reads_of h = reads_at h.switch h.first h.last h.view h.contents

-- the reports of packet i at switch s, in order
abbrev pub reported_by : (i s : ℕ) → List Report → List Reported
reported_by i s reports = map (λ r. record { packet = i; switch = s; report = r }) reports

-- the verdict on the half's packet: an exit half at the last hop gives one
abbrev pub verdict_after : {C : Type 0} → Half C → (rejected : Bool) → Option Bool → Option Bool
verdict_after h rejected before = if h.is_exit && h.last then Some rejected else before

module _ {T Z C : Type 0} (p : Property T Z C) where
  -- the entry part: init at the packet's first hop, and nothing elsewhere
  abbrev pub entry_part : Reads C → T → Z → Doing T Z
  entry_part r tele sensors =
      if r.first then p.init r (nothing_yet tele sensors) else nothing_yet tele sensors

  -- at the last hop the checker follows, with nothing rejected at its start
  abbrev pub checked : Reads C → Doing T Z → Doing T Z
  checked r d =
      if r.last
      then p.checker r (record d { rejected = false })
      else record d { rejected = false }

  -- the exit part: telemetry, and at the last hop the checker
  abbrev pub exit_part : Reads C → T → Z → Doing T Z
  exit_part r tele sensors = checked r (p.telemetry r (nothing_yet tele sensors))

  -- the part that belongs to a half
  abbrev pub part_of : Half C → T → Z → Doing T Z
  part_of h tele sensors =
      if h.is_exit
      then exit_part (reads_of h) tele sensors
      else entry_part (reads_of h) tele sensors

  -- what a part's result adds
  abbrev pub follows : Path T Z → Half C → Doing T Z → Path T Z
  follows w h d =
      record {
        tele = put w.tele h.packet d.tele;
        sensors = put w.sensors h.switch d.sensors;
        trail = w.trail ++ d.tele ∷ [];
        verdicts = put w.verdicts h.packet (verdict_after h d.rejected (w.verdicts h.packet));
        rejected_at =
            put w.rejected_at h.switch
            (w.rejected_at h.switch + one_if (h.is_exit && d.rejected));
        reports = w.reports ++ reported_by h.packet h.switch d.reports;
      }

  -- after one half: its part ran on the packet's tele values and the switch's sensors
  abbrev pub after_half : Path T Z → Half C → Path T Z
  after_half w h = follows w h (part_of h (w.tele h.packet) (w.sensors h.switch))

  -- after a list of halves
  abbrev pub after_halves : Path T Z → List (Half C) → Path T Z
  after_halves w [] = w
  after_halves w (h ∷ hs) = after_halves (after_half w h) hs

  -- before the first half
  abbrev pub first_path : Path T Z
  first_path =
      record {
        tele = λ i. p.tele;
        sensors = λ s. p.sensors;
        trail = [];
        verdicts = λ i. None;
        rejected_at = λ s. 0;
        reports = [];
      }

  -- the path meaning of the property on a log
  abbrev pub path_meaning : List (Half C) → Path T Z
  path_meaning log = after_halves first_path log

-- the verdict is that the packet is rejected
abbrev pub is_rejected : Option Bool → Bool
is_rejected None = false
is_rejected (Some verdict) = verdict

-- the property rejects packet i
abbrev pub rejects : {T Z : Type 0} → Path T Z → ℕ → Bool
rejects w i = is_rejected (w.verdicts i)

-- A whole hop: the parts of a property at the two halves of a packet's passage of a switch, one behind
-- the other. Read `PathMeaning` before it; the headline does not need it.
use Rattle.std.specs.Prelude.{◌≡◌, ℕ, List, ◌++◌, Bool, Option, Some, None}
use Rattle.bit_values.specs.Bits.{Word}
use Rattle.network_run.specs.Network.{Wiring}
use Rattle.network_run.specs.NetworkRun.{entry_half, exit_half}
use Rattle.network_run.specs.PathMeaning.{Reads, Doing, Property, entry_part, exit_part, Path, reads_of, reported_by, verdict_after, after_half}

-- the exit part on the tele values and sensors that the entry part left, whose reports are kept
abbrev pub exit_behind : {T Z C : Type 0} → Property T Z C → Reads C → Doing T Z → Doing T Z
exit_behind p r d =
    record (exit_part p r d.tele d.sensors) { reports = d.reports ++ (exit_part p r d.tele d.sensors).reports }

-- what a property does at a hop; where forwarding drops the packet there is no exit part
abbrev pub hop_run :
    {T Z C : Type 0} → Property T Z C → (entry : Reads C) → (exit : Option (Reads C)) → T → Z →
    Doing T Z
hop_run p entry None tele sensors = entry_part p entry tele sensors
hop_run p entry (Some exit) tele sensors = exit_behind p exit (entry_part p entry tele sensors)

-- the path has become, at packet i and switch s, what a hop left
pub record ShowsHop
    {T Z : Type 0} (i s : ℕ) (before after : Path T Z) (judged : Option Bool) (d : Doing T Z)
    : Type 0 where
  pub tele : after.tele i ≡ d.tele
  pub sensors : after.sensors s ≡ d.sensors
  pub reports : after.reports ≡ before.reports ++ reported_by i s d.reports
  pub verdict : after.verdicts i ≡ judged

-- the entry half of a dropped packet makes it what the hop left
abbrev pub DropIsHop :
    {T Z C : Type 0} → Property T Z C → Wiring → Path T Z → (i s port : ℕ) → List Word → (ℕ → C) →
    Type 0
DropIsHop p net w i s port view c =
    let e = entry_half net i s port view c in
    ShowsHop i s w (after_half p w e) (w.verdicts i)
    (hop_run p (reads_of e) None (w.tele i) (w.sensors s))

-- and both halves do of a packet that goes on
abbrev pub PassageIsHop :
    {T Z C : Type 0} → Property T Z C → Wiring → Path T Z → (i s port to : ℕ) →
    (entry exit : List Word) → (before after : ℕ → C) → Type 0
PassageIsHop p net w i s port to entry exit before after =
    let e = entry_half net i s port entry before in
    let l = exit_half net i s port to exit after in
    let d = hop_run p (reads_of e) (Some (reads_of l)) (w.tele i) (w.sensors s) in
    ShowsHop i s w (after_half p (after_half p w e) l) (verdict_after l d.rejected (w.verdicts i)) d

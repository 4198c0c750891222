-- A property that never rejects gives no verdict but acceptance, so no edge frame is taken out.
use Rattle.std.proofs.Common.{◌≡◌, ℕ, List, [], ◌∷◌, Bool, true, false, not, Option, refl, ap, ◌∙◌}
use Rattle.std.specs.List.{filter}
use Rattle.bit_values.specs.Bits.{Word}
use Rattle.network_run.specs.Machine.{Machine}
use Rattle.network_run.specs.Network.{Wiring, Half}
use Rattle.network_run.specs.PathMeaning.{Doing, Property, Path, nothing_yet, checked, part_of, verdict_after, after_half, after_halves, first_path, path_meaning, is_rejected, rejects}
use Rattle.network_run.proofs.Numbers.{put_one}
use Rattle.linkage.specs.Linkage.{Telemetry, RegisterReading, Linkage, NeverRejects, SameEdges, plain_after}

filter_all : {X : Type 0} (test : X → Bool) (xs : List X) → ((x : X) → test x ≡ true) → filter test xs ≡ xs
filter_all test [] all = refl
filter_all test (x ∷ xs) all = rw (all x, filter_all test xs all)

module _ {T Z C : Type 0} (p : Property T Z C) (never : NeverRejects p) where
  -- the exit part at the last hop, and elsewhere
  checked_none : (switch : ℕ) (first last : Bool) (view : List Word) (contents : ℕ → C) (d : Doing T Z) → (checked p (record { switch = switch; first = first; last = last; view = view; contents = contents }) d).rejected ≡ false
  checked_none switch first true view contents d = never _ _ refl
  checked_none switch first false view contents d = refl

  verdict_none : (is_exit : Bool) (packet switch : ℕ) (first last : Bool) (view : List Word) (contents : ℕ → C) (t : T) (z : Z) (before : Option Bool) → is_rejected before ≡ false → (let h : Half C = record { is_exit = is_exit; packet = packet; switch = switch; first = first; last = last; view = view; contents = contents } in is_rejected (verdict_after h (part_of p h t z).rejected before) ≡ false)
  verdict_none false packet switch first last view contents t z before none = none
  verdict_none true packet switch first true view contents t z before none = checked_none switch first true view contents (p.telemetry (record { switch = switch; first = first; last = true; view = view; contents = contents }) (nothing_yet t z))
  verdict_none true packet switch first false view contents t z before none = none

  halves_none : (w : Path T Z) (hs : List (Half C)) → ((i : ℕ) → rejects w i ≡ false) → (i : ℕ) → rejects (after_halves p w hs) i ≡ false
  halves_none w [] none = none
  halves_none w (h ∷ hs) none =
      halves_none (after_half p w h) hs
      (put_one (λ i v. is_rejected v ≡ false) w.verdicts h.packet (verdict_after h (part_of p h (w.tele h.packet) (w.sensors h.switch)).rejected (w.verdicts h.packet))
      (λ i. (λ e. verdict_none h.is_exit h.packet h.switch h.first h.last h.view h.contents (w.tele h.packet) (w.sensors h.switch) (w.verdicts h.packet) (none h.packet), none i)))

module _ {E S Q S' Q' C T Z N : Type 0} (forwarding : Machine E S Q C) (linked : Machine E S' Q' C) (net : Wiring) (p : Property T Z C) (telemetry : Telemetry T) (registers : RegisterReading S S' Z N) (IsFitEntries : ℕ → E → Type 0) (IsVariable : ℕ → Type 0) (IsFitContents : ℕ → ℕ → C → Type 0) where
  pub edges_stay : Linkage forwarding linked net p telemetry registers IsFitEntries IsVariable IsFitContents → NeverRejects p → SameEdges forwarding linked net p telemetry registers IsFitEntries IsVariable IsFitContents
  edges_stay is never w valid n =
      let plain = plain_after forwarding linked net p telemetry registers IsFitEntries IsVariable IsFitContents w n in
      is.edge_frames w valid n ∙ filter_all (λ x. not (rejects (path_meaning p plain.log) x.packet)) plain.edges (λ x. ap not (halves_none p never (first_path p) plain.log (λ i. refl) x.packet))

-- Packets that wait are in places that were made for the programs of their switches.
use Rattle.std.proofs.Common.{◌≡◌, ℕ, zero, suc, List, [], ◌∷◌, set, map, Option, true, Some, None, refl, ap, sym, ◌∙◌, subst}
use Rattle.std.specs.Prelude.{slice_get}
use Rattle.p4_tree.specs.Tree.{Program}
use Rattle.p4_meaning.specs.Pass.{Queued}
use Rattle.p4_machine.specs.Buffers.{IsPlaceFor, is_some_packet}
use Rattle.p4_machine.specs.declared.pass.Pass.{Ghosts}
use Rattle.network_run.specs.Network.{Place, Flying}
use Rattle.network_run.specs.NetworkRun.{queued_or_over}
use Rattle.network_run.specs.World.{Arrival}
use Rattle.path_runner.specs.Starts.{in_flight}
use Rattle.path_runner.specs.Places.{place_in}
use Rattle.path_runner.specs.Sound.{IsMadeAt, AreMade}
use Rattle.path_runner.specs.declared.place.Parked.{Parked}
use Rattle.path_runner.specs.declared.place.Place as declared
use Rattle.path_runner.specs.declared.place.Place.TheVariants as code
use Rattle.path_runner.proofs.Lists.{at_set}
use Rattle.path_runner.proofs.Standing.{view_there}

-- a packet that waits is queued
waits : (s port n : ℕ) (o : Option Queued) (s₂ port₂ n₂ : ℕ) (frame : List ℕ) → is_some_packet o ≡ true → queued_or_over s port n o ≡ Flying s₂ port₂ frame n₂ → ⊥
waits s port n None s₂ port₂ n₂ frame full e = cc
waits s port n (Some q) s₂ port₂ n₂ frame full e = cc

-- of the packets in flight none waits
none_waits : (arrivals : List Arrival) (i s port n : ℕ) (o : Option Queued) → is_some_packet o ≡ true → slice_get (in_flight arrivals) i ≡ Some (queued_or_over s port n o) → ⊥
none_waits [] i s port n o full e = cc
none_waits (a ∷ rest) zero s port n o full e = waits s port n o a.switch a.port 0 a.frame full (cc)
none_waits (a ∷ rest) (suc i) s port n o full e = none_waits rest i s port n o full e

module _ {P Q : Type 0} {g : Ghosts P Q} where
  -- what one place asks of the programs
  abbrev One : List Program → declared.Place P Q g → Type 0
  One ps x = (k : Parked P Q g) (p : Program) → x ≡ code.Waiting k → slice_get ps k.switch ≡ Some p → IsPlaceFor p (g.place k.queued.place.value)

  -- where a packet comes to a switch, or to its end
  new_place : (ps : List Program) (s : ℕ) (p : Program) (x : declared.Place P Q g) → slice_get ps s ≡ Some p → IsMadeAt s p x → One ps x
  new_place ps s p x there new k q is here =
      let both : (k.switch ≡ s) × IsPlaceFor p (g.place k.queued.place.value) = subst (IsMadeAt s p) is new in
      let same : p ≡ q = (let at = both.0 in cc) in
      subst (λ (r : Program). IsPlaceFor r (g.place k.queued.place.value)) same both.1

  made_moved : (ps : List Program) (places : List (declared.Place P Q g)) (i s : ℕ) (p : Program) (x : declared.Place P Q g)
      → AreMade ps places → slice_get ps s ≡ Some p → IsMadeAt s p x → AreMade ps (set places i x)
  made_moved ps places i s p x old there new j k q at here =
      at_set (λ (n : ℕ) (y : declared.Place P Q g). One ps y) places i x (new_place ps s p x there new)
      (λ n y other e k q is h. old n k q (e ∙ ap Some is) h) j (code.Waiting k) at k q refl here

  -- the switch keeps its program
  pub made_after : (ps qs : List Program) (places : List (declared.Place P Q g)) (i s : ℕ) (p q : Program) (x y : declared.Place P Q g)
      → AreMade ps places → slice_get ps s ≡ Some p → qs ≡ ps → q ≡ p → y ≡ x → IsMadeAt s q x → AreMade qs (set places i y)
  made_after ps qs places i s p q x y old there same stays is new =
      let at : IsMadeAt s p y = subst (IsMadeAt s p) (sym is) (subst (λ (r : Program). IsMadeAt s r x) stays new) in
      subst (λ (rs : List Program). AreMade rs (set places i y)) (sym same) (made_moved ps places i s p y old there at)

  -- before the first event none waits
  pub made_before : (ps : List Program) (places : List (declared.Place P Q g)) (arrivals : List Arrival) → map place_in places ≡ in_flight arrivals → AreMade ps places
  made_before ps places arrivals same i k p at here =
      absurd (none_waits arrivals i k.switch k.port k.passed (g.place k.queued.place.value).waiting k.full
      (ap (λ (l : List (Place Queued)). slice_get l i) (sym same) ∙ view_there place_in places i (code.Waiting k) at))

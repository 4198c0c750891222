-- Where packets are after a half of packet i: what holds of its new place, and of the other
-- packets' places before, holds of all places after.
use Rattle.std.proofs.Common.{◌≡◌, ◌≢◌, ℕ, ◌+◌, List, length, Bool, true, false, ◌||◌, Option, Some, None, refl, sym, subst}
use Rattle.std.specs.Prelude.{nat_lt, nat_le}
use Rattle.network_run.specs.Machine.{Entered, Going, Leaving}
use Rattle.network_run.specs.Network.{Wiring, far_end, Place, Flying, Waiting, Over, Net}
use Rattle.network_run.specs.NetworkRun.{Limits, longest_frame, put, queued_or_over, lost_if, entered, sent, went, left}
use Rattle.network_run.proofs.Numbers.{put_cases}

false_of_or : (a b : Bool) → (a || b) ≡ false → a ≡ false
false_of_or true b h = h
false_of_or false b h = refl

queued_place : {Q : Type 0} (P : Place Q → Type 0) (s port n : ℕ) (o : Option Q) → P Over → ((q : Q) → P (Waiting s port q n)) → P (queued_or_over s port n o)
queued_place P s port n None over waits = over
queued_place P s port n (Some q) over waits = waits q

module _ {S Q C : Type 0} (net : Wiring) (limits : Limits) (i : ℕ) (P : ℕ → Place Q → Type 0) where
  -- the other packets' places
  abbrev pub Others : Net S Q C → Type 0
  Others w = (j : ℕ) → j ≢ i → P j (w.packets j)

  moved : (w : Net S Q C) (to : Place Q) → P i to → Others w → (j : ℕ) → P j (put w.packets i to j)
  moved w to new old j = put_cases P w.packets i to j (λ e. subst (λ k. P k to) (sym e) new) (old j)

  pub entered_places : (w : Net S Q C) (s port n : ℕ) (e : Entered S Q) → P i Over → ((q : Q) → P i (Waiting s port q n)) → Others w → (j : ℕ) → P j ((entered net limits w i s port n e).packets j)
  entered_places w s port n e over waits old =
      moved w (queued_or_over s port n e.queued) (queued_place (P i) s port n e.queued over waits) old

  lost_places : (b : Bool) (w goes : Net S Q C) → P i Over → Others w → (b ≡ false → (j : ℕ) → P j (goes.packets j)) → (j : ℕ) → P j ((lost_if b w i goes).packets j)
  lost_places true w goes over old new = moved w Over over old
  lost_places false w goes over old new = new refl

  sent_places : (w : Net S Q C) (s n : ℕ) (g : Going) (o : Option (ℕ × ℕ)) (half : ℕ) → P i Over → ((far : ℕ × ℕ) → nat_le limits.hops (n + 1) ≡ false → P i (Flying far.0 far.1 g.frame (n + 1))) → Others w → (j : ℕ) → P j ((sent net limits w i s n g o half).packets j)
  sent_places w s n g None half over flies old =
      lost_places (nat_lt longest_frame (length g.frame)) w _ over old (λ short. moved w Over over old)
  sent_places w s n g (Some far) half over flies old =
      lost_places (nat_le limits.hops (n + 1) || nat_lt limits.link (length g.frame)) w _ over old
      (λ goes. moved w (Flying far.0 far.1 g.frame (n + 1)) (flies far (false_of_or (nat_le limits.hops (n + 1)) _ goes)) old)

  went_places : (w : Net S Q C) (s port n : ℕ) (o : Option Going) → P i Over → ((far : ℕ × ℕ) (frame : List ℕ) → nat_le limits.hops (n + 1) ≡ false → P i (Flying far.0 far.1 frame (n + 1))) → Others w → (j : ℕ) → P j ((went net limits w i s port n o).packets j)
  went_places w s port n None over flies old = moved w Over over old
  went_places w s port n (Some g) over flies old =
      sent_places (record w { log = _ }) s n g (far_end net s g.port) (length w.log) over (λ far. flies far g.frame) old

  pub left_places : (w : Net S Q C) (s port n : ℕ) (l : Leaving S) → P i Over → ((far : ℕ × ℕ) (frame : List ℕ) → nat_le limits.hops (n + 1) ≡ false → P i (Flying far.0 far.1 frame (n + 1))) → Others w → (j : ℕ) → P j ((left net limits w i s port n l).packets j)
  left_places w s port n l over flies old =
      went_places (record w { switches = put w.switches s l.after; told = _ }) s port n l.going over flies old

-- No more frames leave than there are packets.
--
-- A packet that leaves is on its way before and not after. So the frames that left and the packets on their way are
-- never more than before, and at first they are as many as there are packets.
use Rattle.std.proofs.Common.{◌≡◌, ◌≢◌, ℕ, zero, suc, ◌+◌, ◌<◌, ◌≤◌, List, [], ◌∷◌, ◌++◌, length, Bool, true, false, ◌||◌, Option, Some, None, refl, ap, ◌∙◌, arith, inl, inr}
use Rattle.std.specs.Prelude.{nat_lt, nat_le}
use Rattle.std.proofs.lemmas.Bool.Decides.{eqb_tells, leb_tells}
use Rattle.std.proofs.lemmas.List.{length-append}
use Rattle.std.proofs.lemmas.Option.{slice_get_past}
use Rattle.network_run.specs.Machine.{Machine, Going}
use Rattle.network_run.specs.Network.{Wiring, far_end, Place, Flying, Waiting, Over, Sent, Net}
use Rattle.network_run.specs.Events.{Event, Enter, Leave, Set}
use Rattle.network_run.specs.NetworkRun.{Limits, longest_frame, put, queued_or_over, frame_of, lost_if, sent, went, enters, leaves, happens, run_of_halves}
use Rattle.network_run.specs.World.{Arrival, World, first_place, first_net}
use Rattle.network_run.proofs.Numbers.{put_cases, put_same}

-- 1 for a packet that is on its way
abbrev still : {Q : Type 0} → Place Q → ℕ
still (Flying s port f n) = 1
still (Waiting s port q n) = 1
still Over = 0

still_low : {Q : Type 0} (x : Place Q) → still x ≤ 1
still_low (Flying s port f n) = omega arith
still_low (Waiting s port q n) = omega arith
still_low Over = omega arith

-- how many of the first n packets are on their way
abbrev going : {Q : Type 0} → (ℕ → Place Q) → ℕ → ℕ
going f zero = 0
going f (suc n) = still (f n) + going f n

going_low : {Q : Type 0} (f : ℕ → Place Q) (n : ℕ) → going f n ≤ n
going_low f zero = omega arith
going_low f (suc n) = let one = still_low (f n) in let rest = going_low f n in omega (arith, one, rest)

module _ {Q : Type 0} (f : ℕ → Place Q) (j : ℕ) (v : Place Q) where
  put_other : (i : ℕ) → i ≢ j → put f j v i ≡ f i
  put_other i other = put_cases (λ k x. x ≡ f k) f j v i (λ e. absurd (other e)) (λ n. refl)

  going_past : (n : ℕ) → n ≤ j → going (put f j v) n ≡ going f n
  going_past zero le = refl
  going_past (suc n) le =
      let here = ap still (put_other n (λ e. omega (arith, e, le))) in
      let rest = going_past n (omega (arith, le)) in
      omega (arith, here, rest)

  -- one packet's place changes
  going_put : (n : ℕ) → j < n → going (put f j v) n + still (f j) ≡ going f n + still v
  going_put zero lt = absurd (omega (arith, lt))
  going_put (suc n) lt =
      elim (eqb_tells n j) [
        | inl h ↦ (let here = ap still (ap (put f j v) h.1 ∙ put_same f j v) in let there = ap (λ k. still (f k)) h.1 in let rest = going_past n (omega (arith, h.1)) in omega (arith, here, there, rest))
        | inr h ↦ (let here = ap still (put_other n h.1) in let rest = going_put n (omega (arith, h.1, lt)) in omega (arith, here, rest))
      ]

-- of n packets, those that left and those on their way are no more, and no other packet is on its way
record AreFew {Q : Type 0} (n : ℕ) (edges : List Sent) (f : ℕ → Place Q) : Type 0 where
  others : (i : ℕ) → n ≤ i → still (f i) ≡ 0
  few : length edges + going f n ≤ n

module _ (n : ℕ) where
  -- a packet that is on its way goes on or is at its end
  moves : {Q : Type 0} (f : ℕ → Place Q) (j : ℕ) (v : Place Q) (old new : List Sent) → still (f j) ≡ 1 → length new + still v ≤ length old + 1 → AreFew n old f → AreFew n new (put f j v)
  moves f j v old new on more h =
      let there : j < n = (elim (leb_tells n j) [ inl q ↦ absurd (let none = h.others j q.1 in omega (arith, none, on)) | inr q ↦ q.1 ]) in
      let changed = going_put f j v n there in
      let before = h.few in
      record {
        others = λ i past. ap still (put_other f j v i (λ e. omega (arith, e, past, there))) ∙ h.others i past;
        few = omega (arith, changed, before, more, on);
      }

  -- it is lost, or else goes on or leaves
  lost_few : {S Q C : Type 0} (b : Bool) (w goes : Net S Q C) (j : ℕ) → still (w.packets j) ≡ 1 → AreFew n w.edges w.packets → AreFew n goes.edges goes.packets → AreFew n (lost_if b w j goes).edges (lost_if b w j goes).packets
  lost_few true w goes j on h k = moves w.packets j Over w.edges w.edges on (omega arith) h
  lost_few false w goes j on h k = k

  module _ {S Q C : Type 0} (net : Wiring) (limits : Limits) where
    sent_few : (w : Net S Q C) (j s p : ℕ) (g : Going) (far : Option (ℕ × ℕ)) (half : ℕ) → still (w.packets j) ≡ 1 → AreFew n w.edges w.packets → AreFew n (sent net limits w j s p g far half).edges (sent net limits w j s p g far half).packets
    sent_few w j s p g None half on h =
        lost_few (nat_lt longest_frame (length g.frame)) w _ j on h
        (let more = length-append w.edges (frame_of j s g ∷ []) in moves w.packets j Over w.edges (w.edges ++ frame_of j s g ∷ []) on (omega (arith, more)) h)
    sent_few w j s p g (Some far) half on h =
        lost_few (nat_le limits.hops (p + 1) || nat_lt limits.link (length g.frame)) w _ j on h
        (moves w.packets j (Flying far.0 far.1 g.frame (p + 1)) w.edges w.edges on (omega arith) h)

    went_few : (w : Net S Q C) (j s port p : ℕ) (o : Option Going) → still (w.packets j) ≡ 1 → AreFew n w.edges w.packets → AreFew n (went net limits w j s port p o).edges (went net limits w j s port p o).packets
    went_few w j s port p None on h = moves w.packets j Over w.edges w.edges on (omega arith) h
    went_few w j s port p (Some g) on h = sent_few _ j s p g (far_end net s g.port) _ on h

  module _ {E S Q C : Type 0} (m : Machine E S Q C) (net : Wiring) (limits : Limits) where
    enters_few : (w : Net S Q C) (j : ℕ) (x : Place Q) → w.packets j ≡ x → AreFew n w.edges w.packets → AreFew n (enters m net limits w j x).edges (enters m net limits w j x).packets
    enters_few w j (Flying s port f p) e h =
        let to = queued_or_over s port p (m.enter s (w.switches s) port f).queued in
        let low = still_low to in
        moves w.packets j to w.edges w.edges (ap still e) (omega (arith, low)) h
    enters_few w j (Waiting s port q p) e h = h
    enters_few w j Over e h = h

    leaves_few : (w : Net S Q C) (j : ℕ) (x : Place Q) → w.packets j ≡ x → AreFew n w.edges w.packets → AreFew n (leaves m net limits w j x).edges (leaves m net limits w j x).packets
    leaves_few w j (Flying s port f p) e h = h
    leaves_few w j (Waiting s port q p) e h = went_few net limits _ j s port p _ (ap still e) h
    leaves_few w j Over e h = h

    happens_few : (w : Net S Q C) (e : Event C) → AreFew n w.edges w.packets → AreFew n (happens m net limits w e).edges (happens m net limits w e).packets
    happens_few w (Enter j) h = enters_few w j (w.packets j) refl h
    happens_few w (Leave j) h = leaves_few w j (w.packets j) refl h
    happens_few w (Set s v c) h = h

    run_few : (w : Net S Q C) (es : List (Event C)) → AreFew n w.edges w.packets → AreFew n (run_of_halves m net limits w es).edges (run_of_halves m net limits w es).packets
    run_few w [] h = h
    run_few w (e ∷ es) h = run_few (happens m net limits w e) es (happens_few w e h)

-- from the first network of a world on
pub fewer_leave : {E S Q C : Type 0} (m : Machine E S Q C) (net : Wiring) (limits : Limits) (w : World E C) (es : List (Event C)) → length (run_of_halves m net limits (first_net m w) es).edges ≤ length w.packets
fewer_leave {E} {S} {Q} {C} m net limits w es =
    let n = length w.packets in
    let at_first : AreFew n [] (first_net m w).packets = record {
      others = λ i past. ap (λ (o : Option Arrival). still {Q = Q} (first_place o)) (slice_get_past w.packets i past);
      few = (let low = going_low (first_net m w).packets n in omega (arith, low));
    } in
    let all = (run_few n m net limits (first_net m w) es at_first).few in
    omega (arith, all)

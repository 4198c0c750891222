-- Each packet of a world ends once: it leaves by an edge port, or is dropped, or is lost.
--
-- How often packet i has ended so far, and whether it is still on its way, add up to the same
-- number after each event: a half of another packet changes neither, and a half that ends it
-- changes both.
use Rattle.std.proofs.Common.{◌≡◌, ◌≢◌, ℕ, zero, suc, ◌+◌, ◌<◌, List, [], ◌∷◌, ◌++◌, length, map, Bool, true, false, cond, ◌||◌, ◌==◌, Option, Some, None, refl, ap, sym, ◌∙◌, subst, arith}
use Rattle.std.specs.Prelude.{nat_lt, nat_le, slice_get}
use Rattle.std.proofs.lemmas.List.{map-append}
use Rattle.std.proofs.lemmas.List.Sums.{sum_by-append}
use Rattle.network_run.specs.Machine.{Entered, Going, Machine}
use Rattle.network_run.specs.Network.{Wiring, far_end, Place, Flying, Waiting, Over, Sent, Net, times}
use Rattle.network_run.specs.Events.{Event, Enter, Leave, Set}
use Rattle.network_run.specs.NetworkRun.{Limits, longest_frame, put, told_by, queued_or_over, dropped_if_none, exit_half, lost_if, entered, sent, went, enters, leaves, happens, run_of_halves}
use Rattle.network_run.specs.World.{Arrival, World, steps, limits_of, first_place, first_net, net_at_end}
use Rattle.network_run.specs.RunLaws.{IsOver, times_ended}
use Rattle.network_run.proofs.Numbers.{nat_eq_self, nat_eq_other, put_cases}
use Rattle.network_run.proofs.Ends.{world_ends}

-- 1 for a packet that is on its way
abbrev still : {Q : Type 0} → Place Q → ℕ
still (Flying s port f n) = 1
still (Waiting s port q n) = 1
still Over = 0

still_over : {Q : Type 0} (x : Place Q) → IsOver x → still x ≡ 0
still_over (Flying s port f n) o = absurd o
still_over (Waiting s port q n) o = absurd o
still_over Over o = refl

times_append : (i : ℕ) (xs ys : List ℕ) → times i (xs ++ ys) ≡ times i xs + times i ys
times_append i xs ys = sum_by-append (λ k. cond (k == i) 1 0) xs ys

times_self : (i : ℕ) → times i (i ∷ []) ≡ 1
times_self i = rw (nat_eq_self i)

times_other : (i j : ℕ) → j ≢ i → times i (j ∷ []) ≡ 0
times_other i j n = rw (nat_eq_other j i n)

edges_append : (i : ℕ) (xs : List Sent) (x : Sent) → times i (map (λ x. x.packet) (xs ++ x ∷ [])) ≡ times i (map (λ x. x.packet) xs) + times i (x.packet ∷ [])
edges_append i xs x = ap (times i) (map-append (λ x. x.packet) xs (x ∷ [])) ∙ times_append i (map (λ x. x.packet) xs) (x.packet ∷ [])

module _ {Q : Type 0} (i j : ℕ) where
  -- packet j, which is on its way, ends
  ended_at : (f : ℕ → Place Q) → still (f j) ≡ 1 → still (put f j Over i) + times i (j ∷ []) ≡ still (f i)
  ended_at f on =
      put_cases (λ k x. still x + times k (j ∷ []) ≡ still (f k)) f j Over i
      (λ e. times_here i e ∙ sym (ap (λ k. still (f k)) e ∙ on))
      (λ n. let other = times_other i j (λ e. n (sym e)) in omega (arith, other))
    where
      times_here : (k : ℕ) → k ≡ j → 0 + times k (j ∷ []) ≡ 1
      times_here k e = let here = subst (λ k. times k (j ∷ []) ≡ 1) (sym e) (times_self j) in omega (arith, here)

  -- packet j, which is on its way, goes on
  goes_on : (f : ℕ → Place Q) (to : Place Q) → still (f j) ≡ 1 → still to ≡ 1 → still (put f j to i) ≡ still (f i)
  goes_on f to on there =
      put_cases (λ k x. still x ≡ still (f k)) f j to i (λ e. there ∙ sym (ap (λ k. still (f k)) e ∙ on)) (λ n. refl)

module _ {S Q C : Type 0} (i j : ℕ) where
  -- how often packet i has ended, and whether it is on its way
  abbrev total : Net S Q C → ℕ
  total w = times_ended i w + still (w.packets i)

  queued_total : (w : Net S Q C) (s port n : ℕ) (o : Option Q) → still (w.packets j) ≡ 1 → times i (w.dropped ++ dropped_if_none j o) + still (put w.packets j (queued_or_over s port n o) i) ≡ times i w.dropped + still (w.packets i)
  queued_total w s port n None on =
      let ends = ended_at i j w.packets on in
      let more = times_append i w.dropped (j ∷ []) in
      omega (arith, ends, more)
  queued_total w s port n (Some q) on =
      let on_its_way = goes_on i j w.packets (Waiting s port q n) on refl in
      let none = times_append i w.dropped [] in
      omega (arith, on_its_way, none)

  lost_total : (b : Bool) (w goes : Net S Q C) → still (w.packets j) ≡ 1 → total goes ≡ total w → total (lost_if b w j goes) ≡ total w
  lost_total true w goes on same =
      let ends = ended_at i j w.packets on in
      let more = times_append i w.lost (j ∷ []) in
      omega (arith, ends, more)
  lost_total false w goes on same = same

  module _ (net : Wiring) (limits : Limits) where
    entered_total : (w : Net S Q C) (s port n : ℕ) (e : Entered S Q) → still (w.packets j) ≡ 1 → total (entered net limits w j s port n e) ≡ total w
    entered_total w s port n e on = let same = queued_total w s port n e.queued on in omega (arith, same)

    sent_total : (w : Net S Q C) (s n : ℕ) (g : Going) (o : Option (ℕ × ℕ)) (half : ℕ) → still (w.packets j) ≡ 1 → total (sent net limits w j s n g o half) ≡ total w
    sent_total w s n g None half on =
        lost_total (nat_lt longest_frame (length g.frame)) w _ on
        (let ends = ended_at i j w.packets on in
        let more = edges_append i w.edges (record { packet = j; switch = s; port = g.port; frame = g.frame }) in
        omega (arith, ends, more))
    sent_total w s n g (Some far) half on =
        lost_total (nat_le limits.hops (n + 1) || nat_lt limits.link (length g.frame)) w _ on
        (let on_its_way = goes_on i j w.packets (Flying far.0 far.1 g.frame (n + 1)) on refl in omega (arith, on_its_way))

    went_total : (w : Net S Q C) (s port n : ℕ) (o : Option Going) → still (w.packets j) ≡ 1 → total (went net limits w j s port n o) ≡ total w
    went_total w s port n None on =
        let ends = ended_at i j w.packets on in
        let more = times_append i w.dropped (j ∷ []) in
        omega (arith, ends, more)
    went_total w s port n (Some g) on =
        sent_total (record w { log = w.log ++ exit_half net j s port g.port g.view (w.contents s) ∷ [] }) s n g (far_end net s g.port) (length w.log) on

module _ {E S Q C : Type 0} (m : Machine E S Q C) (net : Wiring) (limits : Limits) (i : ℕ) where
  enters_total : (w : Net S Q C) (j : ℕ) (x : Place Q) → w.packets j ≡ x → total i j (enters m net limits w j x) ≡ total i j w
  enters_total w j (Flying s port f n) e = entered_total i j net limits w s port n (m.enter s (w.switches s) port f) (ap still e)
  enters_total w j (Waiting s port q n) e = refl
  enters_total w j Over e = refl

  leaves_total : (w : Net S Q C) (j : ℕ) (x : Place Q) → w.packets j ≡ x → total i j (leaves m net limits w j x) ≡ total i j w
  leaves_total w j (Flying s port f n) e = refl
  leaves_total w j (Waiting s port q n) e =
      let l = m.leave s (w.switches s) q in
      went_total i j net limits (record w { switches = put w.switches s l.after; told = w.told ++ told_by j s l.digests }) s port n l.going (ap still e)
  leaves_total w j Over e = refl

  happens_total : (w : Net S Q C) (e : Event C) → times_ended i (happens m net limits w e) + still ((happens m net limits w e).packets i) ≡ times_ended i w + still (w.packets i)
  happens_total w (Enter j) = enters_total w j (w.packets j) refl
  happens_total w (Leave j) = leaves_total w j (w.packets j) refl
  happens_total w (Set s v c) = refl

  -- events keep the sum
  run_total : (w : Net S Q C) (es : List (Event C)) → times_ended i (run_of_halves m net limits w es) + still ((run_of_halves m net limits w es).packets i) ≡ times_ended i w + still (w.packets i)
  run_total w [] = refl
  run_total w (e ∷ es) = run_total (happens m net limits w e) es ∙ happens_total w e

module _ {E S Q C : Type 0} (m : Machine E S Q C) (net : Wiring) (telemetry : ℕ) (w : World E C) where
  flies_first : (xs : List Arrival) (i : ℕ) → i < length xs → still {Q = Q} (first_place (slice_get xs i)) ≡ 1
  flies_first [] i h = absurd (omega (arith, h))
  flies_first (x ∷ xs) zero h = refl
  flies_first (x ∷ xs) (suc i) h = flies_first xs i (omega (arith, h))

  -- in every world each packet has ended once at the end
  pub world_ended : (i : ℕ) → 0 < w.hops → i < length w.packets → times_ended i (net_at_end m net telemetry w) ≡ 1
  world_ended i some known =
      let last = run_total m net (limits_of w telemetry) i (first_net m w) (steps w) in
      let over = still_over ((net_at_end m net telemetry w).packets i) (world_ends m net telemetry w i some) in
      let first = flies_first w.packets i known in
      omega (arith, last, over, first)

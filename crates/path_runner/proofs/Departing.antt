-- Where a packet is that leaves a switch, and how many have ended then.
use Rattle.std.proofs.Common.{◌≡◌, ℕ, ◌+◌, ◌<◌, ◌≤◌, List, length, get_or, set, Bool, true, false, ◌||◌, Option, Some, None, refl, ap, ◌∙◌, arith}
use Rattle.std.specs.Prelude.{nat_lt, nat_le, if◌then◌else◌}
use Rattle.std.proofs.lemmas.Bool.Decides.{nat_tests}
use Rattle.p4_meaning.specs.Pass.{Queued}
use Rattle.p4_machine.specs.Passages.{Passage}
use Rattle.p4_machine.specs.Buffers.{is_some_packet}
use Rattle.network_run.specs.Network.{Wiring, IsWiring, far_end, Place, Over, Sent}
use Rattle.network_run.specs.NetworkRun.{Limits, longest_frame, queued_or_over}
use Rattle.network_run.proofs.Links.{far_end_is}
use Rattle.path_runner.specs.Nets.{Traffic}
use Rattle.path_runner.specs.Sound.{is_within, going_one, going_on}
use Rattle.path_runner.specs.Departures.{Departure, sent_departure, out_departure, left_departure}
use Rattle.path_runner.proofs.Going.{going-set}

-- one of two departures
either : (P : Departure → Type 0) (b : Bool) (x y : Departure) → P x → (b ≡ false → P y) → P (if b then x else y)
either P true x y one other = one
either P false x y one other = other refl

sent_within : (net : Wiring) (l : Limits) (t : Traffic) (n s port : ℕ) (x : Sent) (far : Option (ℕ × ℕ)) → IsWiring net → far_end net s port ≡ far → is_within net.switches l (sent_departure l t n x far).place ≡ true
sent_within net l t n s port x None is e = either (λ (u : Departure). is_within net.switches l u.place ≡ true) (nat_lt longest_frame (length x.frame)) _ _ refl (λ short. refl)
sent_within net l t n s port x (Some far) is e =
    let known : far.0 < net.switches = (far_end_is net is s port far e).known in
    either (λ (u : Departure). is_within net.switches l u.place ≡ true) (nat_le l.hops (n + 1) || nat_lt l.link (length x.frame)) _ _ refl (λ goes. grind (arith, nat_tests, known, goes))

behind_within : (net : Wiring) (l : Limits) (t : Traffic) (i s n : ℕ) (out : Option (ℕ × List ℕ)) → IsWiring net → is_within net.switches l (out_departure net l t i s n out).place ≡ true
behind_within net l t i s n None is = refl
behind_within net l t i s n (Some g) is = sent_within net l t n s g.0 (record { packet = i; switch = s; port = g.0; frame = g.1 }) (far_end net s g.0) is refl

-- the packet is within the bounds
pub left_within : (net : Wiring) (l : Limits) (t : Traffic) (i s n : ℕ) (x : Passage) → IsWiring net → is_within net.switches l (left_departure net l t i s n x).place ≡ true
left_within net l t i s n x is = behind_within net l _ i s n x.out is

-- how many have ended, and whether this one goes on
abbrev ended_in : Departure → ℕ
ended_in u = u.traffic.dropped + u.traffic.lost + going_one u.place

sent_ended : (l : Limits) (t : Traffic) (n : ℕ) (x : Sent) (far : Option (ℕ × ℕ)) → ended_in (sent_departure l t n x far) ≤ t.dropped + t.lost + 1
sent_ended l t n x None = either (λ (u : Departure). ended_in u ≤ t.dropped + t.lost + 1) (nat_lt longest_frame (length x.frame)) _ _ (omega arith) (λ short. omega arith)
sent_ended l t n x (Some far) = either (λ (u : Departure). ended_in u ≤ t.dropped + t.lost + 1) (nat_le l.hops (n + 1) || nat_lt l.link (length x.frame)) _ _ (omega arith) (λ goes. omega arith)

behind_ended : (net : Wiring) (l : Limits) (t : Traffic) (i s n : ℕ) (out : Option (ℕ × List ℕ)) → ended_in (out_departure net l t i s n out) ≤ t.dropped + t.lost + 1
behind_ended net l t i s n None = omega arith
behind_ended net l t i s n (Some g) = sent_ended l t n (record { packet = i; switch = s; port = g.0; frame = g.1 }) (far_end net s g.0)

waiting_one : (s port n : ℕ) (o : Option Queued) → is_some_packet o ≡ true → going_one (queued_or_over s port n o) ≡ 1
waiting_one s port n None full = absurd (cc)
waiting_one s port n (Some q) full = refl

module _ (ps : List (Place Queued)) (i sw port n m : ℕ) (o : Option Queued) (there : i < length ps) (full : is_some_packet o ≡ true) (at : get_or ps i Over ≡ queued_or_over sw port n o) where
  -- the packet was taken from its place
  pub taken_going : going_on (set ps i Over) + 1 ≡ going_on ps
  taken_going =
      let moved = going-set ps i Over there in
      let before : going_one (get_or ps i Over) ≡ 1 = ap going_one at ∙ waiting_one sw port n o full in
      omega (arith, moved, before)

  -- those that go on, and those that ended otherwise, are no more than they were
  pub left_counted : (net : Wiring) (l : Limits) (t now : Traffic) (v : Place Queued) (x : Passage) → v ≡ (left_departure net l t i sw n x).place → now ≡ (left_departure net l t i sw n x).traffic → t.dropped + t.lost + going_on ps ≤ m → now.dropped + now.lost + going_on (set ps i v) ≤ m
  left_counted net l t now v x is happened few =
      let u = left_departure net l t i sw n x in
      let moved = going-set ps i v there in
      let before : going_one (get_or ps i Over) ≡ 1 = ap going_one at ∙ waiting_one sw port n o full in
      let after : going_one v ≡ going_one u.place = ap going_one is in
      let dropped : now.dropped ≡ u.traffic.dropped = ap (λ (t : Traffic). t.dropped) happened in
      let lost : now.lost ≡ u.traffic.lost = ap (λ (t : Traffic). t.lost) happened in
      let ended : u.traffic.dropped + u.traffic.lost + going_one u.place ≤ t.dropped + t.lost + 1 = behind_ended net l _ i sw n x.out in
      omega (arith, moved, before, after, dropped, lost, ended, few)

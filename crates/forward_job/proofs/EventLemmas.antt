-- The events of a schedule without a property are halves of packets that are there.
use Rattle.std.proofs.Common.{◌≡◌, ℕ, ◌<◌, List, [], ◌∷◌, length, Bool, true, false, nat_lt, Option, Some, None, Result, Ok, Err, codes, refl, sym, subst, ◌∙◌, arith, ltb-true}
use Rattle.std.specs.Option.{option_map_or}
use Rattle.std.specs.Str.{bytes_eq}
use Rattle.std.specs.List.{All}
use Rattle.std.proofs.lemmas.List.Elements.{All-nil, All-cons, All-head, All-tail, All-push}
use Rattle.serde_json.specs.Data.{Data}
use Rattle.json_parts.specs.Answers.{◌>>=◌}
use Rattle.json_parts.specs.Trees.{as_whole, as_list}
use Rattle.json_parts.specs.Turns.{in_turn}
use Rattle.indus_types.specs.Sums.{cut}
use Rattle.indus_tree.specs.State.{Contents}
use Rattle.network_run.specs.Events.{Event, Enter, Leave}
use Rattle.schedule_file.specs.declared.fault.ScheduleFault.{ScheduleFault}
use Rattle.schedule_file.specs.declared.fault.ScheduleFault.TheVariants as fault
use Rattle.schedule_file.specs.Members.{Around, Member, passage, enter, leave, unread, known_packet, packet_at, named_member, object_member, only_member, member_from, member_of, events_of}
use Rattle.schedule_file.specs.Schedule.{Reading, count_of, most_waiting, with_event, with_events, bounded, with_member, start, events_from, schedule_of}
use Rattle.forward_run.specs.Job.{IsEventAmong}
use Rattle.case_course.proofs.Bound.{bound, turns_keep}

module _ (packets : ℕ) (names : List (List ℕ)) where
  abbrev around : Around
  around = record { packets = packets; decls = None; names = names }

  abbrev IsHere : Event Contents → Type 0
  IsHere e = IsEventAmong packets (length names) e

  abbrev AreHere : List (Event Contents) → Type 0
  AreHere es = All IsHere es

  none : AreHere []
  none = All-nil IsHere

  one : (e : Event Contents) → IsHere e → AreHere (e ∷ [])
  one e h = All-cons IsHere e [] h none

  known_by : (at n m : ℕ) (b : Bool) → nat_lt n packets ≡ b → known_packet around at n ≡ Ok m → m < packets
  known_by at n m true is h =
      let e : known_packet around at n ≡ Ok n = rw is refl in
      let same : n ≡ m = cc in
      omega (arith, ltb-true, is, same)
  known_by at n m false is h =
      let e : known_packet around at n ≡ Err (fault.NoSuchPacket at) = rw is refl in absurd cc

  known : (at n m : ℕ) → known_packet around at n ≡ Ok m → m < packets
  known at n m h = known_by at n m (nat_lt n packets) refl h

  whole : (at m : ℕ) (n : Option ℕ) → option_map_or (known_packet around at) n (Err (fault.Shape at)) ≡ Ok m → m < packets
  whole at m None h = absurd cc
  whole at m (Some n) h = known at n m h

  made : (m : Member) (x : Member) → Ok x ≡ (let r : Result Member ScheduleFault = Ok m in r) → AreHere (events_of x) → AreHere (events_of m)
  made m x h k = let is : x ≡ m = cc in subst (λ (y : Member). AreHere (events_of y)) is k

  named : (at : ℕ) (name : List ℕ) (d : Data) (m : Member) (a b c : Bool) → bytes_eq name (codes "enter") ≡ a → bytes_eq name (codes "leave") ≡ b → bytes_eq name (codes "set") ≡ c →
      named_member around at name d ≡ Ok m → AreHere (events_of m)
  named at name d m true b c p q r h =
      let is : named_member around at name d ≡ (packet_at around at d >>= λ n. Ok (enter n)) = rw p refl in
      let one' = bound (packet_at around at d) (λ n. Ok (enter n)) m (sym is ∙ h) in
      made m (enter one'.0) one'.2 (one (Enter one'.0) (whole at one'.0 (as_whole d) one'.1))
  named at name d m false true c p q r h =
      let is : named_member around at name d ≡ (packet_at around at d >>= λ n. Ok (leave n)) = rw (p, q) refl in
      let one' = bound (packet_at around at d) (λ n. Ok (leave n)) m (sym is ∙ h) in
      made m (leave one'.0) one'.2 (one (Leave one'.0) (whole at one'.0 (as_whole d) one'.1))
  named at name d m false false true p q r h =
      let is : named_member around at name d ≡ Ok unread = rw (p, q, r) refl in
      made m unread (sym is ∙ h) none
  named at name d m false false false p q r h =
      let is : named_member around at name d ≡ Err (fault.Shape at) = rw (p, q, r) refl in absurd cc

  object : (at : ℕ) (m : Member) (f : Option (List ℕ × Data)) → object_member around at f ≡ Ok m → AreHere (events_of m)
  object at m None h = absurd cc
  object at m (Some f) h = named at f.0 f.1 m (bytes_eq f.0 (codes "enter")) (bytes_eq f.0 (codes "leave")) (bytes_eq f.0 (codes "set")) refl refl refl h

  member : (at : ℕ) (d : Data) (m : Member) (n : Option ℕ) → member_from around at d n ≡ Ok m → AreHere (events_of m)
  member at d m None h = object at m (only_member d) h
  member at d m (Some n) h =
      let one' = bound (known_packet around at n) (λ k. Ok (passage k)) m h in
      let there = known at n one'.0 one'.1 in
      made m (passage one'.0) one'.2 (All-cons IsHere (Enter one'.0) (Leave one'.0 ∷ []) there (one (Leave one'.0) there))

  more : (r : Reading) (es : List (Event Contents)) → AreHere r.events → AreHere es → AreHere (with_events r es).events
  more r [] h k = h
  more r (e ∷ es) h k = more (with_event r e) es (All-push IsHere r.events e h (All-head IsHere e es k)) (All-tail IsHere e es k)

  within_by : (at : ℕ) (r t : Reading) (b : Bool) → nat_lt most_waiting (count_of r.waiting) ≡ b → bounded at r ≡ Ok t → r ≡ t
  within_by at r t true is h = let e : bounded at r ≡ Err (fault.Queued at) = rw is refl in absurd cc
  within_by at r t false is h = let e : bounded at r ≡ Ok r = rw is refl in cc

  step : (r t : Reading) (i : ℕ) (d : Data) → AreHere r.events → with_member around r i d ≡ Ok t → AreHere t.events
  step r t i d h e =
      let m = bound (member_of around (cut i) d) _ t e in
      let is = within_by (cut i) (with_events r (events_of m.0)) t (nat_lt most_waiting (count_of (with_events r (events_of m.0)).waiting)) refl m.2 in
      subst (λ (u : Reading). AreHere u.events) is (more r (events_of m.0) h (member (cut i) d m.0 (as_whole d) m.1))

  listed : (ds : Option (List Data)) (es : List (Event Contents)) → events_from around ds ≡ Ok es → AreHere es
  listed None es h = absurd cc
  listed (Some ds) es h =
      let r = bound (in_turn (with_member around) (start around) 0 ds) (λ r. Ok r.events) es h in
      let is : r.0.events ≡ es = cc in
      subst AreHere is (turns_keep (with_member around) (λ t. AreHere t.events) (λ s t i d. step s t i d) (start around) r.0 0 ds none r.1)

  pub events_are_here : (d : Data) (es : List (Event Contents)) → schedule_of around d ≡ Ok es → All (IsEventAmong packets (length names)) es
  unfolding schedule_of
  events_are_here d es h = listed (as_list d) es h

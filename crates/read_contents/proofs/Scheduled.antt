-- The events of a schedule fit.
use Rattle.std.proofs.Common.{◌≡◌, ℕ, ◌+◌, ◌<◌, List, [], ◌∷◌, length, codes, Bool, true, false, cond, nat_lt, Option, Some, None, Result, Ok, Err, refl, ap, subst}
use Rattle.std.specs.Prelude.{option_and_then, All}
use Rattle.std.specs.Str.{bytes_eq}
use Rattle.std.specs.Option.{option_map_or}
use Rattle.std.proofs.lemmas.Bool.{ltb-true}
use Rattle.std.proofs.lemmas.List.Elements.{All-nil, All-cons, All-head, All-tail, All-append}
use Rattle.std.proofs.lemmas.List.Quantifiers.{position-Some}
use Rattle.serde_json.specs.Data.{Data}
use Rattle.serde_json.specs.Find.{get, as_str}
use Rattle.indus_tree.specs.Tree.{Property}
use Rattle.indus_tree.specs.State.{Contents}
use Rattle.indus_rules.specs.Rules.{IsWellTyped}
use Rattle.indus_types.specs.Sums.{cut}
use Rattle.network_run.specs.Events.{Event, Enter, Leave, Set}
use Rattle.network_file.specs.Network.{number_of}
use Rattle.json_parts.specs.Answers.{◌>>=◌, with_fault}
use Rattle.json_parts.specs.Object.{Object, members_of, text_at, end_of}
use Rattle.json_parts.specs.Trees.{as_list, as_whole}
use Rattle.json_parts.specs.Turns.{in_turn}
use Rattle.json_values.specs.Words.{fault_of}
use Rattle.control_file.specs.Contents.{contents_at}
use Rattle.control_file.specs.Control.{Variable, variable_of}
use Rattle.schedule_file.specs.declared.fault.ScheduleFault.TheVariants as fault
use Rattle.schedule_file.specs.Sets.{Setting, set_path, switch_in, value_in, named_in, setting_to, unnamed, setting_by, setting_of}
use Rattle.schedule_file.specs.Members.{Around, Member, passage, enter, leave, setting, known_packet, packet_at, control_fault, set_for, named_member, only_member, object_member, member_from, member_of, events_of}
use Rattle.schedule_file.specs.Schedule.{Reading, most_waiting, count_of, with_event, with_events, with_member, start, events_from, schedule_of}
use Rattle.read_contents.specs.Fits.{FitsVariable, IsFitEvent}
use Rattle.read_contents.specs.Laws.{SchedulesFit}
use Rattle.read_contents.proofs.Words.{read_then, ok_same, found_or}
use Rattle.read_contents.proofs.Seated.{IsFound, variable_is, read_fits}

-- ---- in turn

module _ {E S A : Type 0} (step : S → ℕ → A → Result S E) (P : S → Type 0) (kept : (s : S) (i : ℕ) (a : A) (t : S) → P s → step s i a ≡ Ok t → P t) where
  turns_kept : (s : S) (i : ℕ) (xs : List A) (t : S) → P s → in_turn step s i xs ≡ Ok t → P t
  unfolding in_turn
  turns_kept s i [] t h e = subst P (ok_same s t e) h
  turns_kept s i (x ∷ xs) t h e =
      read_then (step s i x) (λ more. in_turn step more (i + 1) xs) t e (λ more is rest. turns_kept more (i + 1) xs t (kept s i x more h is) rest)

same_fault : {D E X : Type 0} (f : D → E) (r : Result X D) (x : X) → with_fault f r ≡ Ok x → r ≡ Ok x
same_fault f (Ok y) x e = ap (λ z. Ok z) (ok_same y x e)
same_fault f (Err y) x e = absurd (cc e)

never : {E A B : Type 0} (r : Result A E) (f : A → E) (b : B) → (r >>= λ a. Err (f a)) ≡ Ok b → ⊥
never (Ok a) f b e = cc e
never (Err x) f b e = cc e

module _ (p : Property) (typed : IsWellTyped p) (packets : ℕ) (names : List (List ℕ)) where
  abbrev around : Around
  around = record { packets = packets; decls = Some p.decls; names = names }

  -- ---- what is set

  pub record IsFitSetting (s : Setting) : Type 0 where
    switch : s.switch < length names
    variable : FitsVariable p.decls s.variable s.contents

  switch_there : (o : Object) (s : ℕ) → switch_in names o ≡ Ok s → s < length names
  switch_there o s e =
      read_then (with_fault fault_of (text_at o (codes "switch"))) _ s e
      (λ name is rest. (position-Some (bytes_eq name) names s [] (found_or (number_of names name) _ s rest)).0)

  to_fits : (o : Object) (switch : ℕ) (d : Data) (v : Variable) (s : Setting) → switch < length names → IsFound p.decls v → setting_to o switch d v ≡ Ok s → IsFitSetting s
  to_fits o switch d v s there is e =
      read_then (contents_at (codes "/set/value") v.decl.shape d) _ s e
      (λ c read rest.
      read_then (with_fault fault_of (text_at o (codes "variable"))) _ s rest
      (λ name text last.
      subst IsFitSetting (ok_same _ _ last)
      (record {
        switch = there;
        variable = record { decl = v.decl; declared = is.declared; control = is.control; fits = read_fits p typed v is (codes "/set/value") d c read };
      })))

  named_fits : (o : Object) (switch : ℕ) (d : Data) (named : Option Variable) (s : Setting) → switch < length names → ((v : Variable) → named ≡ Some v → IsFound p.decls v)
      → option_map_or (setting_to o switch d) named (unnamed o) ≡ Ok s → IsFitSetting s
  named_fits o switch d None s there is e = absurd (never (with_fault fault_of (text_at o (codes "variable"))) _ s e)
  named_fits o switch d (Some v) s there is e = to_fits o switch d v s there (is v refl) e

  by_fits : (o : Object) (named : Option Variable) (s : Setting) → ((v : Variable) → named ≡ Some v → IsFound p.decls v) → setting_by names o named ≡ Ok s → IsFitSetting s
  by_fits o named s is e =
      read_then (switch_in names o) _ s e
      (λ switch at rest.
      read_then (value_in o) _ s rest
      (λ d value last. named_fits o switch d named s (switch_there o switch at) is last))

  is_named : (o : Option (List ℕ)) (v : Variable) → option_and_then (variable_of p.decls) o ≡ Some v → IsFound p.decls v
  is_named None v e = absurd (cc e)
  is_named (Some name) v e = variable_is p.decls name v e

  setting_fits : (d : Data) (s : Setting) → setting_of p.decls names d ≡ Ok s → IsFitSetting s
  setting_fits d s e =
      read_then (with_fault fault_of (members_of set_path (codes "switch" ∷ codes "value" ∷ codes "variable" ∷ []) d)) _ s e
      (λ o is rest.
      read_then (setting_by names o (named_in p.decls d)) _ s rest
      (λ set by more.
      read_then (with_fault fault_of (end_of o)) _ s more
      (λ end no last.
      subst IsFitSetting (ok_same _ _ last) (by_fits o (named_in p.decls d) set (λ v named. is_named (option_and_then as_str (get (codes "variable") d)) v named) by))))

  -- ---- members

  abbrev IsFit : List (Event Contents) → Type 0
  IsFit es = All (IsFitEvent packets (length names) p.decls) es

  abbrev IsFitMember : Member → Type 0
  IsFitMember m = IsFit (events_of m)

  one_fit : (e : Event Contents) → IsFitEvent packets (length names) p.decls e → IsFit (e ∷ [])
  one_fit e h = All-cons (IsFitEvent packets (length names) p.decls) e [] h (All-nil (IsFitEvent packets (length names) p.decls))

  known : (at n m : ℕ) → known_packet around at n ≡ Ok m → m < packets
  known at n m e = go (nat_lt n packets) refl e
    where
      go : (b : Bool) → nat_lt n packets ≡ b → cond b (Ok n) (Err (fault.NoSuchPacket at)) ≡ Ok m → m < packets
      go true low e = subst (λ (k : ℕ). k < packets) (ok_same n m e) (ltb-true n packets low)
      go false low e = absurd (cc e)

  whole_known : (at m : ℕ) (o : Option ℕ) → option_map_or (known_packet around at) o (Err (fault.Shape at)) ≡ Ok m → m < packets
  whole_known at m None e = absurd (cc e)
  whole_known at m (Some n) e = known at n m e

  enter_fits : (at : ℕ) (d : Data) (m : Member) → (packet_at around at d >>= λ n. Ok (enter n)) ≡ Ok m → IsFitMember m
  enter_fits at d m e =
      read_then (packet_at around at d) (λ n. Ok (enter n)) m e
      (λ n is last. subst IsFitMember (ok_same _ _ last) (one_fit (Enter n) (whole_known at n (as_whole d) is)))

  leave_fits : (at : ℕ) (d : Data) (m : Member) → (packet_at around at d >>= λ n. Ok (leave n)) ≡ Ok m → IsFitMember m
  leave_fits at d m e =
      read_then (packet_at around at d) (λ n. Ok (leave n)) m e
      (λ n is last. subst IsFitMember (ok_same _ _ last) (one_fit (Leave n) (whole_known at n (as_whole d) is)))

  set_fits : (at : ℕ) (d : Data) (m : Member) → set_for (Some p.decls) names at d ≡ Ok m → IsFitMember m
  set_fits at d m e =
      read_then (with_fault (control_fault at) (setting_of p.decls names d)) (λ s. Ok (setting s)) m e
      (λ s is last.
      let fits = setting_fits d s (same_fault (control_fault at) (setting_of p.decls names d) s is) in
      subst IsFitMember (ok_same _ _ last) (one_fit (Set s.switch s.variable s.contents) (fits.switch, fits.variable)))

  named_member_fits : (at : ℕ) (name : List ℕ) (d : Data) (m : Member) → named_member around at name d ≡ Ok m → IsFitMember m
  named_member_fits at name d m e = go (bytes_eq name (codes "enter")) (bytes_eq name (codes "leave")) (bytes_eq name (codes "set")) e
    where
      go : (a b c : Bool)
          → cond a (packet_at around at d >>= λ n. Ok (enter n)) (cond b (packet_at around at d >>= λ n. Ok (leave n)) (cond c (set_for (Some p.decls) names at d) (Err (fault.Shape at)))) ≡ Ok m
          → IsFitMember m
      go true b c e = enter_fits at d m e
      go false true c e = leave_fits at d m e
      go false false true e = set_fits at d m e
      go false false false e = absurd (cc e)

  object_fits : (at : ℕ) (o : Option (List ℕ × Data)) (m : Member) → object_member around at o ≡ Ok m → IsFitMember m
  object_fits at None m e = absurd (cc e)
  object_fits at (Some f) m e = named_member_fits at f.0 f.1 m e

  passage_fits : (n : ℕ) → n < packets → IsFitMember (passage n)
  passage_fits n low = All-cons (IsFitEvent packets (length names) p.decls) (Enter n) (Leave n ∷ []) low (one_fit (Leave n) low)

  member_fits : (at : ℕ) (d : Data) (o : Option ℕ) (m : Member) → member_from around at d o ≡ Ok m → IsFitMember m
  member_fits at d None m e = object_fits at (only_member d) m e
  member_fits at d (Some n) m e =
      read_then (known_packet around at n) (λ k. Ok (passage k)) m e
      (λ k is last. subst IsFitMember (ok_same _ _ last) (passage_fits k (known at n k is)))

  -- ---- the schedule

  events_fit : (r : Reading) (es : List (Event Contents)) → IsFit r.events → IsFit es → IsFit (with_events r es).events
  events_fit r [] h k = h
  events_fit r (e ∷ es) h k =
      events_fit (with_event r e) es (All-append (IsFitEvent packets (length names) p.decls) r.events (e ∷ []) h (one_fit e (All-head (IsFitEvent packets (length names) p.decls) e es k)))
      (All-tail (IsFitEvent packets (length names) p.decls) e es k)

  step_fits : (r : Reading) (i : ℕ) (d : Data) (more : Reading) → IsFit r.events → with_member around r i d ≡ Ok more → IsFit more.events
  step_fits r i d more h e =
      read_then (member_of around (cut i) d) _ more e
      (λ m is rest.
      let fits = events_fit r (events_of m) h (member_fits (cut i) d (as_whole d) m is) in
      few (nat_lt most_waiting (count_of (with_events r (events_of m)).waiting)) (with_events r (events_of m)) fits rest)
    where
      few : (b : Bool) (n : Reading) → IsFit n.events → cond b (Err (fault.Queued (cut i))) (Ok n) ≡ Ok more → IsFit more.events
      few true n fits e = absurd (cc e)
      few false n fits e = subst (λ (q : Reading). IsFit q.events) (ok_same n more e) fits

  listed_fits : (o : Option (List Data)) (es : List (Event Contents)) → events_from around o ≡ Ok es → IsFit es
  listed_fits None es e = absurd (cc e)
  listed_fits (Some ds) es e =
      read_then (in_turn (with_member around) (start around) 0 ds) (λ r. Ok r.events) es e
      (λ r is last.
      subst IsFit (ok_same _ _ last)
      (turns_kept (with_member around) (λ (q : Reading). IsFit q.events) step_fits (start around) 0 ds r (All-nil (IsFitEvent packets (length names) p.decls)) is))

pub schedules_fit : SchedulesFit
unfolding schedule_of
schedules_fit p typed packets names file es e = listed_fits p typed packets names (as_list file) es e

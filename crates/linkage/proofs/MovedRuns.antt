-- Machines that do the same at the switches of a network have the same runs there, by the induction over events.
use Rattle.std.proofs.Common.{◌≡◌, ℕ, ◌+◌, ◌<◌, List, [], ◌∷◌, length, take, Bool, true, false, ◌||◌, Option, Some, None, refl, ap, sym, ◌∙◌, subst}
use Rattle.std.specs.Prelude.{All, nat_lt, nat_le, slice_get, nat_eq, if◌then◌else◌}
use Rattle.std.proofs.lemmas.List.Elements.{All-append, All-take, All-head, All-tail, All-from_recursion}
use Rattle.network_run.specs.Machine.{Going, Machine}
use Rattle.network_run.specs.Network.{Wiring, far_end, IsWiring, Place, Flying, Waiting, Over, Net}
use Rattle.network_run.specs.Events.{Event, Enter, Leave, Set, closing}
use Rattle.network_run.specs.NetworkRun.{Limits, longest_frame, put, queued_or_over, lost_if, entered, sent, went, left, enters, leaves, happens, run_of_halves}
use Rattle.network_run.specs.World.{Arrival, World, IsArrival, IsFitEvent, IsValid, steps, first_place, limits_of, first_net, net_after}
use Rattle.network_run.proofs.Numbers.{put_one}
use Rattle.network_run.proofs.Links.{far_end_is}
use Rattle.std.proofs.lemmas.Bool.{eqb-true}
use Rattle.linkage.proofs.Runs.{closing_fits, at_place}
use Rattle.linkage.specs.Moves.{with_entries, MovesTo, SameNets, SameRuns}

module _ {E F S Q C : Type 0} (net : Wiring) (entries : ℕ → F → E) (m : Machine E S Q C) (n : Machine F S Q C) (Good : ℕ → S → Type 0) (IsQueued : ℕ → Q → Type 0) (IsFitEntries : ℕ → F → Type 0) (IsVariable : ℕ → Type 0) (IsFitContents : ℕ → ℕ → C → Type 0) (is_wiring : IsWiring net) (moves : MovesTo net entries m n Good IsQueued IsFitEntries IsVariable IsFitContents) where
  -- a packet is at a switch, and what is queued is good there
  abbrev IsPlaced : Place Q → Type 0
  IsPlaced (Flying s port frame k) = s < net.switches
  IsPlaced (Waiting s port q k) = (s < net.switches) × IsQueued s q
  IsPlaced Over = Unit {0}

  -- the same network, whose switches keep f
  abbrev keeping : Net S Q C → (ℕ → S) → Net S Q C
  keeping a f = record a { switches = f }

  record Holds (a : Net S Q C) (f : ℕ → S) : Type 0 where
    same : (s : ℕ) → s < net.switches → f s ≡ a.switches s
    kept : (s : ℕ) → s < net.switches → Good s (a.switches s)
    places : (i : ℕ) → IsPlaced (a.packets i)

  record Agrees (a b : Net S Q C) : Type 0 where
    after : ℕ → S
    rest : b ≡ keeping a after
    holds : Holds a after

  agrees : (a : Net S Q C) (f : ℕ → S) → Holds a f → Agrees a (keeping a f)
  agrees a f h = record { after = f; rest = refl; holds = h }

  put_same : (f g : ℕ → S) (s : ℕ) (v : S) → ((j : ℕ) → j < net.switches → f j ≡ g j) → (j : ℕ) → j < net.switches → put f s v j ≡ put g s v j
  put_same f g s v same j h = ap (λ (y : S). if nat_eq j s then v else y) (same j h)

  put_good : (f : ℕ → S) (s : ℕ) (v : S) → (s < net.switches → Good s v) → ((j : ℕ) → j < net.switches → Good j (f j)) → (j : ℕ) → j < net.switches → Good j (put f s v j)
  put_good f s v new old = put_one (λ j y. j < net.switches → Good j y) f s v (λ j. (λ e h. subst (λ j. Good j v) (sym e) (new (subst (λ j. j < net.switches) e h)), old j))

  put_placed : (f : ℕ → Place Q) (i : ℕ) (x : Place Q) → IsPlaced x → ((j : ℕ) → IsPlaced (f j)) → (j : ℕ) → IsPlaced (put f i x j)
  put_placed f i x new old = put_one (λ j y. IsPlaced y) f i x (λ j. (λ e. new, old j))

  queued_placed : (s port k : ℕ) (o : Option Q) → s < net.switches → ((q : Q) → o ≡ Some q → IsQueued s q) → IsPlaced (queued_or_over s port k o)
  queued_placed s port k None h is = tt
  queued_placed s port k (Some q) h is = (h, is q refl)

  module _ (limits : Limits) (i : ℕ) where
    lost_agrees : (b : Bool) (a goes : Net S Q C) (f : ℕ → S) → Holds a f → Holds goes f → Agrees (lost_if b a i goes) (lost_if b (keeping a f) i (keeping goes f))
    lost_agrees true a goes f now next = agrees (lost_if true a i goes) f (record { same = now.same; kept = now.kept; places = put_placed a.packets i Over tt now.places })
    lost_agrees false a goes f now next = agrees goes f next

    moved : (a : Net S Q C) (f : ℕ → S) (x : Place Q) → Holds a f → IsPlaced x → Holds (record a { packets = put a.packets i x }) f
    moved a f x now is = record { same = now.same; kept = now.kept; places = put_placed a.packets i x is now.places }

    sent_agrees : (a : Net S Q C) (f : ℕ → S) (s k : ℕ) (g : Going) (o : Option (ℕ × ℕ)) (half : ℕ) → Holds a f → ((far : ℕ × ℕ) → o ≡ Some far → far.0 < net.switches) → Agrees (sent net limits a i s k g o half) (sent net limits (keeping a f) i s k g o half)
    sent_agrees a f s k g None half now far = lost_agrees (nat_lt longest_frame (length g.frame)) a _ f now (record { same = now.same; kept = now.kept; places = put_placed a.packets i Over tt now.places })
    sent_agrees a f s k g (Some x) half now far = lost_agrees (nat_le limits.hops (k + 1) || nat_lt limits.link (length g.frame)) a _ f now (record { same = now.same; kept = now.kept; places = put_placed a.packets i (Flying x.0 x.1 g.frame (k + 1)) (far x refl) now.places })

    went_agrees : (a : Net S Q C) (f : ℕ → S) (s port k : ℕ) (o : Option Going) → Holds a f → Agrees (went net limits a i s port k o) (went net limits (keeping a f) i s port k o)
    went_agrees a f s port k None now = agrees _ f (record { same = now.same; kept = now.kept; places = put_placed a.packets i Over tt now.places })
    went_agrees a f s port k (Some g) now =
        sent_agrees (record a { log = _ }) f s k g (far_end net s g.port) (length a.log) (record { same = now.same; kept = now.kept; places = now.places })
        (λ far e. (far_end_is net is_wiring s g.port far e).known)

    enters_agrees : (a : Net S Q C) (f : ℕ → S) (x : Place Q) → Holds a f → IsPlaced x → Agrees (enters m net limits a i x) (enters n net limits (keeping a f) i x)
    enters_agrees a f (Waiting s port q k) now is = agrees a f now
    enters_agrees a f Over now is = agrees a f now
    enters_agrees a f (Flying s port frame k) now is =
        let e = m.enter s (a.switches s) port frame in
        let good = now.kept s is in
        let eq : n.enter s (f s) port frame ≡ e = ap (λ y. n.enter s y port frame) (now.same s is) ∙ moves.enters s port (a.switches s) frame is good in
        subst (λ e'. Agrees (entered net limits a i s port k e) (entered net limits (keeping a f) i s port k e')) (sym eq)
        (agrees (entered net limits a i s port k e) (put f s e.after)
        (record {
          same = put_same f a.switches s e.after now.same;
          kept = put_good a.switches s e.after (λ h. moves.enters_good s port (a.switches s) frame is good) now.kept;
          places = put_placed a.packets i (queued_or_over s port k e.queued) (queued_placed s port k e.queued is (λ q. moves.queues s port (a.switches s) frame q is good)) now.places;
        }))

    leaves_agrees : (a : Net S Q C) (f : ℕ → S) (x : Place Q) → Holds a f → IsPlaced x → Agrees (leaves m net limits a i x) (leaves n net limits (keeping a f) i x)
    leaves_agrees a f (Flying s port frame k) now is = agrees a f now
    leaves_agrees a f Over now is = agrees a f now
    leaves_agrees a f (Waiting s port q k) now is =
        let l = m.leave s (a.switches s) q in
        let good = now.kept s is.0 in
        let eq : n.leave s (f s) q ≡ l = ap (λ y. n.leave s y q) (now.same s is.0) ∙ moves.leaves s (a.switches s) q is.0 good is.1 in
        subst (λ l'. Agrees (left net limits a i s port k l) (left net limits (keeping a f) i s port k l')) (sym eq)
        (went_agrees (record a { switches = put a.switches s l.after; told = _ }) (put f s l.after) s port k l.going
        (record {
          same = put_same f a.switches s l.after now.same;
          kept = put_good a.switches s l.after (λ h. moves.leaves_good s (a.switches s) q is.0 good is.1) now.kept;
          places = now.places;
        }))

  -- new contents at a switch, or at a number that is no switch's
  set_same : (f g : ℕ → S) (s : ℕ) (u v : S) → (s < net.switches → u ≡ v) → ((j : ℕ) → j < net.switches → f j ≡ g j) → (j : ℕ) → j < net.switches → put f s u j ≡ put g s v j
  set_same f g s u v new old j h = go (nat_eq j s) (λ e. new (subst (λ k. k < net.switches) e h)) refl
    where
      go : (b : Bool) → (j ≡ s → u ≡ v) → nat_eq j s ≡ b → (if b then u else f j) ≡ (if b then v else g j)
      go true k e = k (eqb-true j s e)
      go false k e = old j h

  happens_agrees : (limits : Limits) (a : Net S Q C) (f : ℕ → S) (e : Event C) → Holds a f → IsFitEvent IsVariable IsFitContents e → Agrees (happens m net limits a e) (happens n net limits (keeping a f) e)
  happens_agrees limits a f (Enter i) now fits = enters_agrees limits i a f (a.packets i) now (now.places i)
  happens_agrees limits a f (Leave i) now fits = leaves_agrees limits i a f (a.packets i) now (now.places i)
  happens_agrees limits a f (Set s v c) now fits =
      agrees (happens m net limits a (Set s v c)) (put f s (n.set s (f s) v c))
      (record {
        same = set_same f a.switches s (n.set s (f s) v c) (m.set s (a.switches s) v c) (λ h. ap (λ y. n.set s y v c) (now.same s h) ∙ moves.sets s v (a.switches s) c h (now.kept s h) fits.0 fits.1) now.same;
        kept = put_good a.switches s (m.set s (a.switches s) v c) (λ h. moves.sets_good s v (a.switches s) c h (now.kept s h) fits.0 fits.1) now.kept;
        places = now.places;
      })

  run_agrees : (limits : Limits) (a b : Net S Q C) (es : List (Event C)) → Agrees a b → All (IsFitEvent IsVariable IsFitContents) es → Agrees (run_of_halves m net limits a es) (run_of_halves n net limits b es)
  run_agrees limits a b [] now fits = now
  run_agrees limits a b (e ∷ es) now fits =
      run_agrees limits (happens m net limits a e) (happens n net limits b e) es
      (subst (λ b. Agrees (happens m net limits a e) (happens n net limits b e)) (sym now.rest) (happens_agrees limits a now.after e now.holds (All-head (IsFitEvent IsVariable IsFitContents) e es fits)))
      (All-tail (IsFitEvent IsVariable IsFitContents) e es fits)

  module _ (w : World F C) (valid : IsValid net IsFitEntries IsVariable IsFitContents w) where
    first_placed : (o : Option Arrival) → ((x : Arrival) → o ≡ Some x → IsArrival net x) → IsPlaced (first_place o)
    first_placed None h = tt
    first_placed (Some x) h = (h x refl).switch

    start : Agrees (first_net m (with_entries entries w)) (first_net n w)
    start =
        agrees (first_net m (with_entries entries w)) (λ s. n.start s (w.entries s) (w.contents s))
        (record {
          same = λ s h. moves.starts s (w.entries s) (w.contents s) h (valid.entries s h) (λ v named. valid.contents s v h named);
          kept = λ s h. moves.starts_good s (w.entries s) (w.contents s) h (valid.entries s h) (λ v named. valid.contents s v h named);
          places = λ i. first_placed (slice_get w.packets i) (λ x e. at_place (IsArrival net) w.packets i x valid.packets e);
        })

    same_after : (telemetry k : ℕ) → SameNets net (net_after m net telemetry (with_entries entries w) k) (net_after n net telemetry w k)
    same_after telemetry k =
        let closes = closing w.hops 0 (length w.packets) in
        let all_fit : All (IsFitEvent IsVariable IsFitContents) (steps w) = All-append (IsFitEvent IsVariable IsFitContents) w.events closes valid.events (All-from_recursion (IsFitEvent IsVariable IsFitContents) closes (closing_fits IsVariable IsFitContents w.hops 0 (length w.packets))) in
        let now = run_agrees (limits_of w telemetry) (first_net m (with_entries entries w)) (first_net n w) (take k (steps w)) start (All-take (IsFitEvent IsVariable IsFitContents) k (steps w) all_fit) in
        record { kept = now.after; rest = now.rest; same = now.holds.same }

  -- each run of n is that of m
  pub same_runs : SameRuns net entries m n Good IsQueued IsFitEntries IsVariable IsFitContents
  same_runs w telemetry k valid = same_after w valid telemetry k

-- The induction over events: each event keeps the relation, so a list of events does, and what the
-- relation says of a moment is what a linkage asks for.
use Rattle.std.proofs.Common.{◌≡◌, ℕ, zero, suc, ◌+◌, ◌<◌, List, [], ◌∷◌, ◌++◌, length, take, Bool, true, false, Option, Some, None, refl, ap, sym, ◌∙◌, subst}
use Rattle.std.specs.List.{AllByRecursion}
use Rattle.std.specs.Prelude.{All, nat_lt, nat_le, ◌||◌, slice_get}
use Rattle.std.proofs.lemmas.List.Elements.{All-append, All-take, All-head, All-tail, All-from_recursion}
use Rattle.network_run.specs.Machine.{Going, Machine}
use Rattle.network_run.specs.Network.{Wiring, far_end, at_edge, IsWiring, Place, Flying, Waiting, Over, Half, Net}
use Rattle.network_run.specs.Events.{Event, Enter, Leave, Set, to_its_end, closing}
use Rattle.network_run.specs.NetworkRun.{Limits, longest_frame, put, told_by, entry_half, exit_half, lost_if, sent, went, left, enters, leaves, happens, run_of_halves}
use Rattle.network_run.specs.PathMeaning.{Property, Path, after_half, after_halves, first_path, path_meaning}
use Rattle.network_run.specs.World.{Arrival, World, IsArrival, IsFitEvent, IsValid, steps, first_place, first_net}
use Rattle.network_run.specs.RunLaws.{IsOver}
use Rattle.network_run.proofs.Numbers.{put_four}
use Rattle.network_run.proofs.Links.{far_end_is}
use Rattle.linkage.specs.Linkage.{Telemetry, RegisterReading, Linkage}
use Rattle.linkage.specs.HalvesLaws.{carried, LeaveAgrees, HalvesLaws}
use Rattle.linkage.proofs.Agree.{SamePlace, Agrees, plain_limits, linked_limits}
use Rattle.linkage.proofs.Keep.{keep_entered, keep_dropped, keep_sent}

path_more : {T Z C : Type 0} (p : Property T Z C) (w : Path T Z) (hs : List (Half C)) (h : Half C) → after_halves p w (hs ++ h ∷ []) ≡ after_half p (after_halves p w hs) h
path_more p w [] h = refl
path_more p w (x ∷ hs) h = path_more p (after_half p w x) hs h

lost_log : {S Q C : Type 0} (b : Bool) (w : Net S Q C) (i : ℕ) (goes : Net S Q C) → goes.log ≡ w.log → (lost_if b w i goes).log ≡ w.log
lost_log true w i goes e = refl
lost_log false w i goes e = e

-- sending a frame does not change the log
sent_log : {S Q C : Type 0} (net : Wiring) (limits : Limits) (w : Net S Q C) (i s n : ℕ) (g : Going) (o : Option (ℕ × ℕ)) (half : ℕ) → (sent net limits w i s n g o half).log ≡ w.log
sent_log net limits w i s n g None half = lost_log (nat_lt longest_frame (length g.frame)) w i _ refl
sent_log net limits w i s n g (Some far) half = lost_log (nat_le limits.hops (n + 1) || nat_lt limits.link (length g.frame)) w i _ refl

-- the closing phase sets nothing
end_fits : {C : Type 0} (Var : ℕ → Type 0) (Fit : ℕ → ℕ → C → Type 0) (i n : ℕ) (es : List (Event C)) → AllByRecursion (IsFitEvent Var Fit) es → AllByRecursion (IsFitEvent Var Fit) (to_its_end i n ++ es)
end_fits Var Fit i zero es h = (tt, h)
end_fits Var Fit i (suc n) es h = (tt, (tt, end_fits Var Fit i n es h))

pub closing_fits : {C : Type 0} (Var : ℕ → Type 0) (Fit : ℕ → ℕ → C → Type 0) (hops i n : ℕ) → AllByRecursion (IsFitEvent Var Fit) (closing hops i n)
closing_fits Var Fit hops i zero = tt
closing_fits Var Fit hops i (suc n) = end_fits Var Fit i hops (closing hops (i + 1) n) (closing_fits Var Fit hops (i + 1) n)

-- a packet of a valid world is as the world says
pub at_place : {A : Type 0} (P : A → Type 0) (xs : List A) (i : ℕ) (x : A) → All P xs → slice_get xs i ≡ Some x → P x
at_place P [] i x h e = absurd (cc)
at_place P (y ∷ xs) zero x h e = let q : y ≡ x = (cc) in subst P q (All-head P y xs h)
at_place P (y ∷ xs) (suc i) x h e = at_place P xs i x (All-tail P y xs h) e

module _ {E S Q S' Q' C T Z N : Type 0} (net : Wiring) (p : Property T Z C) (telemetry : Telemetry T) (Kept : ℕ → S → Z → (ℕ → C) → ℕ → S' → Type 0) (Held : ℕ → Bool → Q → T → Q' → Type 0) (Fit : T → Type 0) (m : Machine E S Q C) (m' : Machine E S' Q' C) (registers : RegisterReading S S' Z N) (IsFitEntries : ℕ → E → Type 0) (IsVariable : ℕ → Type 0) (IsFitContents : ℕ → ℕ → C → Type 0) (is_wiring : IsWiring net) (laws : HalvesLaws net p telemetry Kept Held Fit m m' registers IsFitEntries IsVariable IsFitContents) where
  module _ (hops : ℕ) where
    -- the limits of the two networks
    abbrev plain : Limits
    plain = plain_limits hops

    abbrev linked : Limits
    linked = linked_limits hops telemetry.size

    -- the two networks at a moment, with the path meaning of the forwarding network's log
    pub record Holds (a : Net S Q C) (b : Net S' Q' C) : Type 0 where
      pub agrees : Agrees net p telemetry Kept Held Fit a b (path_meaning p a.log)

    -- the same, where the log has one more half
    on : (a : Net S Q C) (b : Net S' Q' C) (log : List (Half C)) (h : Half C) → a.log ≡ log ++ h ∷ [] → Agrees net p telemetry Kept Held Fit a b (after_half p (path_meaning p log) h) → Holds a b
    on a b log h e agrees =
        record { agrees = subst (λ w. Agrees net p telemetry Kept Held Fit a b w) (sym (path_more p (first_path p) log h) ∙ ap (λ l. path_meaning p l) (sym e)) agrees }

    keep_enters : (a : Net S Q C) (b : Net S' Q' C) (i : ℕ) → Holds a b → (x : Place Q) (y : Place Q') → a.packets i ≡ x → SamePlace net p telemetry Kept Held Fit ((path_meaning p a.log).tele i) ((path_meaning p a.log).verdicts i) x y → Holds (enters m net plain a i x) (enters m' net linked b i y)
    keep_enters a b i now (Flying s port f n) (Flying s' port' f' n') e r =
        let w = path_meaning p a.log in
        let G : ℕ → ℕ → List ℕ → ℕ → Type 0 = λ s' port' f' n'. Holds (enters m net plain a i (Flying s port f n)) (enters m' net linked b i (Flying s' port' f' n')) in
        let law = laws.enters s port (w.rejected_at s) (a.switches s) (b.switches s) (w.sensors s) (a.contents s) (w.tele i) f r.known r.low (now.agrees.switches s r.known) r.fit r.fresh r.short in
        let moves : IsOver (a.packets i) → ⊥ = λ o. subst IsOver e o in
        let carries : List ℕ = carried telemetry (at_edge net s port) (w.tele i) f in
        let here : G s port carries n =
        on (enters m net plain a i (Flying s port f n)) (enters m' net linked b i (Flying s port carries n)) a.log (entry_half net i s port (m.enter s (a.switches s) port f).view (a.contents s)) refl
        (keep_entered net p telemetry Kept Held Fit hops a b w i s port n now.agrees moves r.unheard r.known telemetry.size (m.enter s (a.switches s) port f) (m'.enter s (b.switches s) port carries) _ law) in
        rw (r.switch, r.by, r.frame, r.passed) here
    keep_enters a b i now (Waiting s port q n) (Waiting s' port' q' n') e r = now
    keep_enters a b i now Over Over e r = now
    keep_enters a b i now (Flying s port f n) (Waiting s' port' q' n') e r = absurd r
    keep_enters a b i now (Flying s port f n) Over e r = absurd r
    keep_enters a b i now (Waiting s port q n) (Flying s' port' f' n') e r = absurd r
    keep_enters a b i now (Waiting s port q n) Over e r = absurd r
    keep_enters a b i now Over (Flying s' port' f' n') e r = absurd r
    keep_enters a b i now Over (Waiting s' port' q' n') e r = absurd r

    keep_went : (a : Net S Q C) (b : Net S' Q' C) (i s port n : ℕ) (q : Q) (q' : Q') → Holds a b → (IsOver (a.packets i) → ⊥) → (path_meaning p a.log).verdicts i ≡ None → s < net.switches → (o : Option Going) → LeaveAgrees net p telemetry Kept Held Fit s (at_edge net s port) (a.contents s) ((path_meaning p a.log).rejected_at s) ((path_meaning p a.log).sensors s) ((path_meaning p a.log).tele i) (m.leave s (a.switches s) q) (m'.leave s (b.switches s) q') o → Holds (went net plain (record a { switches = put a.switches s (m.leave s (a.switches s) q).after; told = a.told ++ told_by i s (m.leave s (a.switches s) q).digests }) i s port n o) (left net linked b i s port n (m'.leave s (b.switches s) q'))
    keep_went a b i s port n q q' now moves unheard known None law =
        record { agrees = keep_dropped net p telemetry Kept Held Fit hops a b (path_meaning p a.log) i s port n now.agrees moves unheard known telemetry.size (m.leave s (a.switches s) q) (m'.leave s (b.switches s) q') law }
    keep_went a b i s port n q q' now moves unheard known (Some g) law =
        on _ (left net linked b i s port n (m'.leave s (b.switches s) q')) a.log (exit_half net i s port g.port g.view (a.contents s))
        (sent_log net plain (record a { switches = put a.switches s (m.leave s (a.switches s) q).after; told = a.told ++ told_by i s (m.leave s (a.switches s) q).digests; log = a.log ++ exit_half net i s port g.port g.view (a.contents s) ∷ [] }) i s n g (far_end net s g.port) (length a.log))
        (keep_sent net p telemetry Kept Held Fit hops a b (path_meaning p a.log) i s port n now.agrees moves unheard known g (m.leave s (a.switches s) q) (m'.leave s (b.switches s) q') telemetry.size laws.sized (far_end_is net is_wiring s g.port) (far_end net s g.port) refl (at_edge net s g.port) refl law)

    keep_leaves : (a : Net S Q C) (b : Net S' Q' C) (i : ℕ) → Holds a b → (x : Place Q) (y : Place Q') → a.packets i ≡ x → SamePlace net p telemetry Kept Held Fit ((path_meaning p a.log).tele i) ((path_meaning p a.log).verdicts i) x y → Holds (leaves m net plain a i x) (leaves m' net linked b i y)
    keep_leaves a b i now (Waiting s port q n) (Waiting s' port' q' n') e r =
        let w = path_meaning p a.log in
        let moves : IsOver (a.packets i) → ⊥ = λ o. subst IsOver e o in
        rw (r.switch, r.by, r.passed)
        (keep_went a b i s port n q q' now moves r.unheard r.known (m.leave s (a.switches s) q).going (laws.leaves s (w.rejected_at s) (at_edge net s port) (a.switches s) (b.switches s) (w.sensors s) (a.contents s) (w.tele i) q q' r.known (now.agrees.switches s r.known) r.held))
    keep_leaves a b i now (Flying s port f n) (Flying s' port' f' n') e r = now
    keep_leaves a b i now Over Over e r = now
    keep_leaves a b i now (Flying s port f n) (Waiting s' port' q' n') e r = absurd r
    keep_leaves a b i now (Flying s port f n) Over e r = absurd r
    keep_leaves a b i now (Waiting s port q n) (Flying s' port' f' n') e r = absurd r
    keep_leaves a b i now (Waiting s port q n) Over e r = absurd r
    keep_leaves a b i now Over (Flying s' port' f' n') e r = absurd r
    keep_leaves a b i now Over (Waiting s' port' q' n') e r = absurd r

    keep_set : (a : Net S Q C) (b : Net S' Q' C) (s v : ℕ) (c : C) → Holds a b → IsVariable v → IsFitContents s v c → Holds (happens m net plain a (Set s v c)) (happens m' net linked b (Set s v c))
    keep_set a b s v c now named fits =
        let w = path_meaning p a.log in
        let before = now.agrees in
        record {
          agrees =
              record {
                switches =
                    put_four (λ j x c' y y'. j < net.switches → Kept j x (w.sensors j) c' (w.rejected_at j) y) a.switches a.contents b.switches b.switches s (m.set s (a.switches s) v c) (put (a.contents s) v c) (m'.set s (b.switches s) v c) (m'.set s (b.switches s) v c)
                    (λ j e h. let here : s < net.switches = subst (λ x. x < net.switches) e h in rw e (laws.sets s v (w.rejected_at s) (a.switches s) (b.switches s) (w.sensors s) (a.contents s) c here (before.switches s here) named fits))
                    before.switches;
                places = before.places;
                shows =
                    record {
                      wires = before.shows.wires;
                      edges = before.shows.edges;
                      reports = before.shows.reports;
                      digests = before.shows.digests;
                      counts = record { dropped = before.shows.counts.dropped; lost = before.shows.counts.lost };
                    };
                trail = before.trail;
                wires_below = before.wires_below;
                edges_over = before.edges_over;
                lost_over = before.lost_over;
              };
        }

    keep_happens : (a : Net S Q C) (b : Net S' Q' C) (e : Event C) → Holds a b → IsFitEvent IsVariable IsFitContents e → Holds (happens m net plain a e) (happens m' net linked b e)
    keep_happens a b (Enter i) now fits = keep_enters a b i now (a.packets i) (b.packets i) refl (now.agrees.places i)
    keep_happens a b (Leave i) now fits = keep_leaves a b i now (a.packets i) (b.packets i) refl (now.agrees.places i)
    keep_happens a b (Set s v c) now fits = keep_set a b s v c now fits.0 fits.1

    -- a list of events keeps it
    pub keep_run : (a : Net S Q C) (b : Net S' Q' C) (es : List (Event C)) → Holds a b → All (IsFitEvent IsVariable IsFitContents) es → Holds (run_of_halves m net plain a es) (run_of_halves m' net linked b es)
    keep_run a b [] now fits = now
    keep_run a b (e ∷ es) now fits =
        keep_run (happens m net plain a e) (happens m' net linked b e) es (keep_happens a b e now (All-head (IsFitEvent IsVariable IsFitContents) e es fits)) (All-tail (IsFitEvent IsVariable IsFitContents) e es fits)

  module _ (w : World E C) (valid : IsValid net IsFitEntries IsVariable IsFitContents w) where
    first_same : (o : Option Arrival) → ((x : Arrival) → o ≡ Some x → IsArrival net x) → SamePlace net p telemetry Kept Held Fit p.tele None (first_place o) (first_place o)
    first_same None h = tt
    first_same (Some x) h =
        let arrives = h x refl in
        record { known = arrives.switch; low = arrives.port; fit = laws.start_fits; switch = refl; by = refl; frame = rw arrives.edge; passed = refl; fresh = λ e. refl; short = arrives.short; unheard = refl }

    -- the two networks at the start
    start : Holds w.hops (first_net m w) (first_net m' w)
    start =
        record {
          agrees =
              record {
                switches = λ s h. laws.starts s (w.entries s) (w.contents s) h (valid.entries s h) (λ v named. valid.contents s v h named);
                places = λ i. first_same (slice_get w.packets i) (λ x e. at_place (IsArrival net) w.packets i x valid.packets e);
                shows = record { wires = refl; edges = refl; reports = refl; digests = refl; counts = record { dropped = λ i. refl; lost = refl } };
                trail = refl;
                wires_below = tt;
                edges_over = tt;
                lost_over = tt;
              };
        }

    -- the two networks after n steps
    after : (n : ℕ) → Holds w.hops (run_of_halves m net (plain_limits w.hops) (first_net m w) (take n (steps w))) (run_of_halves m' net (linked_limits w.hops telemetry.size) (first_net m' w) (take n (steps w)))
    after n =
        let closes = closing w.hops 0 (length w.packets) in
        let all_fit : All (IsFitEvent IsVariable IsFitContents) (steps w) = All-append (IsFitEvent IsVariable IsFitContents) w.events closes valid.events (All-from_recursion (IsFitEvent IsVariable IsFitContents) closes (closing_fits IsVariable IsFitContents w.hops 0 (length w.packets))) in
        keep_run w.hops (first_net m w) (first_net m' w) (take n (steps w)) start (All-take (IsFitEvent IsVariable IsFitContents) n (steps w) all_fit)

  -- the linked programs are a linkage
  pub linkage : Linkage m m' net p telemetry registers IsFitEntries IsVariable IsFitContents
  linkage =
      record {
        forwarding_registers = λ w valid n s h. laws.forwards s _ _ _ _ _ h ((after w valid n).agrees.switches s h);
        monitor_registers = λ w valid n s h. laws.monitors s _ _ _ _ _ h ((after w valid n).agrees.switches s h);
        link_frames = λ w valid n. (after w valid n).agrees.shows.wires;
        edge_frames = λ w valid n. (after w valid n).agrees.shows.edges;
        reports = λ w valid n. (after w valid n).agrees.shows.reports;
        digests = λ w valid n. (after w valid n).agrees.shows.digests;
        counts = λ w valid n. (after w valid n).agrees.shows.counts;
      }

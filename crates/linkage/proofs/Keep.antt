-- Each half keeps the relation between the two networks.
use Rattle.std.proofs.Common.{◌≡◌, ℕ, ◌+◌, ◌<◌, ◌≤◌, List, [], ◌∷◌, ◌++◌, length, map, Bool, true, false, not, Option, Some, None, refl, ap, sym, ◌∙◌, subst, arith, length-append, add-zero}
use Rattle.std.specs.List.{filter, AllByRecursion}
use Rattle.std.specs.Prelude.{if◌then◌else◌, nat_lt, nat_le, ◌||◌, is_none, slice_index_or}
use Rattle.std.proofs.lemmas.List.{map-append, append-nil, get_or_push}
use Rattle.std.proofs.Math.ListN.{get_or-append}
use Rattle.network_run.specs.Machine.{Entered, Going, Leaving}
use Rattle.network_run.specs.Network.{Wiring, far_end, at_edge, Flying, Over, Sent, Wired, Half, Net, one_if}
use Rattle.network_run.specs.NetworkRun.{longest_frame, put, told_by, queued_or_over, dropped_if_none, entry_half, lost_if, entered, sent, went, left}
use Rattle.network_run.specs.PathMeaning.{Property, Doing, Path, exit_part, follows, is_rejected}
use Rattle.network_run.specs.RunLaws.{IsOver}
use Rattle.network_run.proofs.Numbers.{put_self, put_four}
use Rattle.network_run.proofs.Links.{FarEnd}
use Rattle.linkage.specs.Linkage.{Telemetry}
use Rattle.linkage.specs.HalvesLaws.{SameDigests, SameQueued, SameGoing, EnterAgrees, DropAgrees, GoAgrees}
use Rattle.linkage.proofs.Lists.{map_same, all_and, all_one_more, times_both}
use Rattle.linkage.proofs.Moment.{told_reports, told_others, not_both, limit_same, within, times_rejected, times_accepted, all_over, all_over_more, passed_same, passed_more}
use Rattle.linkage.proofs.Agree.{SamePlace, Agrees, plain_limits, linked_limits}

module _ {S Q S' Q' C T Z : Type 0} (net : Wiring) (p : Property T Z C) (telemetry : Telemetry T) (Kept : ℕ → S → Z → (ℕ → C) → ℕ → S' → Type 0) (Held : ℕ → Bool → Q → T → Q' → Type 0) (Fit : T → Type 0) (hops : ℕ) where
  -- packet i, which came to switch s by this port after n switches, and which is not over
  module _ (a : Net S Q C) (b : Net S' Q' C) (w : Path T Z) (i s port n : ℕ) (now : Agrees net p telemetry Kept Held Fit a b w) (moves : IsOver (a.packets i) → ⊥) (unheard : w.verdicts i ≡ None) (known : s < net.switches) where
    -- the frame on a link behind the telemetry that a trail has
    abbrev pub behind : List T → Wired → Sent
    behind trail x = record x.sent { frame = telemetry.bytes (slice_index_or trail x.half p.tele) ++ x.sent.frame }

    -- a longer trail changes nothing for the frames so far
    wires_kept : (t : T) → map (λ x. x.sent) b.wires ≡ map (behind (w.trail ++ t ∷ [])) a.wires
    wires_kept t =
        now.shows.wires ∙
        map_same (behind w.trail) (behind (w.trail ++ t ∷ [])) a.wires
        (all_and (λ x. x.half < length w.trail) (λ x. behind w.trail x ≡ behind (w.trail ++ t ∷ []) x) a.wires
        (λ x h. ap (λ u. record x.sent { frame = telemetry.bytes u ++ x.sent.frame }) (sym (get_or-append w.trail (t ∷ []) p.tele x.half h)))
        now.wires_below)

    below_kept : (t : T) → AllByRecursion (λ x. x.half < length (w.trail ++ t ∷ [])) a.wires
    below_kept t = all_and (λ x. x.half < length w.trail) (λ x. x.half < length (w.trail ++ t ∷ [])) a.wires (λ x h. omega (arith, length-append w.trail (t ∷ []))) now.wires_below

    trail_kept : (t : T) (h : Half C) → length (w.trail ++ t ∷ []) ≡ length (a.log ++ h ∷ [])
    trail_kept t h = let e = now.trail in omega (arith, length-append w.trail (t ∷ []), length-append a.log (h ∷ []))

    -- a queued packet waits in both, and a dropped one is over in both
    queued_places : (o : Option Q) (o' : Option Q') (t : T) → SameQueued (λ q q'. Held s (at_edge net s port) q t q') o o' → SamePlace net p telemetry Kept Held Fit t (w.verdicts i) (queued_or_over s port n o) (queued_or_over s port n o')
    queued_places None None t q = tt
    queued_places None (Some q') t q = absurd q
    queued_places (Some q) None t r = absurd r
    queued_places (Some q) (Some q') t r = record { known = known; switch = refl; by = refl; held = r; passed = refl; unheard = unheard }

    same_dropped : (o : Option Q) (o' : Option Q') (t : T) → SameQueued (λ q q'. Held s (at_edge net s port) q t q') o o' → dropped_if_none i o' ≡ dropped_if_none i o
    same_dropped None None t q = refl
    same_dropped None (Some q') t q = absurd q
    same_dropped (Some q) None t r = absurd r
    same_dropped (Some q) (Some q') t r = refl

    -- after the entry half of both
    pub keep_entered : (size : ℕ) (e : Entered S Q) (e' : Entered S' Q') (d : Doing T Z) → EnterAgrees net p telemetry Kept Held Fit s (at_edge net s port) (a.contents s) (w.rejected_at s) d e e' → Agrees net p telemetry Kept Held Fit (entered net (plain_limits hops) a i s port n e) (entered net (linked_limits hops size) b i s port n e') (follows p w (entry_half net i s port e.view (a.contents s)) d)
    keep_entered size e e' d law =
        record {
          switches =
              put_four (λ j x z k y. j < net.switches → Kept j x z (a.contents j) k y) a.switches w.sensors w.rejected_at b.switches s e.after d.sensors (w.rejected_at s + 0) e'.after
              (λ j q h. rw (add-zero, q) law.kept)
              now.switches;
          places =
              put_four (λ j t v x y. SamePlace net p telemetry Kept Held Fit t v x y) w.tele w.verdicts a.packets b.packets i d.tele (w.verdicts i) (queued_or_over s port n e.queued) (queued_or_over s port n e'.queued)
              (λ j q. queued_places e.queued e'.queued d.tele law.queued)
              now.places;
          shows =
              record {
                wires = wires_kept d.tele;
                edges = now.shows.edges ∙ sym (passed_same a.packets w.verdicts i moves (λ x. x.packet) (w.verdicts i) a.edges now.edges_over);
                reports = told_reports i s b.told w.reports e.digests e'.digests d.reports law.digests now.shows.reports;
                digests = told_others i s b.told a.told e.digests e'.digests d.reports law.digests now.shows.digests;
                counts =
                    record {
                      dropped = λ j. rw (same_dropped e.queued e'.queued d.tele law.queued, put_self w.verdicts i j) (times_both j (one_if (is_rejected (w.verdicts j))) a.dropped b.dropped (dropped_if_none i e.queued) (now.shows.counts.dropped j));
                      lost = now.shows.counts.lost ∙ sym (passed_same a.packets w.verdicts i moves (λ x. x) (w.verdicts i) a.lost now.lost_over);
                    };
              };
          trail = trail_kept d.tele (entry_half net i s port e.view (a.contents s));
          wires_below = below_kept d.tele;
          edges_over = all_over a.packets w.verdicts i moves (λ x. x.packet) (queued_or_over s port n e.queued) a.edges now.edges_over;
          lost_over = all_over a.packets w.verdicts i moves (λ x. x) (queued_or_over s port n e.queued) a.lost now.lost_over;
        }

    -- what the switches keep after an exit half
    kept_switches : (x : S) (y : S') (z : Z) (k : ℕ) → Kept s x z (a.contents s) k y → (j : ℕ) → j < net.switches → Kept j (put a.switches s x j) (put w.sensors s z j) (a.contents j) (put w.rejected_at s k j) (put b.switches s y j)
    kept_switches x y z k law =
        put_four (λ j x z k y. j < net.switches → Kept j x z (a.contents j) k y) a.switches w.sensors w.rejected_at b.switches s x z k y (λ j q h. rw q law) now.switches

    -- the packet is over in both
    both_over : (t : T) (v : Option Bool) (j : ℕ) → SamePlace net p telemetry Kept Held Fit (put w.tele i t j) (put w.verdicts i v j) (put a.packets i Over j) (put b.packets i Over j)
    both_over t v =
        put_four (λ j t v x y. SamePlace net p telemetry Kept Held Fit t v x y) w.tele w.verdicts a.packets b.packets i t v Over Over (λ j q. tt) now.places

    -- the forwarding program drops the packet
    pub keep_dropped : (size : ℕ) (l : Leaving S) (l' : Leaving S') → DropAgrees net p telemetry Kept Held Fit s (a.contents s) (w.rejected_at s) (w.sensors s) l l' → Agrees net p telemetry Kept Held Fit (went net (plain_limits hops) (record a { switches = put a.switches s l.after; told = a.told ++ told_by i s l.digests }) i s port n None) (left net (linked_limits hops size) b i s port n l') w
    keep_dropped size l l' law =
        rw law.going
        (record {
          switches = λ j h. rw (put_self w.sensors s j, put_self w.rejected_at s j) at (kept_switches l.after l'.after (w.sensors s) (w.rejected_at s) law.kept j h);
          places = λ j. rw (put_self w.tele i j, put_self w.verdicts i j) at (both_over (w.tele i) (w.verdicts i) j);
          shows =
              record {
                wires = now.shows.wires;
                edges = now.shows.edges;
                reports = told_reports i s b.told w.reports l.digests l'.digests [] law.digests now.shows.reports ∙ rw (append-nil w.reports);
                digests = told_others i s b.told a.told l.digests l'.digests [] law.digests now.shows.digests;
                counts =
                    record {
                      dropped = λ j. times_both j (one_if (is_rejected (w.verdicts j))) a.dropped b.dropped (i ∷ []) (now.shows.counts.dropped j);
                      lost = now.shows.counts.lost;
                    };
              };
          trail = now.trail;
          wires_below = now.wires_below;
          edges_over = all_over a.packets w.verdicts i moves (λ x. x.packet) Over a.edges now.edges_over;
          lost_over = all_over a.packets w.verdicts i moves (λ x. x) Over a.lost now.lost_over;
        })

    -- the forwarding program sends the packet on
    module _ (g : Going) (l : Leaving S) (l' : Leaving S') where
      abbrev pub half_to : (last : Bool) → Half C
      half_to last = record { is_exit = true; packet = i; switch = s; first = at_edge net s port; last = last; view = g.view; contents = a.contents s }

      abbrev pub part : (last : Bool) → Doing T Z
      part last = exit_part p (record { switch = s; first = at_edge net s port; last = last; view = g.view; contents = a.contents s }) (w.tele i) (w.sensors s)

      abbrev pub sent_by : Sent
      sent_by = record { packet = i; switch = s; port = g.port; frame = g.frame }

      -- the plain network before the frame is sent, and the linked one
      abbrev pub plain_now : (last : Bool) → Net S Q C
      plain_now last = record a { switches = put a.switches s l.after; told = a.told ++ told_by i s l.digests; log = a.log ++ half_to last ∷ [] }

      abbrev pub linked_now : List (Half C) → Net S' Q' C
      linked_now log = record b { switches = put b.switches s l'.after; told = b.told ++ told_by i s l'.digests; log = log }

      -- both after a frame went out by an edge port
      abbrev plain_out : (big : Bool) → Net S Q C
      plain_out big = lost_if big (plain_now true) i (record (plain_now true) { packets = put a.packets i Over; edges = a.edges ++ sent_by ∷ [] })

      abbrev linked_out : (big rejected : Bool) → List (Half C) → Net S' Q' C
      linked_out big rejected log =
          if rejected
          then record (linked_now log) { packets = put b.packets i Over; dropped = b.dropped ++ i ∷ [] }
          else lost_if big (linked_now log) i (record (linked_now log) { packets = put b.packets i Over; edges = b.edges ++ sent_by ∷ [] })

      -- the edge frames of both, where the packet is rejected, and where it is not
      edges_same : (v : Option Bool) → b.edges ≡ filter (λ x. not (is_rejected (put w.verdicts i v x.packet))) a.edges
      edges_same v = now.shows.edges ∙ sym (passed_same a.packets w.verdicts i moves (λ x. x.packet) v a.edges now.edges_over)

      lost_same : (v : Option Bool) → b.lost ≡ filter (λ j. not (is_rejected (put w.verdicts i v j))) a.lost
      lost_same v = now.shows.counts.lost ∙ sym (passed_same a.packets w.verdicts i moves (λ x. x) v a.lost now.lost_over)

      keep_edge : (d : Doing T Z) (big rejected : Bool) (log : List (Half C)) → d.rejected ≡ rejected → Kept s l.after d.sensors (a.contents s) (w.rejected_at s + one_if d.rejected) l'.after → SameDigests l.digests l'.digests d.reports → Agrees net p telemetry Kept Held Fit (plain_out big) (linked_out big rejected log) (follows p w (half_to true) d)
      keep_edge d true true log e kept digests =
          record {
            switches = kept_switches l.after l'.after d.sensors (w.rejected_at s + one_if d.rejected) kept;
            places = both_over d.tele (Some d.rejected);
            shows =
                record {
                  wires = wires_kept d.tele;
                  edges = edges_same (Some d.rejected);
                  reports = told_reports i s b.told w.reports l.digests l'.digests d.reports digests now.shows.reports;
                  digests = told_others i s b.told a.told l.digests l'.digests d.reports digests now.shows.digests;
                  counts =
                      record {
                        dropped = λ j. rw e (times_rejected w.verdicts i j a.dropped b.dropped unheard (now.shows.counts.dropped j));
                        lost = now.shows.counts.lost ∙ sym (passed_more a.packets w.verdicts i moves (λ x. x) (Some d.rejected) a.lost i refl now.lost_over ∙ rw (e, append-nil (filter (λ x. not (is_rejected (w.verdicts x))) a.lost)));
                      };
                };
            trail = trail_kept d.tele (half_to true);
            wires_below = below_kept d.tele;
            edges_over = all_over a.packets w.verdicts i moves (λ x. x.packet) Over a.edges now.edges_over;
            lost_over = all_over_more a.packets w.verdicts i moves (λ x. x) a.lost i refl now.lost_over;
          }
      keep_edge d true false log e kept digests =
          record {
            switches = kept_switches l.after l'.after d.sensors (w.rejected_at s + one_if d.rejected) kept;
            places = both_over d.tele (Some d.rejected);
            shows =
                record {
                  wires = wires_kept d.tele;
                  edges = edges_same (Some d.rejected);
                  reports = told_reports i s b.told w.reports l.digests l'.digests d.reports digests now.shows.reports;
                  digests = told_others i s b.told a.told l.digests l'.digests d.reports digests now.shows.digests;
                  counts =
                      record {
                        dropped = λ j. rw e (times_accepted w.verdicts i j a.dropped b.dropped unheard (now.shows.counts.dropped j));
                        lost = ap (λ xs. xs ++ i ∷ []) now.shows.counts.lost ∙ sym (passed_more a.packets w.verdicts i moves (λ x. x) (Some d.rejected) a.lost i refl now.lost_over ∙ rw e);
                      };
                };
            trail = trail_kept d.tele (half_to true);
            wires_below = below_kept d.tele;
            edges_over = all_over a.packets w.verdicts i moves (λ x. x.packet) Over a.edges now.edges_over;
            lost_over = all_over_more a.packets w.verdicts i moves (λ x. x) a.lost i refl now.lost_over;
          }
      keep_edge d false true log e kept digests =
          record {
            switches = kept_switches l.after l'.after d.sensors (w.rejected_at s + one_if d.rejected) kept;
            places = both_over d.tele (Some d.rejected);
            shows =
                record {
                  wires = wires_kept d.tele;
                  edges = now.shows.edges ∙ sym (passed_more a.packets w.verdicts i moves (λ x. x.packet) (Some d.rejected) a.edges sent_by refl now.edges_over ∙ rw (e, append-nil (filter (λ x. not (is_rejected (w.verdicts x.packet))) a.edges)));
                  reports = told_reports i s b.told w.reports l.digests l'.digests d.reports digests now.shows.reports;
                  digests = told_others i s b.told a.told l.digests l'.digests d.reports digests now.shows.digests;
                  counts =
                      record {
                        dropped = λ j. rw e (times_rejected w.verdicts i j a.dropped b.dropped unheard (now.shows.counts.dropped j));
                        lost = lost_same (Some d.rejected);
                      };
                };
            trail = trail_kept d.tele (half_to true);
            wires_below = below_kept d.tele;
            edges_over = all_over_more a.packets w.verdicts i moves (λ x. x.packet) a.edges sent_by refl now.edges_over;
            lost_over = all_over a.packets w.verdicts i moves (λ x. x) Over a.lost now.lost_over;
          }
      keep_edge d false false log e kept digests =
          record {
            switches = kept_switches l.after l'.after d.sensors (w.rejected_at s + one_if d.rejected) kept;
            places = both_over d.tele (Some d.rejected);
            shows =
                record {
                  wires = wires_kept d.tele;
                  edges = ap (λ xs. xs ++ sent_by ∷ []) now.shows.edges ∙ sym (passed_more a.packets w.verdicts i moves (λ x. x.packet) (Some d.rejected) a.edges sent_by refl now.edges_over ∙ rw e);
                  reports = told_reports i s b.told w.reports l.digests l'.digests d.reports digests now.shows.reports;
                  digests = told_others i s b.told a.told l.digests l'.digests d.reports digests now.shows.digests;
                  counts =
                      record {
                        dropped = λ j. rw e (times_accepted w.verdicts i j a.dropped b.dropped unheard (now.shows.counts.dropped j));
                        lost = lost_same (Some d.rejected);
                      };
                };
            trail = trail_kept d.tele (half_to true);
            wires_below = below_kept d.tele;
            edges_over = all_over_more a.packets w.verdicts i moves (λ x. x.packet) a.edges sent_by refl now.edges_over;
            lost_over = all_over a.packets w.verdicts i moves (λ x. x) Over a.lost now.lost_over;
          }

      -- the frame behind the telemetry
      abbrev monitored_by : T → Sent
      monitored_by t = record sent_by { frame = telemetry.bytes t ++ g.frame }

      wires_more : (t : T) (nth : ℕ) → map (λ x. x.sent) (b.wires ++ record { half = nth; sent = monitored_by t } ∷ []) ≡ map (behind (w.trail ++ t ∷ [])) (a.wires ++ record { half = length a.log; sent = sent_by } ∷ [])
      wires_more t nth =
          let f : Wired → Sent = behind (w.trail ++ t ∷ []) in
          let last : slice_index_or (w.trail ++ t ∷ []) (length a.log) p.tele ≡ t = get_or_push w.trail t p.tele (length a.log) now.trail in
          map-append (λ x. x.sent) b.wires (record { half = nth; sent = monitored_by t } ∷ []) ∙
          (ap (λ xs. xs ++ monitored_by t ∷ []) (wires_kept t) ∙
          (ap (λ u. map f a.wires ++ record sent_by { frame = telemetry.bytes u ++ g.frame } ∷ []) (sym last) ∙
          sym (map-append f a.wires (record { half = length a.log; sent = sent_by } ∷ []))))

      -- both after a frame went onto a link
      abbrev plain_on : (gone : Bool) → ℕ × ℕ → Net S Q C
      plain_on gone far = lost_if gone (plain_now false) i (record (plain_now false) { packets = put a.packets i (Flying far.0 far.1 g.frame (n + 1)); wires = a.wires ++ record { half = length a.log; sent = sent_by } ∷ [] })

      abbrev linked_on : (gone : Bool) → ℕ × ℕ → T → ℕ → List (Half C) → Net S' Q' C
      linked_on gone far t nth log = lost_if gone (linked_now log) i (record (linked_now log) { packets = put b.packets i (Flying far.0 far.1 (telemetry.bytes t ++ g.frame) (n + 1)); wires = b.wires ++ record { half = nth; sent = monitored_by t } ∷ [] })

      keep_link : (d : Doing T Z) (gone : Bool) (far : ℕ × ℕ) (nth : ℕ) (log : List (Half C)) → d.rejected ≡ false → FarEnd net net.links far → Fit d.tele → (gone ≡ false → length g.frame ≤ longest_frame) → Kept s l.after d.sensors (a.contents s) (w.rejected_at s + one_if d.rejected) l'.after → SameDigests l.digests l'.digests d.reports → Agrees net p telemetry Kept Held Fit (plain_on gone far) (linked_on gone far d.tele nth log) (follows p w (half_to false) d)
      keep_link d true far nth log e ends fit short kept digests =
          record {
            switches = kept_switches l.after l'.after d.sensors (w.rejected_at s + one_if d.rejected) kept;
            places = both_over d.tele (w.verdicts i);
            shows =
                record {
                  wires = wires_kept d.tele;
                  edges = edges_same (w.verdicts i);
                  reports = told_reports i s b.told w.reports l.digests l'.digests d.reports digests now.shows.reports;
                  digests = told_others i s b.told a.told l.digests l'.digests d.reports digests now.shows.digests;
                  counts =
                      record {
                        dropped = λ j. rw (put_self w.verdicts i j) (now.shows.counts.dropped j);
                        lost = ap (λ xs. xs ++ i ∷ []) now.shows.counts.lost ∙ sym (passed_more a.packets w.verdicts i moves (λ x. x) (w.verdicts i) a.lost i refl now.lost_over ∙ rw unheard);
                      };
                };
            trail = trail_kept d.tele (half_to false);
            wires_below = below_kept d.tele;
            edges_over = all_over a.packets w.verdicts i moves (λ x. x.packet) Over a.edges now.edges_over;
            lost_over = all_over_more a.packets w.verdicts i moves (λ x. x) a.lost i refl now.lost_over;
          }
      keep_link d false far nth log e ends fit short kept digests =
          record {
            switches = kept_switches l.after l'.after d.sensors (w.rejected_at s + one_if d.rejected) kept;
            places =
                put_four (λ j t v x y. SamePlace net p telemetry Kept Held Fit t v x y) w.tele w.verdicts a.packets b.packets i d.tele (w.verdicts i) (Flying far.0 far.1 g.frame (n + 1)) (Flying far.0 far.1 (telemetry.bytes d.tele ++ g.frame) (n + 1))
                (λ j q. record { known = ends.known; low = ends.low; fit = fit; switch = refl; by = refl; frame = rw ends.linked; passed = refl; fresh = λ c. absurd (not_both (at_edge net far.0 far.1) c ends.linked); short = short refl; unheard = unheard })
                now.places;
            shows =
                record {
                  wires = wires_more d.tele nth;
                  edges = edges_same (w.verdicts i);
                  reports = told_reports i s b.told w.reports l.digests l'.digests d.reports digests now.shows.reports;
                  digests = told_others i s b.told a.told l.digests l'.digests d.reports digests now.shows.digests;
                  counts =
                      record {
                        dropped = λ j. rw (put_self w.verdicts i j) (now.shows.counts.dropped j);
                        lost = lost_same (w.verdicts i);
                      };
                };
            trail = trail_kept d.tele (half_to false);
            wires_below = all_one_more (λ x. x.half < length (w.trail ++ d.tele ∷ [])) a.wires (record { half = length a.log; sent = sent_by }) (below_kept d.tele) (let q = now.trail in omega (arith, length-append w.trail (d.tele ∷ [])));
            edges_over = all_over a.packets w.verdicts i moves (λ x. x.packet) (Flying far.0 far.1 g.frame (n + 1)) a.edges now.edges_over;
            lost_over = all_over a.packets w.verdicts i moves (λ x. x) (Flying far.0 far.1 g.frame (n + 1)) a.lost now.lost_over;
          }

      module _ (size : ℕ) where
        -- the forwarding program sends it to an edge port; the linked network too, or it drops it
        from_edge : GoAgrees net p telemetry Kept Held Fit s true (a.contents s) (w.rejected_at s) (part true) l g l' → far_end net s g.port ≡ None → (rejected : Bool) (going : Option Going) → (part true).rejected ≡ rejected → SameGoing telemetry true rejected (part true).tele g going → Agrees net p telemetry Kept Held Fit (sent net (plain_limits hops) (plain_now true) i s n g None (length a.log)) (went net (linked_limits hops size) (linked_now b.log) i s port n going) (follows p w (half_to true) (part true))
        from_edge law far true None e q = keep_edge (part true) (nat_lt longest_frame (length g.frame)) true b.log e law.kept law.digests
        from_edge law far true (Some g') e q = absurd q
        from_edge law far false None e q = absurd q
        from_edge law far false (Some g') e q = rw (q.0, q.1, far) (keep_edge (part true) (nat_lt longest_frame (length g.frame)) false _ e law.kept law.digests)

        -- both put it onto a link, or lose it
        from_link : ((t : T) → Fit t → length (telemetry.bytes t) ≡ size) → GoAgrees net p telemetry Kept Held Fit s false (a.contents s) (w.rejected_at s) (part false) l g l' → (far : ℕ × ℕ) → far_end net s g.port ≡ Some far → FarEnd net net.links far → (going : Option Going) → SameGoing telemetry false false (part false).tele g going → Agrees net p telemetry Kept Held Fit (sent net (plain_limits hops) (plain_now false) i s n g (Some far) (length a.log)) (went net (linked_limits hops size) (linked_now b.log) i s port n going) (follows p w (half_to false) (part false))
        from_link sized law far e ends None q = absurd q
        from_link sized law far e ends (Some g') q =
            rw (q.0, q.1, e, limit_same size (telemetry.bytes (part false).tele) g.frame (sized (part false).tele law.fit))
            (keep_link (part false) (nat_le hops (n + 1) || nat_lt longest_frame (length g.frame)) far (length b.log) _ refl ends law.fit (within (nat_le hops (n + 1)) (length g.frame)) law.kept law.digests)

        -- whichever way it goes
        pub keep_sent : ((t : T) → Fit t → length (telemetry.bytes t) ≡ size) → ((far : ℕ × ℕ) → far_end net s g.port ≡ Some far → FarEnd net net.links far) → (o : Option (ℕ × ℕ)) → far_end net s g.port ≡ o → (last : Bool) → last ≡ is_none o → GoAgrees net p telemetry Kept Held Fit s last (a.contents s) (w.rejected_at s) (part last) l g l' → Agrees net p telemetry Kept Held Fit (sent net (plain_limits hops) (plain_now last) i s n g o (length a.log)) (went net (linked_limits hops size) (linked_now b.log) i s port n l'.going) (follows p w (half_to last) (part last))
        keep_sent sized ends None e last c law =
            let P : Bool → Type 0 = λ last. GoAgrees net p telemetry Kept Held Fit s last (a.contents s) (w.rejected_at s) (part last) l g l' → Agrees net p telemetry Kept Held Fit (sent net (plain_limits hops) (plain_now last) i s n g None (length a.log)) (went net (linked_limits hops size) (linked_now b.log) i s port n l'.going) (follows p w (half_to last) (part last)) in
            let at : P true = λ law. from_edge law e (part true).rejected l'.going refl law.going in
            subst P (sym c) at law
        keep_sent sized ends (Some far) e last c law =
            let P : Bool → Type 0 = λ last. GoAgrees net p telemetry Kept Held Fit s last (a.contents s) (w.rejected_at s) (part last) l g l' → Agrees net p telemetry Kept Held Fit (sent net (plain_limits hops) (plain_now last) i s n g (Some far) (length a.log)) (went net (linked_limits hops size) (linked_now b.log) i s port n l'.going) (follows p w (half_to last) (part last)) in
            let at : P false = λ law. from_link sized law far e (ends far e) l'.going law.going in
            subst P (sym c) at law

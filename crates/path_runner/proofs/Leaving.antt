-- What a net shows after the exit half of a packet.
use Rattle.std.proofs.Common.{◌≡◌, ℕ, ◌+◌, ◌<◌, List, [], ◌∷◌, ◌++◌, length, map, get_or, set, true, Option, Some, None, refl, ap, sym, ◌∙◌, subst}
use Rattle.std.specs.Prelude.{slice_get}
use Rattle.std.specs.Option.{option_map}
use Rattle.p4_meaning.specs.Parts.{Parts, parts_of}
use Rattle.p4_meaning.specs.Pass as pass
use Rattle.p4_meaning.specs.Pass.{Kept, Queued, parts_leave}
use Rattle.p4_meaning.specs.Store.{Store}
use Rattle.indus_tree.specs.State.{Contents}
use Rattle.bit_values.specs.Bits.{Word}
use Rattle.p4_machine.specs.Buffers.{is_some_packet}
use Rattle.switch_machines.specs.Programs.{network_digest}
use Rattle.network_run.specs.Machine.{Leaving}
use Rattle.network_run.specs.Network.{Place, Waiting, Over, Net, Sent, Told, far_end, Half}
use Rattle.network_run.specs.Events.{Leave}
use Rattle.network_run.specs.NetworkRun.{queued_or_over, put, told_by, left, went, leaves, exit_half}
use Rattle.network_file.specs.Wiring.{wiring_of}
use Rattle.switch_machines.specs.Programs.{Programs, machine_with, leaving_of, going_of}
use Rattle.path_runner.specs.Nets.{Switch, kept_of, controls_of, State, Traffic, Shows, RunsTo}
use Rattle.path_runner.specs.Switches.{exit_at, with_cells}
use Rattle.path_runner.specs.Departures.{Departure, sent_departure, out_departure, left_departure}
use Rattle.path_runner.proofs.Shown.{switches_after, switch_is, state_is, moved, dropped_shows, sent_shows}

-- the machine's exit half of a switch
exit_is : (reads : Store → List Word) (program : Parts) (k : Kept) (x : Switch) (q : Queued) → program ≡ parts_of x.program → k ≡ kept_of x → leaving_of reads k.tables (parts_leave program k.tables k.registers q) ≡ leaving_of reads (kept_of x).tables (parts_leave (parts_of x.program) (kept_of x).tables x.cells q)
exit_is reads program k x q a b = rw (a, b) refl

-- the frame that is sent
sent_parts : (i j s t p q : ℕ) (f h : List ℕ) → i ≡ j → s ≡ t → p ≡ q → f ≡ h → record { packet = i; switch = s; port = p; frame = f } ≡ (let x : Sent = record { packet = j; switch = t; port = q; frame = h } in x)
sent_parts i j s t p q f h a b c d = rw (a, b, c, d) refl

sent_is : (i sw : ℕ) (v : Sent) (g : pass.Going) → v.packet ≡ i → v.switch ≡ sw → option_map {U = ℕ × List ℕ} (λ (g : pass.Going). (g.port, g.frame)) (Some g) ≡ Some (v.port, v.frame) → v ≡ record { packet = i; switch = sw; port = g.port; frame = g.frame }
sent_is i sw v g a b e =
    let pair : (let x : ℕ × List ℕ = (v.port, v.frame) in x) ≡ (g.port, g.frame) = (cc) in
    sent_parts v.packet i v.switch sw v.port g.port v.frame g.frame a b (ap (λ (x : ℕ × List ℕ). x.0) pair) (ap (λ (x : ℕ × List ℕ). x.1) pair)

module _ (s : State) (i sw : ℕ) (x : Switch) (q : Queued) where
  -- the digests are told, and the registers are as the half leaves them
  abbrev pub told_state : State
  told_state =
      record s {
        switches = set s.switches sw (with_cells x (exit_at x (Some q)).registers);
        traffic = record s.traffic { told = s.traffic.told ++ told_by i sw (map network_digest (exit_at x (Some q)).digests) };
      }

  module _ (p : Programs) (w : Net Kept Queued Contents) where
    abbrev gone : Leaving Kept
    gone = leaving_of p.reads (kept_of x).tables (parts_leave (parts_of x.program) (kept_of x).tables x.cells q)

    told_shows : slice_get s.switches sw ≡ Some x → Shows p s w → (log : List (Half Contents)) → Shows p told_state (record w { switches = put w.switches sw gone.after; told = w.told ++ told_by i sw gone.digests; log = log })
    told_shows unit h log =
        record {
          switches = switches_after p w.switches s.switches sw x (exit_at x (Some q)).registers unit h.switches;
          packets = h.packets;
          wires = h.wires;
          edges = h.edges;
          told = ap (λ (l : List Told). l ++ told_by i sw gone.digests) h.told;
          dropped = h.dropped;
          lost = h.lost;
        }

    -- what is shown of what the machine gives is shown after the event
    shown_after : (port n : ℕ) → get_or s.places i Over ≡ Waiting sw port q n → slice_get s.switches sw ≡ Some x → Shows p s w → (t : State) → Shows p t (left (wiring_of s.network) s.limits w i sw port n gone) → Shows p t (leaves (machine_with (controls_of s) p) (wiring_of s.network) s.limits w i (w.packets i))
    shown_after port n at unit h t shown =
        let same : (machine_with (controls_of s) p).leave sw (w.switches sw) q ≡ gone = exit_is p.reads (p.program sw) (w.switches sw) x q (h.switches.programs sw x unit) (h.switches.kept sw x unit) in
        subst (λ (place : Place Queued). Shows p t (leaves (machine_with (controls_of s) p) (wiring_of s.network) s.limits w i place)) (sym (h.packets i ∙ at))
        (subst (λ (l : Leaving Kept). Shows p t (left (wiring_of s.network) s.limits w i sw port n l)) (sym same) shown)

    module _ (port n : ℕ) (unit : slice_get s.switches sw ≡ Some x) (there : i < length s.places) (h : Shows p s w) where
      abbrev pub told_net : Net Kept Queued Contents
      told_net = record w { switches = put w.switches sw gone.after; told = w.told ++ told_by i sw gone.digests }

      dropped_of : (o : Option pass.Going) → option_map {U = ℕ × List ℕ} (λ (g : pass.Going). (g.port, g.frame)) o ≡ None → Shows p (moved p i told_state Over (record told_state.traffic { dropped = told_state.traffic.dropped + 1 })) (went (wiring_of s.network) s.limits told_net i sw port n (option_map (going_of p.reads) o))
      dropped_of None e = dropped_shows p i told_state told_net there (told_shows unit h w.log)
      dropped_of (Some g) e = absurd (cc)

      sent_of : (o : Option pass.Going) (v : Sent) (u : Departure) → v.packet ≡ i → v.switch ≡ sw → option_map {U = ℕ × List ℕ} (λ (g : pass.Going). (g.port, g.frame)) o ≡ Some (v.port, v.frame) → u ≡ sent_departure s.limits told_state.traffic n v (far_end (wiring_of s.network) v.switch v.port) → Shows p (moved p i told_state u.place u.traffic) (went (wiring_of s.network) s.limits told_net i sw port n (option_map (going_of p.reads) o))
      sent_of None v u a b e is = absurd (cc)
      sent_of (Some g) v u a b e is =
          let one = sent_is i sw v g a b e in
          sent_shows p i told_state _ there (told_shows unit h (w.log ++ exit_half (wiring_of s.network) i sw port g.port (p.reads g.exit_state) (w.contents sw) ∷ [])) sw n (going_of p.reads g) (far_end (wiring_of s.network) sw g.port) (length w.log) u
          (is ∙ ap (λ (z : Sent). sent_departure s.limits told_state.traffic n z (far_end (wiring_of s.network) z.switch z.port)) one)

  -- the packet is dropped
  pub dropped_after :
      (p : Programs) (w : Net Kept Queued Contents) (port n : ℕ) → i < length s.places → get_or s.places i Over ≡ Waiting sw port q n →
      slice_get s.switches sw ≡ Some x → (exit_at x (Some q)).out ≡ None → Shows p s w →
      Shows p (moved p i told_state Over (record told_state.traffic { dropped = told_state.traffic.dropped + 1 })) (leaves (machine_with (controls_of s) p) (wiring_of s.network) s.limits w i (w.packets i))
  dropped_after p w port n there at unit out h =
      shown_after p w port n at unit h _ (dropped_of p w port n unit there h (parts_leave (parts_of x.program) (kept_of x).tables x.cells q).going out)

  -- its frame is sent
  pub sent_after :
      (p : Programs) (w : Net Kept Queued Contents) (port n : ℕ) (v : Sent) (u : Departure) → i < length s.places → get_or s.places i Over ≡ Waiting sw port q n →
      slice_get s.switches sw ≡ Some x → v.packet ≡ i → v.switch ≡ sw → (exit_at x (Some q)).out ≡ Some (v.port, v.frame) →
      u ≡ sent_departure s.limits told_state.traffic n v (far_end (wiring_of s.network) v.switch v.port) → Shows p s w →
      Shows p (moved p i told_state u.place u.traffic) (leaves (machine_with (controls_of s) p) (wiring_of s.network) s.limits w i (w.packets i))
  sent_after p w port n v u there at unit a b out is h =
      shown_after p w port n at unit h _ (sent_of p w port n unit there h (parts_leave (parts_of x.program) (kept_of x).tables x.cells q).going v u a b out is)

-- a packet that waits leaves, or is dropped
module _ (s : State) (i sw port n : ℕ) (x : Switch) (q : Queued) (p : Programs) (w : Net Kept Queued Contents) where
  left_of :
      (u : Departure) → i < length s.places → get_or s.places i Over ≡ Waiting sw port q n → slice_get s.switches sw ≡ Some x → Shows p s w →
      (out : Option (ℕ × List ℕ)) → (exit_at x (Some q)).out ≡ out → u ≡ out_departure (wiring_of s.network) s.limits (told_state s i sw x q).traffic i sw n out →
      Shows p (moved p i (told_state s i sw x q) u.place u.traffic) (leaves (machine_with (controls_of s) p) (wiring_of s.network) s.limits w i (w.packets i))
  left_of u there at unit h None e is =
      subst (λ (u : Departure). Shows p (moved p i (told_state s i sw x q) u.place u.traffic) (leaves (machine_with (controls_of s) p) (wiring_of s.network) s.limits w i (w.packets i))) (sym is)
      (dropped_after s i sw x q p w port n there at unit e h)
  left_of u there at unit h (Some g) e is =
      sent_after s i sw x q p w port n (record { packet = i; switch = sw; port = g.0; frame = g.1 }) u there at unit refl refl e is h

-- what the program does is the event
pub left_runs :
    (s : State) (i sw port n : ℕ) (o : Option Queued) (x y : Switch) (xs : List Switch) (ps : List (Place Queued)) (t : Traffic) →
    i < length s.places → is_some_packet o ≡ true → get_or s.places i Over ≡ queued_or_over sw port n o → slice_get s.switches sw ≡ Some x →
    y.program ≡ x.program → y.tables ≡ x.tables → y.cells ≡ (exit_at x o).registers → xs ≡ set s.switches sw y →
    ps ≡ set s.places i (left_departure (wiring_of s.network) s.limits s.traffic i sw n (exit_at x o)).place →
    t ≡ (left_departure (wiring_of s.network) s.limits s.traffic i sw n (exit_at x o)).traffic →
    RunsTo s (Leave i ∷ []) (record s { switches = xs; places = ps; traffic = t })
left_runs s i sw port n None x y xs ps t there full at unit program tables cells by_switches by_places by_traffic p w h = absurd (cc)
left_runs s i sw port n (Some q) x y xs ps t there full at unit program tables cells by_switches by_places by_traffic p w h =
    subst (λ (u : State). Shows p u (leaves (machine_with (controls_of s) p) (wiring_of s.network) s.limits w i (w.packets i)))
    (sym (state_is s _ _ _ _ _ _ (by_switches ∙ ap (set s.switches sw) (switch_is x y _ program tables cells)) by_places by_traffic))
    (left_of s i sw port n x q p w (left_departure (wiring_of s.network) s.limits s.traffic i sw n (exit_at x (Some q))) there at unit h (exit_at x (Some q)).out refl refl)

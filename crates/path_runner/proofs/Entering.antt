-- What a net shows after the entry half of a packet.
use Rattle.std.proofs.Common.{◌≡◌, ℕ, ◌+◌, ◌<◌, List, [], ◌∷◌, ◌++◌, length, map, get_or, set, Some, refl, ap, sym, ◌∙◌, subst}
use Rattle.std.specs.Prelude.{slice_get}
use Rattle.std.proofs.lemmas.List.{length-append}
use Rattle.p4_meaning.specs.Parts.{Parts, parts_of}
use Rattle.p4_meaning.specs.Pass.{Kept, Queued, parts_enter}
use Rattle.p4_meaning.specs.Store.{Store}
use Rattle.indus_tree.specs.State.{Contents}
use Rattle.bit_values.specs.Bits.{Word}
use Rattle.switch_machines.specs.Programs.{network_digest}
use Rattle.network_run.specs.Machine.{Entered}
use Rattle.network_run.specs.Network.{Place, Flying, Over, Net, Told}
use Rattle.network_run.specs.Events.{Enter}
use Rattle.network_run.specs.NetworkRun.{told_by, queued_or_over, dropped_if_none, entered, enters}
use Rattle.network_file.specs.Wiring.{wiring_of}
use Rattle.switch_machines.specs.Programs.{Programs, machine_with, entered_of}
use Rattle.path_runner.specs.Nets.{Switch, kept_of, controls_of, State, Traffic, Shows, RunsTo}
use Rattle.path_runner.specs.Switches.{entry_at, with_cells}
use Rattle.path_runner.proofs.Lists.{put_item}
use Rattle.path_runner.proofs.Shown.{switches_after, switch_is, state_is}

-- the machine's entry half of a switch
entry_is : (reads : Store → List Word) (program : Parts) (k : Kept) (x : Switch) (port : ℕ) (frame : List ℕ) → program ≡ parts_of x.program → k ≡ kept_of x → entered_of reads k.tables (parts_enter program k.tables k.registers port frame) ≡ entered_of reads (kept_of x).tables (entry_at x port frame)
entry_is reads program k x port frame a b = rw (a, b) refl

module _ (s : State) (i sw port n : ℕ) (frame : List ℕ) (x : Switch) where
  abbrev pub entered_state : State
  entered_state =
      record s {
        switches = set s.switches sw (with_cells x (entry_at x port frame).registers);
        places = set s.places i (queued_or_over sw port n (entry_at x port frame).queued);
        traffic = record s.traffic {
          told = s.traffic.told ++ told_by i sw (map network_digest (entry_at x port frame).digests);
          dropped = s.traffic.dropped + length (dropped_if_none i (entry_at x port frame).queued);
        };
      }

  pub entered_shows :
      (p : Programs) (w : Net Kept Queued Contents) → i < length s.places → get_or s.places i Over ≡ Flying sw port frame n →
      slice_get s.switches sw ≡ Some x → Shows p s w → Shows p entered_state (enters (machine_with (controls_of s) p) (wiring_of s.network) s.limits w i (w.packets i))
  entered_shows p w there at unit h =
      let e = entry_at x port frame in
      let gives : Entered Kept Queued = entered_of p.reads (kept_of x).tables e in
      let same : (machine_with (controls_of s) p).enter sw (w.switches sw) port frame ≡ gives = entry_is p.reads (p.program sw) (w.switches sw) x port frame (h.switches.programs sw x unit) (h.switches.kept sw x unit) in
      let shown : Shows p entered_state (entered (wiring_of s.network) s.limits w i sw port n gives) =
      record {
        switches = switches_after p w.switches s.switches sw x e.registers unit h.switches;
        packets = put_item w.packets s.places i (queued_or_over sw port n e.queued) Over there h.packets;
        wires = h.wires;
        edges = h.edges;
        told = ap (λ (l : List Told). l ++ told_by i sw (map network_digest e.digests)) h.told;
        dropped = length-append w.dropped (dropped_if_none i e.queued) ∙ ap (λ k. k + length (dropped_if_none i e.queued)) h.dropped;
        lost = h.lost;
      } in
      subst (λ (place : Place Queued). Shows p entered_state (enters (machine_with (controls_of s) p) (wiring_of s.network) s.limits w i place)) (sym (h.packets i ∙ at))
      (subst (λ (e : Entered Kept Queued). Shows p entered_state (entered (wiring_of s.network) s.limits w i sw port n e)) (sym same) shown)

-- what the program does is the event
pub entered_runs :
    (s : State) (i sw port n : ℕ) (frame : List ℕ) (x y : Switch) (xs : List Switch) (ps : List (Place Queued)) (t : Traffic) →
    i < length s.places → get_or s.places i Over ≡ Flying sw port frame n → slice_get s.switches sw ≡ Some x →
    y.program ≡ x.program → y.tables ≡ x.tables → y.cells ≡ (entry_at x port frame).registers →
    xs ≡ set s.switches sw y → ps ≡ set s.places i (queued_or_over sw port n (entry_at x port frame).queued) →
    t ≡ (entered_state s i sw port n frame x).traffic →
    RunsTo s (Enter i ∷ []) (record s { switches = xs; places = ps; traffic = t })
entered_runs s i sw port n frame x y xs ps t there at unit program tables cells by_switches by_places by_traffic p w h =
    subst (λ (u : State). Shows p u (enters (machine_with (controls_of s) p) (wiring_of s.network) s.limits w i (w.packets i)))
    (sym (state_is s _ _ _ _ _ _ (by_switches ∙ ap (set s.switches sw) (switch_is x y _ program tables cells)) by_places by_traffic))
    (entered_shows s i sw port n frame x p w there at unit h)

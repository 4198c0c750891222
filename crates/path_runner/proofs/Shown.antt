-- What a net shows after one half of a packet.
use Rattle.std.proofs.Common.{◌≡◌, ◌≢◌, ℕ, ◌+◌, ◌<◌, List, [], ◌∷◌, ◌++◌, length, set, Bool, true, false, ◌||◌, Option, Some, None, refl, ap, ◌∙◌}
use Rattle.std.specs.Prelude.{slice_get, nat_lt, nat_le, if◌then◌else◌}
use Rattle.std.proofs.lemmas.List.{map-append, length-append}
use Rattle.p4_meaning.specs.Parts.{parts_of}
use Rattle.p4_meaning.specs.Pass.{Kept, Queued, Registers}
use Rattle.p4_meaning.specs.Tables.{Tables}
use Rattle.p4_tree.specs.Tree.{Program}
use Rattle.p4_tables.specs.State.{Held}
use Rattle.indus_tree.specs.State.{Contents}
use Rattle.network_run.specs.Machine.{Going}
use Rattle.network_run.specs.Network.{Place, Flying, Over, Sent, Net}
use Rattle.network_run.specs.NetworkRun.{longest_frame, put, frame_of, dropped, lost_if, sent}
use Rattle.network_run.proofs.Numbers.{put_cases, put_same}
use Rattle.network_file.specs.Wiring.{wiring_of}
use Rattle.switch_machines.specs.Programs.{Programs}
use Rattle.path_runner.specs.Nets.{Switch, kept_of, Traffic, State, AreSwitches, Shows}
use Rattle.path_runner.specs.Switches.{with_cells}
use Rattle.path_runner.specs.Departures.{lost_in, sent_departure}
use Rattle.path_runner.proofs.Lists.{at_set, put_item}

switch_parts : (p q : Program) (t u : List Held) (c d : Registers) → p ≡ q → t ≡ u → c ≡ d → record { program = p; tables = t; cells = c } ≡ (let x : Switch = record { program = q; tables = u; cells = d } in x)
switch_parts p q t u c d a b e = rw (a, b, e) refl

pub kept_parts : (a b : Registers) (t u : Tables) → a ≡ b → t ≡ u → record { registers = a; tables = t } ≡ (let k : Kept = record { registers = b; tables = u } in k)
kept_parts a b t u e g = rw (e, g) refl

-- a switch that runs the same program with the same tables
pub switch_is : (x y : Switch) (cells : Registers) → y.program ≡ x.program → y.tables ≡ x.tables → y.cells ≡ cells → y ≡ with_cells x cells
switch_is x y cells a b c = switch_parts y.program x.program y.tables x.tables y.cells cells a b c

-- equal parts make equal states
pub state_is : (s : State) (xs ys : List Switch) (ps qs : List (Place Queued)) (t u : Traffic) → xs ≡ ys → ps ≡ qs → t ≡ u → record s { switches = xs; places = ps; traffic = t } ≡ record s { switches = ys; places = qs; traffic = u }
state_is s xs ys ps qs t u a b c = rw (a, b, c) refl

-- a switch with other cells, among others
pub put_other : (f : ℕ → Kept) (i j : ℕ) (v : Kept) → j ≢ i → put f i v j ≡ f j
put_other f i j v other = put_cases (λ k u. u ≡ f j) f i v j (λ same. absurd (other same)) (λ o. refl)

pub switches_after : (p : Programs) (keeps : ℕ → Kept) (xs : List Switch) (sw : ℕ) (x : Switch) (cells : Registers) → slice_get xs sw ≡ Some x → AreSwitches p keeps xs → AreSwitches p (put keeps sw (kept_of (with_cells x cells))) (set xs sw (with_cells x cells))
switches_after p keeps xs sw x cells at are =
    record {
      programs = at_set (λ j z. p.program j ≡ parts_of z.program) xs sw (with_cells x cells) (are.programs sw x at) (λ j z other h. are.programs j z h);
      kept = at_set (λ j z. put keeps sw (kept_of (with_cells x cells)) j ≡ kept_of z) xs sw (with_cells x cells) (put_same keeps sw (kept_of (with_cells x cells)))
          (λ j z other h. put_other keeps sw j (kept_of (with_cells x cells)) other ∙ are.kept j z h);
    }

module _ (p : Programs) (i : ℕ) where
  -- where the packet is, and what has happened, become these
  abbrev pub moved : State → Place Queued → Traffic → State
  moved s place traffic = record s { places = set s.places i place; traffic = traffic }

  pub dropped_shows : (s : State) (w : Net Kept Queued Contents) → i < length s.places → Shows p s w → Shows p (moved s Over (record s.traffic { dropped = s.traffic.dropped + 1 })) (dropped w i)
  dropped_shows s w there h =
      record {
        switches = h.switches;
        packets = put_item w.packets s.places i Over Over there h.packets;
        wires = h.wires;
        edges = h.edges;
        told = h.told;
        dropped = length-append w.dropped (i ∷ []) ∙ ap (λ n. n + 1) h.dropped;
        lost = h.lost;
      }

  lost_shows : (s : State) (w : Net Kept Queued Contents) → i < length s.places → Shows p s w → Shows p (moved s Over (lost_in s.traffic).traffic) (record w { packets = put w.packets i Over; lost = w.lost ++ i ∷ [] })
  lost_shows s w there h =
      record {
        switches = h.switches;
        packets = put_item w.packets s.places i Over Over there h.packets;
        wires = h.wires;
        edges = h.edges;
        told = h.told;
        dropped = h.dropped;
        lost = length-append w.lost (i ∷ []) ∙ ap (λ n. n + 1) h.lost;
      }

  -- a frame is sent
  pub sent_shows :
      (s : State) (w : Net Kept Queued Contents) → i < length s.places → Shows p s w →
      (sw n : ℕ) (g : Going) (far : Option (ℕ × ℕ)) (half : ℕ) (o : _) → o ≡ sent_departure s.limits s.traffic n (frame_of i sw g) far →
      Shows p (moved s o.place o.traffic) (sent (wiring_of s.network) s.limits w i sw n g far half)
  sent_shows s w there h sw n g None half o is =
      let x = frame_of i sw g in
      let to_edge = record s.traffic { edges = s.traffic.edges ++ x ∷ [] } in
      let goes : Net Kept Queued Contents = record w { packets = put w.packets i Over; edges = w.edges ++ x ∷ [] } in
      let both : (b : Bool) → Shows p (moved s (if b then lost_in s.traffic else record { place = Over; traffic = to_edge }).place (if b then lost_in s.traffic else record { place = Over; traffic = to_edge }).traffic) (lost_if b w i goes) =
      elim [
        | true ↦ lost_shows s w there h
        | false ↦ record {
          switches = h.switches;
          packets = put_item w.packets s.places i Over Over there h.packets;
          wires = h.wires;
          edges = ap (λ (l : List Sent). l ++ x ∷ []) h.edges;
          told = h.told;
          dropped = h.dropped;
          lost = h.lost;
        }
      ] in
      rw is (both (nat_lt longest_frame (length g.frame)))
  sent_shows s w there h sw n g (Some far) half o is =
      let x = frame_of i sw g in
      let to = Flying far.0 far.1 g.frame (n + 1) in
      let on_link = record s.traffic { wires = s.traffic.wires ++ x ∷ [] } in
      let goes : Net Kept Queued Contents = record w { packets = put w.packets i to; wires = w.wires ++ record { half = half; sent = x } ∷ [] } in
      let both : (b : Bool) → Shows p (moved s (if b then lost_in s.traffic else record { place = to; traffic = on_link }).place (if b then lost_in s.traffic else record { place = to; traffic = on_link }).traffic) (lost_if b w i goes) =
      elim [
        | true ↦ lost_shows s w there h
        | false ↦ record {
          switches = h.switches;
          packets = put_item w.packets s.places i to Over there h.packets;
          wires = map-append (λ y. y.sent) w.wires (record { half = half; sent = x } ∷ []) ∙ ap (λ (l : List Sent). l ++ x ∷ []) h.wires;
          edges = h.edges;
          told = h.told;
          dropped = h.dropped;
          lost = h.lost;
        }
      ] in
      rw is (both (nat_le s.limits.hops (n + 1) || nat_lt s.limits.link (length g.frame)))

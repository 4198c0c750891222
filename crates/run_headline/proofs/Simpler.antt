-- Programs with other values in them are a linkage where a linker's programs are.
use Rattle.std.proofs.Common.{◌≡◌, ℕ, ◌<◌, ◌^◌, List, [], length, map, Some, sym, ap, ap₂, ◌∙◌, subst, arith}
use Rattle.std.specs.Prelude.{slice_get}
use Rattle.std.proofs.lemmas.Option.{slice_get-get_or}
use Rattle.indus_tree.specs.State.{Contents}
use Rattle.indus_tree.specs.Law.{law_of}
use Rattle.p4_tree.specs.Tree.{Program}
use Rattle.p4_parser_states.specs.Laws.{ReachesIsExact}
use Rattle.p4_meaning.specs.Parts.{Cells, parts_of}
use Rattle.p4_meaning.specs.Tables.{Tables}
use Rattle.p4_meaning.specs.Pass as pass
use Rattle.p4_meaning.specs.Pass.{Kept, Queued, start_cells}
use Rattle.p4_meaning.specs.Laws.{AreListed}
use Rattle.network_run.specs.Network.{Wiring}
use Rattle.network_file.specs.Wiring.{wiring_of}
use Rattle.linkage.specs.Linkage.{Linkage}
use Rattle.linkage.specs.Moves.{MovesTo}
use Rattle.linkage.proofs.MovedLinkages.{moved}
use Rattle.switch_machines.specs.Programs.{Controls, entered_of, leaving_of}
use Rattle.monitor_laws.specs.Monitor.{telemetry_of}
use Rattle.linked_halves.specs.Given.{registers_of}
use Rattle.whole_properties.specs.Whole.{Given, lower_monitor}
use Rattle.whole_properties.specs.Asked.{IsGiven}
use Rattle.control_maps.specs.Maps.{Lookup, map_controls}
use Rattle.control_maps.specs.Numbers.{named_in}
use Rattle.loaded_tables.specs.Rows.{Row, numbered_rows}
use Rattle.passage_stores.specs.FitStores.{IsFitQueued}
use Rattle.linked_properties.specs.Linked.{given_in}
use Rattle.linked_starts.specs.Starts.{found_row}
use Rattle.map_runs.specs.Named.{FitsMap}
use Rattle.map_runs.proofs.Agree.{loads_agree, sets_agree}
use Rattle.program_linker.specs.Simpler.{AreSimplyLinked}
use Rattle.read_contents.specs.Fits.{FitsVariable}
use Rattle.simplified_links.specs.Laws.{DoesTheSame}
use Rattle.simplified_links.proofs.Tables.{rows_same, named_same}
use Rattle.simplified_links.proofs.Listed.{loads_are_listed, sets_are_listed}
use Rattle.simplified_links.proofs.Linked as simple
use Rattle.linked_jobs.specs.Job.{Job, IsReady}
use Rattle.linked_jobs.specs.Run.{Linked, no_program, linked_in, controls_of, linked_machine}
use Rattle.run_headline.specs.Worlds.{IsVariable, alone_machine}
use Rattle.run_headline.proofs.Fits.{fits_map}
use Rattle.run_headline.proofs.Mapped as linker
use Rattle.run_headline.proofs.Mapped.{controls_at, linked_of}

module _ (exact : ReachesIsExact) (j : Job) (ready : IsReady j) (programs : List Program) (rows : List Row) (are : AreSimplyLinked j.program j.property j.network programs (map found_row rows)) where
  abbrev old : Linked
  old = linked_of j are.exact rows are.linked

  abbrev new : Linked
  new = linked_in programs rows

  abbrev g : Given
  g = given_in j.property j.program are.linked.controls

  abbrev net : Wiring
  net = wiring_of j.network

  pub count : length programs ≡ length j.network.names
  count = simple.count j.program j.property j.network ready.few_switches programs (map found_row rows) are

  given : IsGiven g
  given = linker.given exact j ready are.exact rows are.linked

  fits_all : (c : ℕ → Contents) → ((v : ℕ) → IsVariable j.property v → FitsVariable j.property.decls v (c v)) → FitsMap g c
  fits_all c h = linker.all_fit exact j ready are.exact rows are.linked c h

  -- ---- at a switch

  module _ (s : ℕ) (lt : s < length j.network.names) where
    there : slice_get programs s ≡ Some (new.programs s)
    there = slice_get-get_or programs s no_program (let n = count in omega (arith, lt, n))

    pub same : DoesTheSame (old.programs s) (new.programs s)
    same = simple.simply_linked_stand j.program j.property ready.names j.network ready.few_switches programs (map found_row rows) are s (new.programs s) there

    controls_same : controls_of j new s ≡ controls_of j old s
    controls_same =
        (let p = old.programs s in
        let q = new.programs s in
        let names : map (named_in (parts_of q)) (numbered_rows q j.property.decls rows) ≡ map (named_in (parts_of p)) (numbered_rows p j.property.decls rows) =
        ap (map (named_in (parts_of q))) (rows_same p q same.tables j.property.decls rows) ∙ named_same p q same.tables (numbered_rows p j.property.decls rows) in
        controls_at j new s lt ∙ (ap (λ (ls : List Lookup). map_controls ls) names ∙ sym (controls_at j old s lt)))

    small : s < 2 ^ 16
    small = (let few = ready.few_switches in omega (arith, lt, few))

    -- they are the monitor's own
    loaded_same : (c : ℕ → Contents) → ((v : ℕ) → IsVariable j.property v → FitsVariable j.property.decls v (c v)) → (e : Tables) → (lower_monitor g).controls.loaded c e ≡ (controls_of j old s).loaded c e
    loaded_same c h e =
        loads_agree g given c (fits_all c h) e ∙ sym (ap (λ (k : Controls Contents). k.loaded c e) (linker.same_controls exact j ready are.exact rows are.linked s lt))

    set_same : (v : ℕ) (c : Contents) → FitsVariable j.property.decls v c → (held : Tables) → (lower_monitor g).controls.set v c held ≡ (controls_of j old s).set v c held
    set_same v c fit held =
        sets_agree g given v c (fits_map g v c fit) held ∙ sym (ap (λ (k : Controls Contents). k.set v c held) (linker.same_controls exact j ready are.exact rows are.linked s lt))

  -- ---- the linkage

  abbrev Any : (switch : ℕ) → Kept → Type 0
  Any s a = Unit {0}

  abbrev AnyQueued : (switch : ℕ) → Queued → Type 0
  AnyQueued s a = Unit {0}

  -- tables run actions of their lists
  abbrev Good : (switch : ℕ) → Kept → Type 0
  Good s a = AreListed (parts_of (old.programs s)) a.tables

  -- and what is queued has words of the declared widths
  abbrev Waits : (switch : ℕ) → Queued → Type 0
  Waits s w = IsFitQueued (parts_of (old.programs s)) w

  abbrev Fit : (switch : ℕ) → Tables → Type 0
  Fit s = AreListed (parts_of j.program)

  abbrev Fits : (switch variable : ℕ) → Contents → Type 0
  Fits s = FitsVariable j.property.decls

  moves : MovesTo net (λ s e. e) (linked_machine j old) (linked_machine j new) Good Waits Fit (IsVariable j.property) Fits
  moves =
      record {
        starts = λ s e c lt fit h.
            ap₂ (λ (rs : List Cells) (k : Controls Contents). (let kept : Kept = record { registers = start_cells rs; tables = k.loaded c e } in kept)) (same s lt).stands.parts.registers (controls_same s lt);
        starts_good = λ s e c lt fit h.
            subst (AreListed (parts_of (old.programs s))) (loaded_same s lt c h e)
            (loads_are_listed exact j.property j.program j.room ready.linkable are.linked.controls net s (small s lt) e fit c (fits_all c h));
        enters = λ s port a frame lt k. ap (λ (e : pass.Entered). entered_of (λ st. []) a.tables e) ((same s lt).stands.passages.enters a.tables k a.registers port frame);
        enters_good = λ s port a frame lt k. k;
        queues = λ s port a frame w lt k is. (same s lt).stands.passages.queues a.tables a.registers port frame w is;
        leaves = λ s a w lt k fit. ap (λ (l : pass.Leaving). leaving_of (λ st. []) a.tables l) ((same s lt).stands.passages.leaves a.tables k a.registers w fit);
        leaves_good = λ s a w lt k fit. k;
        sets = λ s v a c lt k is fit. ap (λ (i : Controls Contents). (let after : Kept = record a { tables = i.set v c a.tables } in after)) (controls_same s lt);
        sets_good = λ s v a c lt k is fit.
            subst (AreListed (parts_of (old.programs s))) (set_same s lt v c fit a.tables)
            (sets_are_listed exact j.property j.program j.room ready.linkable are.linked.controls net s (small s lt) a.tables k v c (fits_map g v c fit));
      }

  pub are_a_linkage :
      Linkage (alone_machine j) (linked_machine j new) net (law_of j.property) (telemetry_of (lower_monitor g)) (registers_of (parts_of j.program) (lower_monitor g).sensors) Fit (IsVariable j.property) Fits
  are_a_linkage =
      moved net (λ s e. e) (alone_machine j) (alone_machine j) (linked_machine j old) (linked_machine j new) Any AnyQueued Good Waits Fit Fit (IsVariable j.property) Fits
      ready.wiring (λ s e h. h) (linker.plain_moves exact j ready are.exact rows are.linked) moves (law_of j.property) (telemetry_of (lower_monitor g)) (registers_of (parts_of j.program) (lower_monitor g).sensors)
      (linker.are_a_linkage exact j ready are.exact rows are.linked)

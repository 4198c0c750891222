-- The maps of the switches' programs are the monitor's controls, so that a linkage of the one is a linkage of the other.
use Rattle.std.proofs.Common.{◌≡◌, ℕ, zero, suc, ◌+◌, ◌<◌, ◌^◌, List, [], ◌∷◌, length, map, Option, Some, refl, sym, ap, ap₂, ◌∙◌, arith}
use Rattle.std.specs.Prelude.{slice_get, get_or}
use Rattle.std.specs.List.{range_with_len}
use Rattle.indus_tree.specs.State.{Contents}
use Rattle.indus_tree.specs.Law.{law_of}
use Rattle.p4_tree.specs.Tree.{Program}
use Rattle.p4_parser_states.specs.Laws.{ReachesIsExact}
use Rattle.p4_meaning.specs.Parts.{parts_of}
use Rattle.p4_meaning.specs.Tables.{Tables}
use Rattle.p4_meaning.specs.Pass.{Kept, Queued, kept_before}
use Rattle.p4_meaning.specs.Laws.{AreListed}
use Rattle.network_run.specs.Machine.{Machine}
use Rattle.network_run.specs.Network.{Wiring}
use Rattle.network_run.specs.Events.{Event, Enter, Leave, Set}
use Rattle.network_run.specs.World as world
use Rattle.network_run.specs.World.{World, IsValid}
use Rattle.network_file.specs.Wiring.{wiring_of}
use Rattle.std.proofs.lemmas.List.Elements.{All-weaker}
use Rattle.linkage.specs.Linkage.{Linkage}
use Rattle.linkage.specs.Moves.{MovesTo}
use Rattle.linkage.proofs.MovedLinkages.{moved}
use Rattle.switch_machines.specs.Programs.{Controls, machine_with}
use Rattle.monitor_laws.specs.Monitor.{telemetry_of}
use Rattle.linked_halves.specs.Given.{registers_of}
use Rattle.tree_linkage.specs.Trees.{linked_trees}
use Rattle.whole_properties.specs.Whole as whole
use Rattle.whole_properties.specs.Whole.{Given, lower_monitor}
use Rattle.whole_properties.specs.Asked.{IsGiven}
use Rattle.control_maps.specs.Maps.{Lookup, map_controls}
use Rattle.control_maps.specs.Numbers.{Numbered, named_in}
use Rattle.path_runner.specs.Nets.{lookups_of}
use Rattle.loaded_tables.specs.Rows.{Row, numbered_rows}
use Rattle.linked_properties.specs.Linked.{given_in, trees_in}
use Rattle.linked_properties.proofs.Linked.{faultless_is_given}
use Rattle.linked_starts.specs.Starts.{found_row}
use Rattle.linked_starts.proofs.Loaded.{rows_are_map}
use Rattle.map_runs.specs.Named.{FitsMap, named_lookups}
use Rattle.map_runs.proofs.Agree.{loads_agree, sets_agree}
use Rattle.map_runs.proofs.Linked.{numbers_are_lookups}
use Rattle.program_linker.specs.Linked.{AreLinked}
use Rattle.read_contents.specs.Fits.{FitsVariable}
use Rattle.linked_jobs.specs.Job.{Job, IsReady}
use Rattle.linked_jobs.specs.Run.{Linked, programs_of, maps_of, controls_of, linked_programs, linked_machine}
use Rattle.run_headline.specs.Worlds.{IsVariable, alone_machine}
use Rattle.run_headline.proofs.Fits.{named_is_numbered, numbered_is_named, fits_linkage, fits_map}
use Rattle.run_headline.proofs.Moved.{fewer_worlds}

-- ---- a list that is made by numbers

at_number : {A : Type 0} (f : ℕ → A) (first count s : ℕ) → s < count → slice_get (map f (range_with_len first count)) s ≡ Some (f (first + s))
at_number f first zero s lt = absurd (omega (arith, lt))
at_number f first (suc count) zero lt = ap (λ (n : ℕ). Some (f n)) (omega arith)
at_number f first (suc count) (suc s) lt = at_number f (first + 1) count s (omega (arith, lt)) ∙ ap (λ (n : ℕ). Some (f n)) (omega arith)

get_map : {A B : Type 0} (f : A → B) (xs : List A) (s : ℕ) (none : B) (x : A) → slice_get xs s ≡ Some x → get_or (map f xs) s none ≡ f x
get_map f [] s none x e = absurd (cc e)
get_map f (y ∷ ys) zero none x e = ap f (let same : y ≡ x = cc e in same)
get_map f (y ∷ ys) (suc s) none x e = get_map f ys s none x e

-- ---- the program and the map of a switch

module _ (j : Job) (l : Linked) (s : ℕ) (lt : s < length j.network.names) where
  program_at : slice_get (programs_of j l) s ≡ Some (l.programs s)
  program_at = at_number l.programs 0 (length j.network.names) s lt ∙ ap (λ (n : ℕ). Some (l.programs n)) (omega arith)

  map_at : get_or (maps_of j l) s [] ≡ numbered_rows (l.programs s) j.property.decls l.rows
  map_at = get_map (λ (p : Program). numbered_rows p j.property.decls l.rows) (programs_of j l) s [] (l.programs s) program_at

  pub controls_at : controls_of j l s ≡ map_controls (map (named_in (parts_of (l.programs s))) (numbered_rows (l.programs s) j.property.decls l.rows))
  controls_at = ap (λ (ls : List Lookup). map_controls ls) (ap₂ (λ (o : Option Program) (ns : List Numbered). lookups_of o ns) program_at map_at)

-- a linker's programs, at each switch, and its rows
abbrev pub linked_of : (j : Job) (programs : List Program) (rows : List Row) → AreLinked j.program j.property j.network programs (map found_row rows) → Linked
linked_of j programs rows are =
    record {
      programs =
          linked_trees (trees_in j.property j.program are.controls) (lower_monitor (given_in j.property j.program are.controls)) j.program
          (wiring_of j.network);
      rows = rows;
    }

module _ (exact : ReachesIsExact) (j : Job) (ready : IsReady j) (programs : List Program) (rows : List Row) (are : AreLinked j.program j.property j.network programs (map found_row rows)) where
  abbrev l : Linked
  l = linked_of j programs rows are

  abbrev g : Given
  g = given_in j.property j.program are.controls

  abbrev net : Wiring
  net = wiring_of j.network

  pub given : IsGiven g
  given = faultless_is_given j.property j.program j.room ready.linkable are.controls

  -- ---- the map of a switch

  pub same_controls : (s : ℕ) → s < length j.network.names → controls_of j l s ≡ map_controls (named_lookups g)
  same_controls s lt =
      (let few = ready.few_switches in
      let small : s < 2 ^ 16 = omega (arith, lt, few) in
      let rows_of : map (named_in (parts_of (l.programs s))) (numbered_rows (l.programs s) j.property.decls rows) ≡ named_lookups g =
      ap (map (named_in (parts_of (l.programs s)))) (rows_are_map exact j.property j.program j.room ready.linkable are.controls net s small rows are.tables)
      ∙ numbers_are_lookups j.property j.program j.room ready.linkable are.controls net s in
      controls_at j l s lt ∙ ap (λ (ls : List Lookup). map_controls ls) rows_of)

  -- ---- the linkage

  abbrev own : Machine Tables Kept Queued Contents
  own = machine_with (λ s. (lower_monitor g).controls) (linked_programs l)

  abbrev Any : (switch : ℕ) → Kept → Type 0
  Any s a = Unit {0}

  abbrev AnyQueued : (switch : ℕ) → Queued → Type 0
  AnyQueued s a = Unit {0}

  abbrev Fit : (switch : ℕ) → Tables → Type 0
  Fit s = AreListed (parts_of j.program)

  abbrev Fits : (switch variable : ℕ) → Contents → Type 0
  Fits s = FitsVariable j.property.decls

  pub all_fit : (c : ℕ → Contents) → ((v : ℕ) → IsVariable j.property v → FitsVariable j.property.decls v (c v)) → FitsMap g c
  all_fit c h v x d found control is = fits_map g v (c v) (h v (named_is_numbered g v (x, d, found, control, is))) x d found control is

  map_moves : MovesTo net (λ s e. e) own (linked_machine j l) Any AnyQueued Fit (IsVariable j.property) Fits
  map_moves =
      record {
        starts = λ s e c lt fit h.
            ap (λ (k : Controls Contents). kept_before (parts_of (l.programs s)) (k.loaded c e)) (same_controls s lt)
            ∙ ap (λ (held : Tables). kept_before (parts_of (l.programs s)) held) (sym (loads_agree g given c (all_fit c h) e));
        starts_good = λ s e c lt fit h. tt;
        enters = λ s port a frame lt k. refl;
        enters_good = λ s port a frame lt k. tt;
        queues = λ s port a frame q lt k is. tt;
        leaves = λ s a q lt k i. refl;
        leaves_good = λ s a q lt k i. tt;
        sets = λ s v a c lt k is fit.
            ap (λ (held : Tables). (let after : Kept = record a { tables = held } in after))
            (ap (λ (i : Controls Contents). i.set v c a.tables) (same_controls s lt) ∙ sym (sets_agree g given v c (fits_map g v c fit) a.tables));
        sets_good = λ s v a c lt k is fit. tt;
      }

  pub plain_moves : MovesTo net (λ s e. e) (alone_machine j) (alone_machine j) Any AnyQueued Fit (IsVariable j.property) Fits
  plain_moves =
      record {
        starts = λ s e c lt fit h. refl;
        starts_good = λ s e c lt fit h. tt;
        enters = λ s port a frame lt k. refl;
        enters_good = λ s port a frame lt k. tt;
        queues = λ s port a frame q lt k is. tt;
        leaves = λ s a q lt k i. refl;
        leaves_good = λ s a q lt k i. tt;
        sets = λ s v a c lt k is fit. refl;
        sets_good = λ s v a c lt k is fit. tt;
      }

  event_among : (e : Event Contents) → world.IsFitEvent (IsVariable j.property) Fits e → world.IsFitEvent (whole.IsVariable g) (λ s. whole.IsFitContents g) e
  event_among (Enter i) h = tt
  event_among (Leave i) h = tt
  event_among (Set s v c) h = (numbered_is_named g ready.linkable.plain.typed v h.0, fits_linkage g v c h.1)

  among : (w : World Tables Contents) → IsValid net Fit (IsVariable j.property) Fits w → IsValid net Fit (whole.IsVariable g) (λ s. whole.IsFitContents g) w
  among w valid =
      record {
        hops = valid.hops;
        entries = valid.entries;
        contents = λ s v lt is. fits_linkage g v (w.contents s v) (valid.contents s v lt (named_is_numbered g v is));
        packets = valid.packets;
        events = All-weaker (world.IsFitEvent (IsVariable j.property) Fits) (world.IsFitEvent (whole.IsVariable g) (λ s. whole.IsFitContents g)) event_among w.events valid.events;
      }

  pub are_a_linkage :
      Linkage (alone_machine j) (linked_machine j l) net (law_of j.property) (telemetry_of (lower_monitor g))
      (registers_of (parts_of j.program) (lower_monitor g).sensors) Fit (IsVariable j.property) Fits
  are_a_linkage =
      moved net (λ s e. e) (alone_machine j) (alone_machine j) own (linked_machine j l) Any AnyQueued Any AnyQueued Fit Fit (IsVariable j.property) Fits
      ready.wiring (λ s e h. h) plain_moves map_moves (law_of j.property) (telemetry_of (lower_monitor g)) (registers_of (parts_of j.program) (lower_monitor g).sensors)
      (fewer_worlds (alone_machine j) own net (law_of j.property) (telemetry_of (lower_monitor g)) (registers_of (parts_of j.program) (lower_monitor g).sensors)
      Fit (whole.IsVariable g) (IsVariable j.property) (λ s. whole.IsFitContents g) Fits among are.linked.linkage.linkage)

-- What a job whose files were read, and what is linked of it, give of the tables of its switches.
use Rattle.std.proofs.Common.{◌≡◌, ℕ, ◌+◌, ◌<◌, ◌≤◌, List, [], length, map, get_or, Some, All, refl, sym, ap, ◌∙◌, subst, arith}
use Rattle.std.specs.Prelude.{slice_get}
use Rattle.std.specs.Option.{option_map}
use Rattle.std.proofs.lemmas.Option.{slice_get_within, slice_get-map, get_or_from_slice_get}
use Rattle.p4_tree.specs.Tree.{Program}
use Rattle.p4_meaning.specs.Parts.{parts_of}
use Rattle.p4_tables.specs.State.{Held, entries_in}
use Rattle.network_run.specs.NetworkRun.{longest_frame}
use Rattle.control_maps.specs.Numbers.{Numbered, IsMapOf}
use Rattle.path_runner.specs.Conditions.{AreMapped, IsAtEdge}
use Rattle.path_runner.specs.Nets.{Switch}
use Rattle.link_faults.proofs.NoFault.{no_fault_says}
use Rattle.loaded_tables.specs.Rows.{Row, numbered_rows}
use Rattle.loaded_tables.specs.Loading.{AreTaken}
use Rattle.linked_starts.specs.Starts.{found_row}
use Rattle.program_linker.specs.Simpler.{AreSimplyLinked}
use Rattle.simplified_links.specs.Laws.{SimplyLinkedCanBeLoaded}
use Rattle.simplified_links.proofs.Linked as simple
use Rattle.read_contents.specs.Fits.{contents_at}
use Rattle.event_room.specs.Jobs.{JobsHaveRoom}
use Rattle.linked_jobs.specs.Job.{Job, IsReady}
use Rattle.linked_jobs.specs.Run.{Linked, IsLinked, linked_in, maps_of, telemetry_size}
use Rattle.linked_jobs.proofs.Programs.{programs_again, is_linked}
use Rattle.linked_net.specs.Loading.{CanLoad, CanLoadAll, AreLoadedTo}
use Rattle.linked_net.specs.Switches.{switches_before, CanStart}
use Rattle.linked_net.proofs.Switches.{states_of, switch_at}

module _ (j : Job) (ready : IsReady j) (ps : List Program) (rows : List Row) (linked : AreSimplyLinked j.program j.property j.network ps (map found_row rows)) where
  count : length ps ≡ length j.network.names
  count = simple.count j.program j.property j.network ready.few_switches ps (map found_row rows) linked

  -- what is linked
  abbrev made : Linked
  made = linked_in ps rows

  made_linked : IsLinked j made
  made_linked = is_linked j ps rows count linked

  -- the map of each switch
  map_is : (s : ℕ) (p : Program) → slice_get ps s ≡ Some p → get_or (maps_of j made) s [] ≡ numbered_rows p j.property.decls rows
  map_is s p here =
      let numbers : Program → List Numbered = λ q. numbered_rows q j.property.decls rows in
      ap (λ (qs : List Program). get_or (map numbers qs) s []) (programs_again j ps rows count)
      ∙ get_or_from_slice_get (map numbers ps) s (numbers p) [] (slice_get-map numbers ps s ∙ ap (option_map numbers) here)

  module _ (loads : SimplyLinkedCanBeLoaded) (rooms : JobsHaveRoom) where
    -- the tables of each switch take what they are given
    can_load : (s : ℕ) (p : Program) → slice_get ps s ≡ Some p → CanLoad j.program j.property.decls rows p (get_or j.tables s []) (get_or j.contents s [])
    can_load s p here =
        let low : s < length j.network.names = (let lt = slice_get_within ps s p here in let n = count in omega (arith, lt, n)) in
        let load = loads j.program j.property j.room ready.linkable ready.names j.network ready.few_switches ps rows linked s p here in
        record {
          state = ready.tables.each s (omega (arith, low, ready.tables.count));
          stands = load.stands;
          can = load.can;
          taken = subst (λ (ns : List Numbered). AreTaken (entries_in (get_or j.tables s [])) ns (contents_at j.property.decls (get_or j.contents s []))) (map_is s p here)
              ((rooms j made ready made_linked).taken [] j.events refl s low);
        }

    pub can_load_all : CanLoadAll j.program j.property.decls rows ps j.tables j.contents
    can_load_all = record { tables = ready.tables.count ∙ sym count; contents = ready.switches ∙ sym count; each = can_load }

  -- ---- the net

  -- packets that come to edge ports do so whatever links carry
  at_edges : (limit : ℕ) → longest_frame ≤ limit → All (IsAtEdge j.network limit) j.packets
  at_edges limit long = λ k d lt. (let at = ready.packets k d lt in record { switch = at.switch; port = at.port; edge = at.edge; short = (let short = at.short in omega (arith, short, long)) })

  few_bytes : telemetry_size j ≤ 256
  few_bytes = (let room = ((no_fault_says j.program j.property j.room).0 ready.linkable.faultless).room in let small = ready.linkable.small in omega (arith, room, small))

  module _ (sts : List (List Held)) (maps : List (List Numbered)) (loaded : AreLoadedTo j.program j.property.decls rows ps j.tables j.contents (length ps) sts maps) where
    all_mapped : AreMapped (switches_before ps sts) maps
    all_mapped k x here =
        (let at = switch_at ps sts k x here in
        let with = loaded.each k x.program (slice_get_within ps k x.program at.program) at.program in
        subst (λ (y : Switch). IsMapOf (parts_of y.program) y.tables (get_or maps k [])) at.is with.mapped)

    pub can_start : (link : ℕ) → link ≡ longest_frame + telemetry_size j → CanStart j.network (record { hops = j.hops; link = link }) ps sts maps j.packets
    can_start link is =
        let low = few_bytes in
        record {
          states = states_of ps sts loaded.tables (λ k p at. (loaded.each k p (slice_get_within ps k p at) at).state);
          switches = count;
          lists = loaded.maps ∙ count;
          mapped = all_mapped;
          few = ready.few;
          packets = at_edges link (omega (arith, is));
          hops = ready.hops;
          link = omega (arith, is, low);
        }

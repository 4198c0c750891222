-- A net that was made of a job's switches is one that is started.
use Rattle.std.proofs.Common.{◌≡◌, ℕ, zero, suc, ◌+◌, ◌≤◌, List, [], ◌∷◌, length, map, get_or, Some, refl, sym, ap, ap₂, ◌∙◌, subst, arith}
use Rattle.std.specs.Prelude.{slice_get}
use Rattle.std.proofs.lemmas.List.{length-map}
use Rattle.std.proofs.lemmas.List.FromFn.{length-map-range_with_len}
use Rattle.std.proofs.lemmas.Option.{slice_get_within}
use Rattle.p4_tree.specs.Tree.{Program}
use Rattle.p4_meaning.specs.Parts.{parts_of}
use Rattle.p4_meaning.specs.Pass.{Queued}
use Rattle.p4_tables.specs.State.{Held, entries_in}
use Rattle.p4_tables.specs.Programs.{IsStateOf}
use Rattle.indus_tree.specs.State.{Contents}
use Rattle.network_run.specs.NetworkRun.{Limits, longest_frame}
use Rattle.network_run.specs.World.{Arrival, first_place, first_net}
use Rattle.switch_machines.specs.Programs.{Controls, machine_with}
use Rattle.control_maps.specs.Numbers.{Numbered, IsMapOf}
use Rattle.path_runner.specs.Nets as nets
use Rattle.path_runner.specs.Nets.{Switch, State, Shows, controls_in}
use Rattle.path_runner.specs.Starts.{StartsWorlds, AreLoaded, IsLoaded, state_before}
use Rattle.loaded_tables.specs.Rows.{Row, numbered_rows}
use Rattle.loaded_tables.specs.Loading.{keys_in, switch_before}
use Rattle.linked_jobs.specs.Job.{Job}
use Rattle.linked_jobs.specs.Run.{Linked, programs_of, maps_of, world_of, controls_of, linked_programs, telemetry_size}
use Rattle.event_room.specs.Jobs.{map_at, IsStarted}
use Rattle.linked_net.specs.Loading.{AreLoadedTo}
use Rattle.linked_net.specs.First.{IsFirst}
use Rattle.linked_net.specs.Switches.{switches_before}
use Rattle.linked_net.proofs.Switches.{made_of, switch_at, programs_before}

-- lists are the same where their items are
same_items : {A B : Type 0} (f : A → B) (d : B) (xs : List A) (ys : List B) → length ys ≡ length xs → ((k : ℕ) (x : A) → slice_get xs k ≡ Some x → get_or ys k d ≡ f x) → ys ≡ map f xs
same_items f d [] [] e h = refl
same_items f d [] (y ∷ ys) e h = absurd (omega (arith, e))
same_items f d (x ∷ xs) [] e h = absurd (omega (arith, e))
same_items f d (x ∷ xs) (y ∷ ys) e h = ap₂ (λ b bs. b ∷ bs) (h zero x refl) (same_items f d xs ys (omega (arith, e)) (λ k z at. h (suc k) z at))

module _
    (j : Job) (l : Linked) (ps : List Program) (rows : List Row) (these : programs_of j l ≡ ps) (rows_are : l.rows ≡ rows)
    (sts : List (List Held)) (maps : List (List Numbered)) (loaded : AreLoadedTo j.program j.property.decls rows ps j.tables j.contents (length ps) sts maps)
    (link : ℕ) (s : State) (is : s ≡ state_before j.network (record { hops = j.hops; link = link }) (switches_before ps sts) maps j.packets)
    (worlds : StartsWorlds (switches_before ps sts) maps j.packets s)
  where
    maps_are : maps ≡ maps_of j l
    maps_are =
        same_items (λ (p : Program). numbered_rows p j.property.decls rows) [] ps maps loaded.maps (λ k p at. (loaded.each k p (slice_get_within ps k p at) at).map)
        ∙ ap₂ (λ (rs : List Row) (qs : List Program). map (λ (p : Program). numbered_rows p j.property.decls rs) qs) (sym rows_are) (sym these)

    -- each switch
    started_at : (k : ℕ) (x : Switch) → slice_get (switches_before ps sts) k ≡ Some x → IsStarted j l k x
    started_at k x here =
        let at = switch_at ps sts k x here in
        let with = loaded.each k x.program (slice_get_within ps k x.program at.program) at.program in
        let made = made_of l.programs (length j.network.names) k x.program (ap (λ (qs : List Program). slice_get qs k) these ∙ at.program) in
        let map_is : get_or maps k [] ≡ map_at j l k = ap (λ (ms : List (List Numbered)). get_or ms k []) maps_are in
        subst (IsStarted j l k) at.is
        (record {
          program = sym made.is;
          map = subst (λ (ns : List Numbered). IsMapOf (parts_of x.program) (get_or sts k []) ns) map_is with.mapped;
          loaded = subst (λ (ns : List Numbered). IsLoaded (switch_before x.program (get_or sts k [])) ns ((world_of j).entries k) ((world_of j).contents k)) map_is with.loaded;
          few = subst (λ (ns : List Numbered). entries_in (get_or sts k []) ≤ entries_in (get_or j.tables k []) + keys_in ns ((world_of j).contents k)) map_is with.entries;
        })

    tables_at : (k : ℕ) (x : Switch) → slice_get (switches_before ps sts) k ≡ Some x → IsStateOf x.program x.tables
    tables_at k x here =
        let at = switch_at ps sts k x here in
        let with = loaded.each k x.program (slice_get_within ps k x.program at.program) at.program in
        subst (λ (y : Switch). IsStateOf y.program y.tables) at.is with.state

    programs_are : map (λ (x : Switch). x.program) s.switches ≡ programs_of j l
    programs_are = ap (λ (t : State). map (λ (x : Switch). x.program) t.switches) is ∙ (programs_before ps sts loaded.tables ∙ sym these)

    state_maps : s.maps ≡ maps_of j l
    state_maps = ap (λ (t : State). t.maps) is ∙ maps_are

    controls_are : nets.controls_of s ≡ controls_of j l
    controls_are = ap₂ (λ (qs : List Program) (ms : List (List Numbered)). controls_in qs ms) programs_are state_maps

    -- the switches were loaded for the job's world
    for_world : AreLoaded (linked_programs l) (world_of j) (switches_before ps sts) maps
    for_world =
        record {
          programs = λ k x at. ap parts_of (sym (started_at k x at).program);
          loaded = λ k x at. subst (λ (ns : List Numbered). IsLoaded x ns ((world_of j).entries k) ((world_of j).contents k)) (sym (ap (λ (ms : List (List Numbered)). get_or ms k []) maps_are)) (started_at k x at).loaded;
        }

    switches_are : length s.switches ≡ length j.network.names
    switches_are =
        sym (length-map s.switches (λ (x : Switch). x.program))
        ∙ (ap (λ (qs : List Program). length qs) programs_are ∙ length-map-range_with_len l.programs 0 (length j.network.names))

    packets_are : length s.places ≡ length j.packets
    packets_are = ap (λ (t : State). length t.places) is ∙ length-map j.packets (λ (a : Arrival). first_place {Q = Queued} (Some a))

    pub is_first : link ≡ longest_frame + telemetry_size j → IsFirst j l s
    is_first long =
        record {
          shows = subst (λ (c : (switch : ℕ) → Controls Contents). Shows (linked_programs l) s (first_net (machine_with c (linked_programs l)) (world_of j))) controls_are
              (worlds (linked_programs l) (world_of j) for_world refl);
          controls = controls_are;
          network = ap (λ (t : State). t.network) is;
          limits = ap (λ (t : State). t.limits) is ∙ ap (λ (n : ℕ). (let limits : Limits = record { hops = j.hops; link = n } in limits)) long;
          programs = programs_are;
          of_job = record { switches = switches_are; maps = state_maps; packets = packets_are };
          started = λ k x at. started_at k x (ap (λ (t : State). slice_get t.switches k) (sym is) ∙ at);
          tables = λ k x at. tables_at k x (ap (λ (t : State). slice_get t.switches k) (sym is) ∙ at);
        }

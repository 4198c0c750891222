-- What is handed in, item by item.
use Rattle.std.proofs.Common.{◌≡◌, ◌⊎◌, inl, inr, ℕ, zero, suc, ◌≤◌, List, [], ◌∷◌, length, map, get_or, true, refl, ap, sym, ◌∙◌, subst, arith}
use Rattle.std.specs.Prelude.{slice_get, All}
use Rattle.std.specs.List.{list_all}
use Rattle.std.proofs.lemmas.List.Elements.{All-head, All-tail}
use Rattle.std.proofs.lemmas.Bool.Decides.{nat_tests}
use Rattle.p4_machine.specs.Buffers.{Buffer, IsMadeFor}
use Rattle.p4_meaning.specs.Parts.{Parts, parts_of}
use Rattle.p4_meaning.specs.Pass.{Queued, kept_before, start_cells}
use Rattle.p4_meaning.specs.Tables.{Tables}
use Rattle.p4_tables.specs.Named.{tables_in}
use Rattle.indus_tree.specs.State.{Contents}
use Rattle.network_run.specs.Network.{Over}
use Rattle.network_run.specs.NetworkRun.{Limits}
use Rattle.network_run.specs.World.{Arrival, first_place, first_net}
use Rattle.network_file.specs.Network.{Network}
use Rattle.switch_machines.specs.Programs.{machine_with}
use Rattle.control_maps.specs.Maps.{Lookup, loads}
use Rattle.control_maps.specs.Numbers.{Numbered, named_in}
use Rattle.control_maps.proofs.Names.{held_is_loaded}
use Rattle.path_runner.specs.Nets.{Switch, kept_of, controls_of, Shows}
use Rattle.path_runner.specs.Starts.{in_flight, state_before, Starts, IsLoaded, StartsWorlds}
use Rattle.path_runner.specs.Conditions.{AreFor, IsAtEdge}
use Rattle.path_runner.specs.Sound.{is_within, going_on}
use Rattle.path_runner.proofs.NewContents.{lookups_at}
use Rattle.path_runner.proofs.Shown.{kept_parts}

-- the first switch has the first buffer
pub first_for : (x : Switch) (xs : List Switch) (b : Buffer) (bs : List Buffer) (all : List Switch) (bufs : List Buffer) → all ≡ x ∷ xs → bufs ≡ b ∷ bs → AreFor all bufs → IsMadeFor x.program b.needs × AreFor xs bs
first_for x xs b bs all bufs e f are =
    let P : List Switch → Type 0 = λ ys. AreFor ys (b ∷ bs) in
    let Q : List Buffer → Type 0 = λ cs. AreFor all cs in
    subst P e (subst Q f are)

-- packets before the first event
first_place_at : (arrivals : List Arrival) (i : ℕ) → first_place {Q = Queued} (slice_get arrivals i) ≡ get_or (in_flight arrivals) i Over
first_place_at [] i = refl
first_place_at (a ∷ arrivals) zero = refl
first_place_at (a ∷ arrivals) (suc i) = first_place_at arrivals i

pub before_starts : (n : Network) (l : Limits) (xs : List Switch) (maps : List (List Numbered)) (arrivals : List Arrival) → Starts xs arrivals (state_before n l xs maps arrivals)
before_starts n l xs maps arrivals p keeps contents are =
    record {
      switches = are;
      packets = first_place_at arrivals;
      wires = refl;
      edges = refl;
      told = refl;
      dropped = refl;
      lost = refl;
    }

-- a switch that was loaded keeps what a machine starts with
loaded_keeps :
    (f : Parts) (ls : List Lookup) (x : Switch) (ns : List Numbered) (entries : Tables) (contents : ℕ → Contents) → f ≡ parts_of x.program →
    ls ≡ map (named_in (parts_of x.program)) ns → IsLoaded x ns entries contents → kept_before f (loads ls contents entries) ≡ kept_of x
loaded_keeps f ls x ns entries contents program names is =
    let g = parts_of x.program in
    kept_parts (start_cells f.registers) x.cells (loads ls contents entries) (tables_in g x.tables)
    (ap (λ (h : Parts). start_cells h.registers) program ∙ sym is.cells)
    (ap (λ (l : List Lookup). loads l contents entries) names ∙ sym (held_is_loaded (tables_in g x.tables) entries (map (named_in g) ns) contents is.controls is.others))

-- so the start is that of each world for which the switches were loaded
pub before_worlds : (n : Network) (l : Limits) (xs : List Switch) (maps : List (List Numbered)) (arrivals : List Arrival) → StartsWorlds xs maps arrivals (state_before n l xs maps arrivals)
before_worlds n l xs maps arrivals p w are same =
    let c = controls_of (state_before n l xs maps arrivals) in
    let starts = before_starts n l xs maps w.packets p (λ i. (machine_with c p).start i (w.entries i) (w.contents i)) w.contents
    (record {
      programs = are.programs;
      kept = λ i x at. loaded_keeps (p.program i) _ x (get_or maps i []) (w.entries i) (w.contents i) (are.programs i x at) (lookups_at xs i x (get_or maps i []) at) (are.loaded i x at);
    }) in
    subst (λ (arrivals : List Arrival). Shows p (state_before n l xs maps arrivals) (first_net (machine_with c p) w)) same starts

pub arrivals_within : (n : Network) (l : Limits) (arrivals : List Arrival) → 1 ≤ l.hops → All (IsAtEdge n l.link) arrivals → list_all (is_within (length n.names) l) (in_flight arrivals) ≡ true
arrivals_within n l [] some all = refl
arrivals_within n l (a ∷ arrivals) some all =
    let here = All-head (IsAtEdge n l.link) a arrivals all in
    let rest : list_all (is_within (length n.names) l) (in_flight arrivals) ≡ true = arrivals_within n l arrivals some (All-tail (IsAtEdge n l.link) a arrivals all) in
    let switch = here.switch in
    let short = here.short in
    grind (arith, nat_tests, rest, switch, short, some)

pub arrivals_going : (arrivals : List Arrival) → going_on (in_flight arrivals) ≡ length arrivals
arrivals_going [] = refl
arrivals_going (a ∷ arrivals) = let e = arrivals_going arrivals in omega (arith, e)

-- where either list is at its end, no switch is left
pub none_left : (xs : List Switch) (bs : List Buffer) → AreFor xs bs → (length xs ≡ 0) ⊎ (length bs ≡ 0) → xs ≡ []
none_left [] bs are ended = refl
none_left (x ∷ xs) [] are ended = absurd are
none_left (x ∷ xs) (b ∷ bs) are (inl e) = absurd (omega (arith, e))
none_left (x ∷ xs) (b ∷ bs) are (inr e) = absurd (omega (arith, e))

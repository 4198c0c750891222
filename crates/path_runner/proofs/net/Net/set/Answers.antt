use Rattle.std.proofs.Common.{◌≡◌, ◌<◌, List, [], ◌∷◌, length, get_or, refl, sym, ap, ◌∙◌, subst, arith}
use Rattle.std.proofs.lemmas.List.{map-set, length-set, length-map}
use Rattle.std.proofs.lemmas.Result.{on_ok_weaker}
use Rattle.p4_tree.specs.Tree.{Program}
use Rattle.p4_meaning.specs.Parts.{parts_of}
use Rattle.p4_tables.specs.State.{Held}
use Rattle.p4_tables.specs.Programs.{shapes}
use Rattle.indus_values.specs.View.{contents_of}
use Rattle.network_run.specs.Events.{Set}
use Rattle.control_maps.specs.Numbers.{Numbered, IsMapOf, IsSettable, set_in}
use Rattle.set_contents.specs.Maps.{map_of, maps_of}
use Rattle.path_runner.specs.Nets.{Switch, OthersHold, RunsTo}
use Rattle.path_runner.specs.Sound.{AreMade}
use Rattle.path_runner.specs.Views.{state_of, station_in}
use Rattle.path_runner.proofs.Lists.{map_same}
use Rattle.path_runner.proofs.NewContents.{mapped_set, others_stay, tables_then, held_before, set_runs}
use Rattle.path_runner.proofs.Standing.{read_item, view_there, view_at, views_same}
use Rattle.path_runner.proofs.net.Net.set.Goals as goal

pub set-requires-clause-mapped : goal.set-requires-clause-mapped
set-requires-clause-mapped g c =
    let n = c.args.self.now in
    let k = c.args.switch in
    let x = c.index_mut.result.now in
    let v = c.index.result.now in
    let there : k < length n.stations.items = omega (arith, c.requires.0, length-map n.stations.items station_in) in
    let unit = read_item n.stations.items (length n.stations.items) k x refl there c.index_mut.ensures.value in
    let is : get_or (maps_of n.maps.items) k [] ≡ map_of c.deref.result.now =
    view_at (λ v. map_of v.items) n.maps.items k v [] (read_item n.maps.items (length n.maps.items) k v refl (omega (arith, there, n.switches, n.lists)) c.index.ensures) ∙ ap map_of (sym c.deref.ensures.value) in
    subst (IsMapOf (parts_of (station_in x).program) (station_in x).tables) is (n.mapped k (station_in x) (view_there station_in n.stations.items k x unit))

pub set-requires-clause-settable : goal.set-requires-clause-settable
set-requires-clause-settable g c =
    let n = c.args.self.now in
    let k = c.args.switch in
    let x = c.index_mut.result.now in
    let v = c.index.result.now in
    let there : k < length n.stations.items = omega (arith, c.requires.0, length-map n.stations.items station_in) in
    let unit = read_item n.stations.items (length n.stations.items) k x refl there c.index_mut.ensures.value in
    let is : get_or (maps_of n.maps.items) k [] ≡ map_of c.deref.result.now =
    view_at (λ v. map_of v.items) n.maps.items k v [] (read_item n.maps.items (length n.maps.items) k v refl (omega (arith, there, n.switches, n.lists)) c.index.ensures) ∙ ap map_of (sym c.deref.ensures.value) in
    subst (λ (ns : List Numbered). IsSettable (station_in x).tables ns c.args.variable (contents_of c.args.contents.now)) is
    (subst (λ (st : List Held). IsSettable st (get_or (maps_of n.maps.items) k []) c.args.variable (contents_of c.args.contents.now))
    (held_before station_in n.stations.items k x unit) c.requires.1)

pub invariant_of-self : goal.invariant_of-self
invariant_of-self g c =
    let n = c.args.self.now in
    let k = c.args.switch in
    let x = c.index_mut.result.now in
    let v = c.index.result.now in
    let there : k < length n.stations.items = omega (arith, c.requires.0, length-map n.stations.items station_in) in
    let unit = read_item n.stations.items (length n.stations.items) k x refl there c.index_mut.ensures.value in
    let is : get_or (maps_of n.maps.items) k [] ≡ map_of c.deref.result.now =
    view_at (λ v. map_of v.items) n.maps.items k v [] (read_item n.maps.items (length n.maps.items) k v refl (omega (arith, there, n.switches, n.lists)) c.index.ensures) ∙ ap map_of (sym c.deref.ensures.value) in
    let y = c.set.new.self in
    record {
      switches = length-set n.stations.items k y ∙ n.switches;
      lists = n.lists;
      mapped = mapped_set station_in n.stations.items (maps_of n.maps.items) k x y unit c.set.ensures.program n.mapped
          (subst (IsMapOf (parts_of (station_in x).program) (station_in y).tables) (sym is) c.set.ensures.mapped);
      wired = n.wired;
      within = n.within;
      made = subst (λ (ps : List Program). AreMade ps n.places.items) (sym (map_same (λ s. g.P.Pass.program s.switch) n.stations.items k x y unit c.set.ensures.program)) n.made;
      few = n.few;
      link = n.link;
      counted = n.counted;
    }

pub returns-clause-same : goal.returns-clause-same
returns-clause-same g c =
    let n = c.args.self.now in
    let k = c.args.switch in
    let x = c.index_mut.result.now in
    let v = c.index.result.now in
    let there : k < length n.stations.items = omega (arith, c.requires.0, length-map n.stations.items station_in) in
    let unit = read_item n.stations.items (length n.stations.items) k x refl there c.index_mut.ensures.value in
    let y = c.set.new.self in
    record {
      kept = record {
        network = refl;
        programs = views_same station_in (λ z. z.program) n.stations.items k x y unit c.set.ensures.program;
        shapes = views_same station_in (λ z. shapes z.tables) n.stations.items k x y unit c.set.ensures.shapes;
      };
      maps = refl;
      limits = refl;
      packets = refl;
    }

pub returns-clause-others : goal.returns-clause-others
returns-clause-others g c =
    let n = c.args.self.now in
    let k = c.args.switch in
    let x = c.index_mut.result.now in
    let v = c.index.result.now in
    let there : k < length n.stations.items = omega (arith, c.requires.0, length-map n.stations.items station_in) in
    let unit = read_item n.stations.items (length n.stations.items) k x refl there c.index_mut.ensures.value in
    let is : get_or (maps_of n.maps.items) k [] ≡ map_of c.deref.result.now =
    view_at (λ v. map_of v.items) n.maps.items k v [] (read_item n.maps.items (length n.maps.items) k v refl (omega (arith, there, n.switches, n.lists)) c.index.ensures) ∙ ap map_of (sym c.deref.ensures.value) in
    let y = c.set.new.self in
    others_stay station_in n.stations.items k x y unit c.args.variable (get_or (maps_of n.maps.items) k [])
    (subst (λ (ns : List Numbered). OthersHold ns c.args.variable (station_in x).tables (station_in y).tables) (sym is) c.set.ensures.others)

pub returns-clause-tables : goal.returns-clause-tables
returns-clause-tables g c =
    let n = c.args.self.now in
    let k = c.args.switch in
    let x = c.index_mut.result.now in
    let v = c.index.result.now in
    let there : k < length n.stations.items = omega (arith, c.requires.0, length-map n.stations.items station_in) in
    let unit = read_item n.stations.items (length n.stations.items) k x refl there c.index_mut.ensures.value in
    let is : get_or (maps_of n.maps.items) k [] ≡ map_of c.deref.result.now =
    view_at (λ v. map_of v.items) n.maps.items k v [] (read_item n.maps.items (length n.maps.items) k v refl (omega (arith, there, n.switches, n.lists)) c.index.ensures) ∙ ap map_of (sym c.deref.ensures.value) in
    let y = c.set.new.self in
    on_ok_weaker c.set.result
    (λ now. tables_then station_in n.stations.items k x y unit c.args.variable (get_or (maps_of n.maps.items) k []) (contents_of c.args.contents.now)
    (now ∙ ap (λ (ns : List Numbered). set_in ns c.args.variable (contents_of c.args.contents.now) (station_in x).tables) (sym is)))
    c.set.ensures.tables

pub returns-clause-set : goal.returns-clause-set
returns-clause-set g c =
    let n = c.args.self.now in
    let k = c.args.switch in
    let x = c.index_mut.result.now in
    let v = c.index.result.now in
    let there : k < length n.stations.items = omega (arith, c.requires.0, length-map n.stations.items station_in) in
    let unit = read_item n.stations.items (length n.stations.items) k x refl there c.index_mut.ensures.value in
    let is : get_or (maps_of n.maps.items) k [] ≡ map_of c.deref.result.now =
    view_at (λ v. map_of v.items) n.maps.items k v [] (read_item n.maps.items (length n.maps.items) k v refl (omega (arith, there, n.switches, n.lists)) c.index.ensures) ∙ ap map_of (sym c.deref.ensures.value) in
    let y = c.set.new.self in
    let s = state_of n in
    let ns = get_or (maps_of n.maps.items) k [] in
    let value = contents_of c.args.contents.now in
    let settable = subst (λ (st : List Held). IsSettable st ns c.args.variable value) (held_before station_in n.stations.items k x unit) c.requires.1 in
    on_ok_weaker c.set.result
    (λ now. subst (λ (xs : List Switch). RunsTo s (Set k c.args.variable value ∷ []) (record s { switches = xs })) (sym (map-set station_in n.stations.items k y))
    (set_runs s k c.args.variable value (station_in x) (station_in y) (view_there station_in n.stations.items k x unit) c.set.ensures.program c.set.ensures.cells
    (now ∙ ap (λ (ns : List Numbered). set_in ns c.args.variable value (station_in x).tables) (sym is))
    (n.mapped k (station_in x) (view_there station_in n.stations.items k x unit)) settable))
    c.set.ensures.tables

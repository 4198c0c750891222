use Rattle.std.proofs.Common.{List, length, map, set, refl, sym, ap, ◌∙◌, subst, arith}
use Rattle.std.proofs.lemmas.List.{map-set, length-set, length-map}
use Rattle.p4_tree.specs.Tree.{Program}
use Rattle.p4_tables.specs.Programs.{shapes}
use Rattle.set_contents.specs.Maps.{maps_of}
use Rattle.path_runner.specs.Places.{place_in, limits_of}
use Rattle.path_runner.specs.Nets.{Traffic}
use Rattle.path_runner.specs.Sound.{AreMade, is_within}
use Rattle.path_runner.specs.Switches.{entry_at}
use Rattle.path_runner.specs.Views.{state_of, station_in}
use Rattle.path_runner.proofs.Lists.{all_pass, map_same}
use Rattle.path_runner.proofs.Made.{made_after}
use Rattle.path_runner.proofs.Standing.{read_item, view_there, views_same, flight_known, flight_at, entered_within, entered_counted}
use Rattle.path_runner.proofs.Entering.{entered_runs}
use Rattle.path_runner.proofs.NewContents.{mapped_kept}
use Rattle.path_runner.proofs.net.Net.enter.Goals as goal

pub index_mut-station-requires : goal.index_mut-station-requires
index_mut-station-requires g c =
    let n = c.args.self.now in
    let f = c.in-Flying.flight in
    let known = flight_known (length n.network.names) (limits_of n.limits) n.places.items c.args.packet c.index.result.now f c.requires c.index.ensures c.in-Flying.is n.within in
    omega (arith, known.switch_there, n.switches, n.stations.ok.0)

pub enter-requires-clause-short : goal.enter-requires-clause-short
enter-requires-clause-short g c =
    let n = c.args.self.now in
    let f = c.in-Flying.flight in
    let known = flight_known (length n.network.names) (limits_of n.limits) n.places.items c.args.packet c.index.result.now f c.requires c.index.ensures c.in-Flying.is n.within in
    omega (arith, known.short, n.link)

pub enter-requires-clause-dropped : goal.enter-requires-clause-dropped
enter-requires-clause-dropped g c =
    let n = c.args.self.now in
    let f = c.in-Flying.flight in
    let known = flight_known (length n.network.names) (limits_of n.limits) n.places.items c.args.packet c.index.result.now f c.requires c.index.ensures c.in-Flying.is n.within in
    omega (arith, known.going, n.counted)

pub returns-in_err-next-clause-same : goal.returns-in_err-next-clause-same
returns-in_err-next-clause-same g c =
    let n = c.args.self.now in
    let f = c.in-Flying.flight in
    let known = flight_known (length n.network.names) (limits_of n.limits) n.places.items c.args.packet c.index.result.now f c.requires c.index.ensures c.in-Flying.is n.within in
    let unit = read_item n.stations.items (length n.stations.items) f.switch c.index_mut-station.result.now refl (omega (arith, known.switch_there, n.switches)) c.index_mut-station.ensures.value in
    record {
      kept = record {
        network = refl;
        programs = views_same station_in (λ x. x.program) n.stations.items f.switch c.index_mut-station.result.now c.enter.new.station unit c.enter.ensures.program;
        shapes = views_same station_in (λ x. shapes x.tables) n.stations.items f.switch c.index_mut-station.result.now c.enter.new.station unit (ap shapes c.enter.ensures.tables);
      };
      maps = refl;
      limits = refl;
      packets = refl;
    }

pub returns-in_err-next-clause-tables : goal.returns-in_err-next-clause-tables
returns-in_err-next-clause-tables g c =
    let n = c.args.self.now in
    let f = c.in-Flying.flight in
    let known = flight_known (length n.network.names) (limits_of n.limits) n.places.items c.args.packet c.index.result.now f c.requires c.index.ensures c.in-Flying.is n.within in
    let x = c.index_mut-station.result.now in
    let unit = read_item n.stations.items (length n.stations.items) f.switch x refl (omega (arith, known.switch_there, n.switches)) c.index_mut-station.ensures.value in
    views_same station_in (λ x. x.tables) n.stations.items f.switch x c.enter.new.station unit c.enter.ensures.tables

pub invariant_of-self-2-clause-within : goal.invariant_of-self-2-clause-within
invariant_of-self-2-clause-within g c =
    let n = c.args.self.now in
    let f = c.in-Flying.flight in
    let known = flight_known (length n.network.names) (limits_of n.limits) n.places.items c.args.packet c.index.result.now f c.requires c.index.ensures c.in-Flying.is n.within in
    rw (map-set place_in n.places.items c.args.packet c.replace-before.new.dest, c.replace-before.ensures.after, c.in_ok-next.ensures.place)
    (all_pass (is_within (length n.network.names) (limits_of n.limits)) (map place_in n.places.items) c.args.packet _ n.within
    (entered_within (length n.network.names) (limits_of n.limits) f.switch f.port f.passed _ known.switch_there known.passed))

pub invariant_of-self-in-Break-1 : goal.invariant_of-self-in-Break-1
invariant_of-self-in-Break-1 g c =
    let n = c.args.self.now in
    let f = c.in-Flying.flight in
    let known = flight_known (length n.network.names) (limits_of n.limits) n.places.items c.args.packet c.index.result.now f c.requires c.index.ensures c.in-Flying.is n.within in
    let x = c.index_mut-station.result.now in
    let unit = read_item n.stations.items (length n.stations.items) f.switch x refl (omega (arith, known.switch_there, n.switches)) c.index_mut-station.ensures.value in
    record {
      switches = length-set n.stations.items f.switch c.enter.new.station ∙ n.switches;
      lists = n.lists;
      mapped = mapped_kept station_in n.stations.items (maps_of n.maps.items) f.switch x c.enter.new.station unit c.enter.ensures.program n.mapped c.enter.ensures.tables;
      wired = n.wired;
      within = n.within;
      made = subst (λ (ps : List Program). AreMade ps n.places.items) (sym (map_same (λ s. g.P.Pass.program s.switch) n.stations.items f.switch x c.enter.new.station unit c.enter.ensures.program)) n.made;
      few = n.few;
      link = n.link;
      counted = omega (arith, c.in_err-next.ensures.kept, c.enter.ensures.lost, n.counted);
    }

pub invariant_of-self-2-clause-made : goal.invariant_of-self-2-clause-made
invariant_of-self-2-clause-made g c =
    let n = c.args.self.now in
    let f = c.in-Flying.flight in
    let known = flight_known (length n.network.names) (limits_of n.limits) n.places.items c.args.packet c.index.result.now f c.requires c.index.ensures c.in-Flying.is n.within in
    let x = c.index_mut-station.result.now in
    let unit = read_item n.stations.items (length n.stations.items) f.switch x refl (omega (arith, known.switch_there, n.switches)) c.index_mut-station.ensures.value in
    made_after (map (λ s. g.P.Pass.program s.switch) n.stations.items) _ n.places.items c.args.packet f.switch (g.P.Pass.program x.switch) _ c.in_ok-next.next c.replace-before.new.dest n.made
    (view_there (λ s. g.P.Pass.program s.switch) n.stations.items f.switch x unit)
    (map_same (λ s. g.P.Pass.program s.switch) n.stations.items f.switch x c.enter.new.station unit c.enter.ensures.program) c.enter.ensures.program c.replace-before.ensures.after c.in_ok-next.ensures.made

pub invariant_of-self-2-clause-mapped : goal.invariant_of-self-2-clause-mapped
invariant_of-self-2-clause-mapped g c =
    let n = c.args.self.now in
    let f = c.in-Flying.flight in
    let known = flight_known (length n.network.names) (limits_of n.limits) n.places.items c.args.packet c.index.result.now f c.requires c.index.ensures c.in-Flying.is n.within in
    let x = c.index_mut-station.result.now in
    let unit = read_item n.stations.items (length n.stations.items) f.switch x refl (omega (arith, known.switch_there, n.switches)) c.index_mut-station.ensures.value in
    mapped_kept station_in n.stations.items (maps_of n.maps.items) f.switch x c.enter.new.station unit c.enter.ensures.program n.mapped c.enter.ensures.tables

pub invariant_of-self-2-clause-few : goal.invariant_of-self-2-clause-few
invariant_of-self-2-clause-few g c =
    omega (arith, length-set c.args.self.now.places.items c.args.packet c.replace-before.new.dest, c.args.self.now.few)

pub invariant_of-self-2-clause-counted : goal.invariant_of-self-2-clause-counted
invariant_of-self-2-clause-counted g c =
    let n = c.args.self.now in
    let f = c.in-Flying.flight in
    let ps = map place_in n.places.items in
    let at = flight_at n.places.items c.args.packet c.index.result.now f c.requires c.index.ensures c.in-Flying.is in
    let few = entered_counted ps c.args.packet f.switch f.port f.passed 4294967295 f.frame.items (place_in c.replace-before.new.dest)
    (entry_at (station_in c.index_mut-station.result.now) f.port f.frame.items).queued n.traffic.dropped c.enter.new.traffic.dropped n.traffic.lost c.requires at
    (ap place_in c.replace-before.ensures.after ∙ c.in_ok-next.ensures.place) (ap (λ (t : Traffic). t.dropped) c.in_ok-next.ensures.told) n.counted in
    rw (map-set place_in n.places.items c.args.packet c.replace-before.new.dest, c.enter.ensures.lost) few

pub returns-clause-same : goal.returns-clause-same
returns-clause-same g c =
    let n = c.args.self.now in
    let f = c.in-Flying.flight in
    let known = flight_known (length n.network.names) (limits_of n.limits) n.places.items c.args.packet c.index.result.now f c.requires c.index.ensures c.in-Flying.is n.within in
    let unit = read_item n.stations.items (length n.stations.items) f.switch c.index_mut-station.result.now refl (omega (arith, known.switch_there, n.switches)) c.index_mut-station.ensures.value in
    record {
      kept = record {
        network = refl;
        programs = views_same station_in (λ x. x.program) n.stations.items f.switch c.index_mut-station.result.now c.enter.new.station unit c.enter.ensures.program;
        shapes = views_same station_in (λ x. shapes x.tables) n.stations.items f.switch c.index_mut-station.result.now c.enter.new.station unit (ap shapes c.enter.ensures.tables);
      };
      maps = refl;
      limits = refl;
      packets = simp (length-map, length-set);
    }

pub returns-clause-tables : goal.returns-clause-tables
returns-clause-tables g c =
    let n = c.args.self.now in
    let f = c.in-Flying.flight in
    let known = flight_known (length n.network.names) (limits_of n.limits) n.places.items c.args.packet c.index.result.now f c.requires c.index.ensures c.in-Flying.is n.within in
    let x = c.index_mut-station.result.now in
    let unit = read_item n.stations.items (length n.stations.items) f.switch x refl (omega (arith, known.switch_there, n.switches)) c.index_mut-station.ensures.value in
    views_same station_in (λ x. x.tables) n.stations.items f.switch x c.enter.new.station unit c.enter.ensures.tables

pub returns-clause-enter : goal.returns-clause-enter
returns-clause-enter g c =
    let n = c.args.self.now in
    let f = c.in-Flying.flight in
    let known = flight_known (length n.network.names) (limits_of n.limits) n.places.items c.args.packet c.index.result.now f c.requires c.index.ensures c.in-Flying.is n.within in
    let x = c.index_mut-station.result.now in
    let unit = read_item n.stations.items (length n.stations.items) f.switch x refl (omega (arith, known.switch_there, n.switches)) c.index_mut-station.ensures.value in
    entered_runs (state_of n) c.args.packet f.switch f.port f.passed f.frame.items (station_in x) (station_in c.enter.new.station) _ _ _ c.requires
    (flight_at n.places.items c.args.packet c.index.result.now f c.requires c.index.ensures c.in-Flying.is) (view_there station_in n.stations.items f.switch x unit)
    c.enter.ensures.program c.enter.ensures.tables c.in_ok-next.ensures.cells
    (map-set station_in n.stations.items f.switch c.enter.new.station)
    (map-set place_in n.places.items c.args.packet c.replace-before.new.dest ∙ ap (set (map place_in n.places.items) c.args.packet) (ap place_in c.replace-before.ensures.after ∙ c.in_ok-next.ensures.place))
    c.in_ok-next.ensures.told

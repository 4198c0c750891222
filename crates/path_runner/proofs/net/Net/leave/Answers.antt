use Rattle.std.proofs.Common.{◌≡◌, List, length, map, set, refl, sym, ap, ◌∙◌, subst, arith}
use Rattle.std.proofs.lemmas.List.{map-set, length-set}
use Rattle.network_run.specs.Network.{Over, Place}
use Rattle.network_file.specs.Wiring.{wiring_of}
use Rattle.p4_meaning.specs.Pass.{Queued}
use Rattle.p4_tables.specs.Programs.{shapes}
use Rattle.set_contents.specs.Maps.{maps_of}
use Rattle.path_runner.specs.Places.{place_in, limits_of}
use Rattle.path_runner.specs.Sound.{AreMade, is_within}
use Rattle.path_runner.specs.Switches.{exit_at}
use Rattle.path_runner.specs.Departures.{left_departure}
use Rattle.path_runner.specs.Views.{state_of, station_in, traffic_in}
use Rattle.path_runner.specs.declared.place.Place.TheVariants as code
use Rattle.path_runner.proofs.Lists.{all_pass, map_same}
use Rattle.path_runner.proofs.Made.{made_after}
use Rattle.path_runner.proofs.Standing.{read_item, view_there, views_same, waiting_known, put_back}
use Rattle.path_runner.proofs.Departing.{left_within, left_counted, taken_going}
use Rattle.path_runner.proofs.Leaving.{left_runs}
use Rattle.path_runner.proofs.NewContents.{mapped_kept}
use Rattle.path_runner.proofs.net.Net.leave.Goals as goal

pub invariant_of-self-clause-made : goal.invariant_of-self-clause-made
invariant_of-self-clause-made g c =
    let n = c.args.self.now in
    subst (AreMade (map (λ s. g.P.Pass.program s.switch) n.stations.items)) (sym c.in_default.ensures.items) n.made

pub leave-requires-clause-counted : goal.leave-requires-clause-counted
leave-requires-clause-counted g c =
    let n = c.args.self.now in
    let k = c.in-Some.parked in
    let known = waiting_known (length n.network.names) (limits_of n.limits) (map place_in n.places.items) c.args.packet c.requires n.within k.switch k.port k.passed (g.P.Pass.place k.queued.place.value).waiting k.full c.in-Some.ensures.taken.1 in
    omega (arith, known.going, n.counted)

pub leave-requires-clause-made : goal.leave-requires-clause-made
leave-requires-clause-made g c =
    let n = c.args.self.now in
    let k = c.in-Some.parked in
    let known = waiting_known (length n.network.names) (limits_of n.limits) (map place_in n.places.items) c.args.packet c.requires n.within k.switch k.port k.passed (g.P.Pass.place k.queued.place.value).waiting k.full c.in-Some.ensures.taken.1 in
    let x = c.index_mut-station.result.now in
    let unit = read_item n.stations.items (length n.stations.items) k.switch x refl (omega (arith, known.switch_there, n.switches)) c.index_mut-station.ensures.value in
    n.made c.args.packet k (g.P.Pass.program x.switch) c.in-Some.ensures.waited (view_there (λ s. g.P.Pass.program s.switch) n.stations.items k.switch x unit)

pub invariant_of-self-in-Break-1 : goal.invariant_of-self-in-Break-1
invariant_of-self-in-Break-1 g c =
    let n = c.args.self.now in
    let k = c.in-Some.parked in
    let ps = map place_in n.places.items in
    let known = waiting_known (length n.network.names) (limits_of n.limits) ps c.args.packet c.requires n.within k.switch k.port k.passed (g.P.Pass.place k.queued.place.value).waiting k.full c.in-Some.ensures.taken.1 in
    let x = c.index_mut-station.result.now in
    let unit = read_item n.stations.items (length n.stations.items) k.switch x refl (omega (arith, known.switch_there, n.switches)) c.index_mut-station.ensures.value in
    let programs = map (λ s. g.P.Pass.program s.switch) n.stations.items in
    let fewer_places : length c.take_parked.new.places.items ≡ length n.places.items = c.in-Some.ensures.length in
    let fewer = taken_going ps c.args.packet k.switch k.port k.passed 0 (g.P.Pass.place k.queued.place.value).waiting c.requires k.full c.in-Some.ensures.taken.1 in
    record {
      switches = length-set n.stations.items k.switch c.leave.new.station ∙ n.switches;
      lists = n.lists;
      mapped = mapped_kept station_in n.stations.items (maps_of n.maps.items) k.switch x c.leave.new.station unit c.leave.ensures.program n.mapped c.leave.ensures.tables;
      wired = n.wired;
      made = rw c.in-Some.ensures.items
          (made_after programs _ n.places.items c.args.packet k.switch (g.P.Pass.program x.switch) _ code.Over code.Over n.made
          (view_there (λ s. g.P.Pass.program s.switch) n.stations.items k.switch x unit)
          (map_same (λ s. g.P.Pass.program s.switch) n.stations.items k.switch x c.leave.new.station unit c.leave.ensures.program) c.leave.ensures.program refl tt);
      within = rw c.in-Some.ensures.taken.0 (all_pass (is_within (length n.network.names) (limits_of n.limits)) ps c.args.packet Over n.within refl);
      few = omega (arith, fewer_places, n.few);
      link = n.link;
      counted = rw c.in-Some.ensures.taken.0 (omega (arith, fewer, c.leave.ensures.counted, n.counted));
    }

pub returns-in_err-next-clause-same : goal.returns-in_err-next-clause-same
returns-in_err-next-clause-same g c =
    let n = c.args.self.now in
    let k = c.in-Some.parked in
    let ps = map place_in n.places.items in
    let known = waiting_known (length n.network.names) (limits_of n.limits) ps c.args.packet c.requires n.within k.switch k.port k.passed (g.P.Pass.place k.queued.place.value).waiting k.full c.in-Some.ensures.taken.1 in
    let x = c.index_mut-station.result.now in
    let unit = read_item n.stations.items (length n.stations.items) k.switch x refl (omega (arith, known.switch_there, n.switches)) c.index_mut-station.ensures.value in
    record {
      kept = record {
        network = refl;
        programs = views_same station_in (λ x. x.program) n.stations.items k.switch x c.leave.new.station unit c.leave.ensures.program;
        shapes = views_same station_in (λ x. shapes x.tables) n.stations.items k.switch x c.leave.new.station unit (ap shapes c.leave.ensures.tables);
      };
      maps = refl;
      limits = refl;
      packets = ap (λ (l : List (Place Queued)). length l) c.in-Some.ensures.taken.0 ∙ length-set ps c.args.packet Over;
    }

pub returns-in_err-next-clause-tables : goal.returns-in_err-next-clause-tables
returns-in_err-next-clause-tables g c =
    let n = c.args.self.now in
    let k = c.in-Some.parked in
    let ps = map place_in n.places.items in
    let known = waiting_known (length n.network.names) (limits_of n.limits) ps c.args.packet c.requires n.within k.switch k.port k.passed (g.P.Pass.place k.queued.place.value).waiting k.full c.in-Some.ensures.taken.1 in
    let x = c.index_mut-station.result.now in
    let unit = read_item n.stations.items (length n.stations.items) k.switch x refl (omega (arith, known.switch_there, n.switches)) c.index_mut-station.ensures.value in
    views_same station_in (λ x. x.tables) n.stations.items k.switch x c.leave.new.station unit c.leave.ensures.tables

pub invariant_of-self-2 : goal.invariant_of-self-2
invariant_of-self-2 g c =
    let n = c.args.self.now in
    let k = c.in-Some.parked in
    let ps = map place_in n.places.items in
    let o = (g.P.Pass.place k.queued.place.value).waiting in
    let x = exit_at (station_in c.index_mut-station.result.now) o in
    let fewer_places : length c.take_parked.new.places.items ≡ length n.places.items = c.in-Some.ensures.length in
    let is : place_in c.replace-over.new.dest ≡ (left_departure (wiring_of n.network) (limits_of n.limits) (traffic_in n.traffic) c.args.packet k.switch k.passed x).place = ap place_in c.replace-over.ensures.after ∙ c.in_ok-next.ensures.place in
    let back = put_back c.take_parked.new.places.items n.places.items c.args.packet c.replace-over.new.dest c.in-Some.ensures.taken.0 in
    let known = waiting_known (length n.network.names) (limits_of n.limits) ps c.args.packet c.requires n.within k.switch k.port k.passed (g.P.Pass.place k.queued.place.value).waiting k.full c.in-Some.ensures.taken.1 in
    let u = c.index_mut-station.result.now in
    let unit = read_item n.stations.items (length n.stations.items) k.switch u refl (omega (arith, known.switch_there, n.switches)) c.index_mut-station.ensures.value in
    let programs = map (λ s. g.P.Pass.program s.switch) n.stations.items in
    let there = view_there (λ s. g.P.Pass.program s.switch) n.stations.items k.switch u unit in
    record {
      switches = length-set n.stations.items k.switch c.leave.new.station ∙ n.switches;
      lists = n.lists;
      mapped = mapped_kept station_in n.stations.items (maps_of n.maps.items) k.switch u c.leave.new.station unit c.leave.ensures.program n.mapped c.leave.ensures.tables;
      wired = n.wired;
      made = rw c.in-Some.ensures.items
          (made_after programs _ (set n.places.items c.args.packet code.Over) c.args.packet k.switch (g.P.Pass.program u.switch) _ c.in_ok-next.next c.replace-over.new.dest
          (made_after programs programs n.places.items c.args.packet k.switch (g.P.Pass.program u.switch) _ code.Over code.Over n.made there refl refl refl tt) there
          (map_same (λ s. g.P.Pass.program s.switch) n.stations.items k.switch u c.leave.new.station unit c.leave.ensures.program) c.leave.ensures.program c.replace-over.ensures.after c.in_ok-next.ensures.made);
      within = rw (back, is)
          (all_pass (is_within (length n.network.names) (limits_of n.limits)) ps c.args.packet _ n.within
          (left_within (wiring_of n.network) (limits_of n.limits) (traffic_in n.traffic) c.args.packet k.switch k.passed x n.wired));
      few = omega (arith, length-set c.take_parked.new.places.items c.args.packet c.replace-over.new.dest, fewer_places, n.few);
      link = n.link;
      counted = rw back
          (left_counted ps c.args.packet k.switch k.port k.passed 4294967295 o c.requires k.full c.in-Some.ensures.taken.1 (wiring_of n.network) (limits_of n.limits) (traffic_in n.traffic) (traffic_in c.leave.new.traffic) (place_in c.replace-over.new.dest) x is c.in_ok-next.ensures.traffic n.counted);
    }

pub returns-clause-same : goal.returns-clause-same
returns-clause-same g c =
    let n = c.args.self.now in
    let k = c.in-Some.parked in
    let ps = map place_in n.places.items in
    let known = waiting_known (length n.network.names) (limits_of n.limits) ps c.args.packet c.requires n.within k.switch k.port k.passed (g.P.Pass.place k.queued.place.value).waiting k.full c.in-Some.ensures.taken.1 in
    let x = c.index_mut-station.result.now in
    let unit = read_item n.stations.items (length n.stations.items) k.switch x refl (omega (arith, known.switch_there, n.switches)) c.index_mut-station.ensures.value in
    record {
      kept = record {
        network = refl;
        programs = views_same station_in (λ x. x.program) n.stations.items k.switch x c.leave.new.station unit c.leave.ensures.program;
        shapes = views_same station_in (λ x. shapes x.tables) n.stations.items k.switch x c.leave.new.station unit (ap shapes c.leave.ensures.tables);
      };
      maps = refl;
      limits = refl;
      packets =
          ap (λ (l : List (Place Queued)). length l) (put_back c.take_parked.new.places.items n.places.items c.args.packet c.replace-over.new.dest c.in-Some.ensures.taken.0)
          ∙ length-set ps c.args.packet (place_in c.replace-over.new.dest);
    }

pub returns-clause-tables : goal.returns-clause-tables
returns-clause-tables g c =
    let n = c.args.self.now in
    let k = c.in-Some.parked in
    let ps = map place_in n.places.items in
    let known = waiting_known (length n.network.names) (limits_of n.limits) ps c.args.packet c.requires n.within k.switch k.port k.passed (g.P.Pass.place k.queued.place.value).waiting k.full c.in-Some.ensures.taken.1 in
    let x = c.index_mut-station.result.now in
    let unit = read_item n.stations.items (length n.stations.items) k.switch x refl (omega (arith, known.switch_there, n.switches)) c.index_mut-station.ensures.value in
    views_same station_in (λ x. x.tables) n.stations.items k.switch x c.leave.new.station unit c.leave.ensures.tables

pub returns-clause-leave : goal.returns-clause-leave
returns-clause-leave g c =
    let n = c.args.self.now in
    let k = c.in-Some.parked in
    let ps = map place_in n.places.items in
    let known = waiting_known (length n.network.names) (limits_of n.limits) ps c.args.packet c.requires n.within k.switch k.port k.passed (g.P.Pass.place k.queued.place.value).waiting k.full c.in-Some.ensures.taken.1 in
    let x = c.index_mut-station.result.now in
    let unit = read_item n.stations.items (length n.stations.items) k.switch x refl (omega (arith, known.switch_there, n.switches)) c.index_mut-station.ensures.value in
    left_runs (state_of n) c.args.packet k.switch k.port k.passed (g.P.Pass.place k.queued.place.value).waiting (station_in x) (station_in c.leave.new.station) _ _ _ c.requires k.full c.in-Some.ensures.taken.1
    (view_there station_in n.stations.items k.switch x unit) c.leave.ensures.program c.leave.ensures.tables c.in_ok-next.ensures.cells
    (map-set station_in n.stations.items k.switch c.leave.new.station)
    (put_back c.take_parked.new.places.items n.places.items c.args.packet c.replace-over.new.dest c.in-Some.ensures.taken.0
    ∙ ap (set ps c.args.packet) (ap place_in c.replace-over.ensures.after ∙ c.in_ok-next.ensures.place))
    c.in_ok-next.ensures.traffic

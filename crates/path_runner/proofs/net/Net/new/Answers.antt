use Rattle.std.proofs.Common.{◌≡◌, List, Some, length, map, ap, sym, ◌∙◌, subst, arith}
use Rattle.std.proofs.lemmas.List.{length-map}
use Rattle.p4_meaning.specs.Pass.{Queued}
use Rattle.network_run.specs.World.{first_place}
use Rattle.path_runner.specs.Conditions.{AreMapped}
use Rattle.path_runner.specs.Nets.{Switch, Traffic}
use Rattle.path_runner.specs.Starts.{in_flight}
use Rattle.set_contents.specs.Maps.{map_of, maps_of}
use Rattle.path_runner.specs.Packets.{arrival_of}
use Rattle.path_runner.specs.Switches.{switch_of}
use Rattle.path_runner.specs.Places.{place_in}
use Rattle.path_runner.specs.Views.{station_in}
use Rattle.path_runner.proofs.Made.{made_before}
use Rattle.path_runner.proofs.Starting.{before_starts, before_worlds, arrivals_within, arrivals_going}
use Rattle.path_runner.proofs.net.Net.new.Goals as goal

pub invariant_of-result-clause-switches : goal.invariant_of-result-clause-switches
invariant_of-result-clause-switches g c =
    sym (length-map c.in_ok-stations.stations.items station_in) ∙ ap (λ (l : _). length l) c.in_ok-stations.ensures ∙ c.requires.switches

pub invariant_of-result-clause-lists : goal.invariant_of-result-clause-lists
invariant_of-result-clause-lists g c = sym (length-map c.args.map.items (λ v. map_of v.items)) ∙ c.requires.lists

pub invariant_of-result-clause-mapped : goal.invariant_of-result-clause-mapped
invariant_of-result-clause-mapped g c =
    subst (λ (xs : List Switch). AreMapped xs (maps_of c.args.map.items)) (sym c.in_ok-stations.ensures) c.requires.mapped

pub invariant_of-result-clause-few : goal.invariant_of-result-clause-few
invariant_of-result-clause-few g c =
    let arrivals = map arrival_of c.args.packets.items in
    let same : length (map place_in c.in_ok-places.places.items) ≡ length (in_flight arrivals) = ap (λ (l : _). length l) c.in_ok-places.ensures in
    omega (arith, length-map c.in_ok-places.places.items place_in, same, length-map arrivals (λ a. first_place {Q = Queued} (Some a)), c.requires.few)

pub invariant_of-result-clause-counted : goal.invariant_of-result-clause-counted
invariant_of-result-clause-counted g c =
    let dropped = ap (λ (t : Traffic). t.dropped) c.new.ensures in
    let lost = ap (λ (t : Traffic). t.lost) c.new.ensures in
    let going = arrivals_going (map arrival_of c.args.packets.items) in
    rw c.in_ok-places.ensures (omega (arith, dropped, lost, going, c.requires.few))

pub invariant_of-result-clause-made : goal.invariant_of-result-clause-made
invariant_of-result-clause-made g c = made_before _ c.in_ok-places.places.items (map arrival_of c.args.packets.items) c.in_ok-places.ensures

pub invariant_of-result-clause-within : goal.invariant_of-result-clause-within
invariant_of-result-clause-within g c =
    rw c.in_ok-places.ensures (arrivals_within c.args.network (record { hops = c.args.hops; link = c.args.limit }) (map arrival_of c.args.packets.items) c.requires.hops c.requires.packets)

pub returns-clause-starts : goal.returns-clause-starts
returns-clause-starts g c = λ p keeps contents are.
    rw (c.in_ok-stations.ensures, c.in_ok-places.ensures, c.new.ensures)
    (before_starts c.args.network (record { hops = c.args.hops; link = c.args.limit }) (map (switch_of g.P.Pass.program g.P.Pass.tables g.P.Pass.cells) c.args.switches.items) (maps_of c.args.map.items) (map arrival_of c.args.packets.items) p keeps contents are)

pub returns-clause-worlds : goal.returns-clause-worlds
returns-clause-worlds g c = λ p w are same.
    rw (c.in_ok-stations.ensures, c.in_ok-places.ensures, c.new.ensures)
    (before_worlds c.args.network (record { hops = c.args.hops; link = c.args.limit }) (map (switch_of g.P.Pass.program g.P.Pass.tables g.P.Pass.cells) c.args.switches.items) (maps_of c.args.map.items) (map arrival_of c.args.packets.items) p w are same)

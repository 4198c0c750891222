use Rattle.std.proofs.Common.{◌≡◌, true, map, rules}
use Rattle.std.specs.Prelude.{codes}
use Rattle.p4_parts.specs.PartsIn.{parts_in}
use Rattle.slot_terms.specs.Places.{places_of}
use Rattle.slot_parsers.specs.Code.{state_in}
use Rattle.slot_parsers.specs.Parses.{are_named, heads_of, target, AreStatesOf}
use Rattle.slot_parsers.proofs.TurnLemmas.{parses}
use Rattle.slot_parser_codes.proofs.making.parser_code.Goals as goal

pub returns-clause-parses : goal.returns-clause-parses
returns-clause-parses c =
    let m = places_of c.args.places.now in
    let p = parts_in c.args.p.now in
    let named : are_named p.states ≡ true = search rules in
    let are : AreStatesOf m (heads_of p) p.headers p.states (map state_in c.in_ok-states.states.items) p.states = rw c.deref-3.ensures.value at c.in_ok-states.ensures.do_states in
    let start : c.in_ok-start-2.start ≡ target p.states (codes "start") = search rules in
    parses m (heads_of p) p (record { states = map state_in c.in_ok-states.states.items; start = c.in_ok-start-2.start }) named are start

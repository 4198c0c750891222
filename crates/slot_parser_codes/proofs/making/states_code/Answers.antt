use Rattle.std.proofs.Common.{map, take}
use Rattle.p4_tree.specs.View.{state_of}
use Rattle.p4_parts.specs.PartsIn.{parts_in}
use Rattle.slot_terms.specs.Places.{places_of}
use Rattle.slot_parsers.specs.Code.{state_in}
use Rattle.slot_parsers.specs.Parses.{AreStatesOf, heads_of}
use Rattle.slot_parser_codes.specs.KnownParsers.{are_known_states, is_known_state}
use Rattle.slot_parser_codes.proofs.LoopLemmas.{passed_more, one_more_made, states_more}
use Rattle.slot_parser_codes.proofs.making.states_code.Goals as goal

pub loop-st-preserved : goal.loop-st-preserved
loop-st-preserved c =
    let m = places_of c.args.places.now in
    let heads = heads_of (parts_in c.args.p.now) in
    let hs = (parts_in c.args.p.now).headers in
    let all = (parts_in c.args.p.now).states in
    record {
      known = passed_more state_of (is_known_state m) (are_known_states m (map state_of c.args.states.now)) c.args.states.now c.loop-st.st-index c.st-item.result c.loop-st-test.true c.st-item.is c.in_ok-c.ensures.known c.loop-st.invariant.known;
      done =
          one_more_made (AreStatesOf m heads hs all) state_in state_of c.args.states.now c.loop-st.st-index c.st-item.result c.loop-st.codes.items c.push.new.list.items c.in_ok-c.c c.loop-st-test.true c.st-item.is c.in_ok-push.ensures
          (states_more m heads hs all (map state_in c.loop-st.codes.items) (map state_of (take c.loop-st.st-index c.args.states.now)) (state_in c.in_ok-c.c) (state_of c.st-item.result) c.loop-st.invariant.done c.in_ok-c.ensures.does);
    }

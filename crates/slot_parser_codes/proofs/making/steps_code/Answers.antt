use Rattle.std.proofs.Common.{map, take}
use Rattle.p4_tree.specs.View.{stmt_of}
use Rattle.p4_parts.specs.PartsIn.{parts_in}
use Rattle.slot_terms.specs.Places.{places_of}
use Rattle.slot_parsers.specs.Code.{step_of}
use Rattle.slot_parsers.specs.Parses.{DoSteps, heads_of}
use Rattle.slot_parsers.proofs.StepLemmas.{steps_more}
use Rattle.slot_parser_codes.specs.KnownParsers.{are_known_stmts, is_known_stmt}
use Rattle.slot_parser_codes.proofs.LoopLemmas.{passed_more, one_more_made}
use Rattle.slot_parser_codes.proofs.making.steps_code.Goals as goal

pub loop-st-preserved : goal.loop-st-preserved
loop-st-preserved c =
    let m = places_of c.args.places.now in
    let heads = heads_of (parts_in c.args.p.now) in
    let hs = (parts_in c.args.p.now).headers in
    record {
      known = passed_more stmt_of (is_known_stmt m) (are_known_stmts m (map stmt_of c.args.body.now)) c.args.body.now c.loop-st.st-index c.st-item.result c.loop-st-test.true c.st-item.is c.in_ok-c.ensures.known c.loop-st.invariant.known;
      done =
          one_more_made (DoSteps m heads hs) step_of stmt_of c.args.body.now c.loop-st.st-index c.st-item.result c.loop-st.steps.items c.push.new.list.items c.in_ok-c.c c.loop-st-test.true c.st-item.is c.in_ok-push.ensures
          (steps_more m heads hs (map step_of c.loop-st.steps.items) (map stmt_of (take c.loop-st.st-index c.args.body.now)) (step_of c.in_ok-c.c) (stmt_of c.st-item.result) c.loop-st.invariant.done c.in_ok-c.ensures.does);
    }

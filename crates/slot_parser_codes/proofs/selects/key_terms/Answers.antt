use Rattle.std.proofs.Common.{map, take}
use Rattle.p4_tree.specs.View.{expr_of}
use Rattle.slot_terms.specs.Typed.{typed_of}
use Rattle.slot_terms.specs.Places.{places_of}
use Rattle.slot_terms.specs.Known.{is_known}
use Rattle.slot_parsers.specs.Selects.{TermsMean}
use Rattle.slot_parsers.proofs.StepLemmas.{terms_more}
use Rattle.slot_parser_codes.specs.KnownParsers.{are_known}
use Rattle.slot_parser_codes.proofs.LoopLemmas.{passed_more, one_more_made}
use Rattle.slot_parser_codes.proofs.selects.key_terms.Goals as goal

pub loop-e-preserved : goal.loop-e-preserved
loop-e-preserved c =
    let m = places_of c.args.places.now in
    record {
      known = passed_more expr_of (is_known m) (are_known m (map expr_of c.args.list.now)) c.args.list.now c.loop-e.e-index c.e-item.result c.loop-e-test.true c.e-item.is c.in_ok-t.ensures.known c.loop-e.invariant.known;
      means =
          one_more_made (λ ts es. TermsMean m es ts) typed_of expr_of c.args.list.now c.loop-e.e-index c.e-item.result c.loop-e.terms.items c.push.new.list.items c.in_ok-t.t c.loop-e-test.true c.e-item.is c.in_ok-push.ensures
          (terms_more m (map expr_of (take c.loop-e.e-index c.args.list.now)) (map typed_of c.loop-e.terms.items) (expr_of c.e-item.result) (typed_of c.in_ok-t.t) c.loop-e.invariant.means c.in_ok-t.ensures.means);
    }

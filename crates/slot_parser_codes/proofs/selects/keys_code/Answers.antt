use Rattle.std.proofs.Common.{map, take, sym, ap, subst, ◌∙◌}
use Rattle.p4_tree.specs.View.{keyset_of}
use Rattle.slot_terms.specs.Typed.{typed_of}
use Rattle.slot_terms.specs.Places.{places_of}
use Rattle.slot_parsers.specs.Code.{key_of}
use Rattle.slot_parsers.specs.Selects.{FitEach, FitsInWidth, AreOfKinds, width_at}
use Rattle.slot_parsers.proofs.MakingLemmas.{fit_more, kinds_more}
use Rattle.slot_parser_codes.specs.KnownParsers.{are_known_keys, is_known_key}
use Rattle.slot_parser_codes.proofs.LoopLemmas.{passed_more, one_more_made, one_longer}
use Rattle.slot_parser_codes.proofs.selects.keys_code.Goals as goal

pub loop-i-preserved : goal.loop-i-preserved
loop-i-preserved c =
    let m = places_of c.args.places.now in
    let ts = map typed_of c.args.terms.now in
    let made = map key_of c.loop-i.keys.items in
    let passed = map keyset_of (take c.loop-i.i c.args.sets.now) in
    record {
      count = one_longer key_of c.loop-i.keys.items c.push.new.list.items c.in_ok-key.key c.loop-i.i c.in_ok-push.ensures c.loop-i.invariant.count;
      known = passed_more keyset_of (is_known_key m) (are_known_keys m (map keyset_of c.args.sets.now)) c.args.sets.now c.loop-i.i c.index-sets-i.result c.loop-i-test.true c.index-sets-i.is c.in_ok-key.ensures.known c.loop-i.invariant.known;
      each =
          one_more_made (FitEach m ts) key_of keyset_of c.args.sets.now c.loop-i.i c.index-sets-i.result c.loop-i.keys.items c.push.new.list.items c.in_ok-key.key c.loop-i-test.true c.index-sets-i.is c.in_ok-push.ensures
          (fit_more m ts made passed (key_of c.in_ok-key.key) (keyset_of c.index-sets-i.result) c.loop-i.invariant.each
          (subst (λ w. FitsInWidth m w (key_of c.in_ok-key.key) (keyset_of c.index-sets-i.result)) (c.width_at.ensures ∙ ap (width_at ts) (sym c.loop-i.invariant.count)) c.in_ok-key.ensures.fits));
      kinds =
          one_more_made AreOfKinds key_of keyset_of c.args.sets.now c.loop-i.i c.index-sets-i.result c.loop-i.keys.items c.push.new.list.items c.in_ok-key.key c.loop-i-test.true c.index-sets-i.is c.in_ok-push.ensures
          (kinds_more made passed (key_of c.in_ok-key.key) (keyset_of c.index-sets-i.result) c.loop-i.invariant.kinds c.in_ok-key.ensures.kind);
    }

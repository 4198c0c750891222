use Rattle.std.proofs.Common.{◌≡◌, true, sym, subst}
use Rattle.slot_places.specs.ProgramPlaces.{are_widths}
use Rattle.slot_places.proofs.LoopLemmas.{widths_push}
use Rattle.slot_places.proofs.PlacedLemmas.{widths_loop}
use Rattle.slot_places.proofs.begins.field_widths.Goals as goal

pub loop-f-preserved : goal.loop-f-preserved
loop-f-preserved c = record {
  widths = widths_loop c.args.fields.now c.loop-f.f-index c.f-item.result c.loop-f.widths.items c.push.new.self.items c.loop-f-test.true c.f-item.is c.loop-f.invariant.widths c.in_ok-push.ensures.items;
  sound = subst (λ l. are_widths l ≡ true) (sym c.in_ok-push.ensures.items) (widths_push c.loop-f.widths.items c.f-item.result.width c.loop-f.invariant.sound c.f-item.result.wide c.f-item.result.narrow);
}

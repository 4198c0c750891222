use Rattle.std.proofs.Common.{map, ◌∙◌}
use Rattle.indus_tree.specs.View.{property_of}
use Rattle.network_file.specs.Events.{event_of}
use Rattle.table_items.specs.Views.{contents_view}
use Rattle.control_course.proofs.Numbers.{are_few, are_many}
use Rattle.control_course.proofs.items.items_in.Goals as goal

pub returns-in-Ok : goal.returns-in-Ok
returns-in-Ok c = record {
  judged =
      are_few c.args.name.now (property_of c.args.property.now) (map contents_view c.args.contents.now) (map event_of c.args.events.now) _ _ (c.deref.ensures.value ∙ c.in_ok-numbers.ensures) _ c.table_items.ensures _ c.in-Ok.is;
}

pub returns : goal.returns
returns c = record {
  judged =
      are_many c.args.name.now (property_of c.args.property.now) (map contents_view c.args.contents.now) (map event_of c.args.events.now) _ _ (c.deref.ensures.value ∙ c.in_ok-numbers.ensures) _ c.table_items.ensures _ _ c.in-Err.is
      c.in_ok-place_text-in-Err.ensures;
}

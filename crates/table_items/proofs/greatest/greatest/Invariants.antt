use Rattle.std.proofs.Common.{◌≡◌, map, drop}
use Rattle.network_file.specs.Events.{event_of}
use Rattle.table_items.specs.Items.{held_items}
use Rattle.table_items.specs.Steps.{noted}
use Rattle.table_items.specs.Views.{contents_view}
use Rattle.table_items.proofs.greatest.greatest.Given as goal

abbrev pub invariant-loop-event : goal.invariant-loop-event
invariant-loop-event l =
    noted l.variable l.most (map event_of (drop l.event-index l.events)) ≡ noted l.variable (map (held_items l.seat) (map contents_view l.control)) (map event_of l.events)

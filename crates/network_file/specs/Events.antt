-- The steps of a schedule as the network's run has them.
use Rattle.indus_tree.specs.State.{Contents}
use Rattle.indus_values.specs.View.{contents_of}
use Rattle.network_run.specs.Events as run
use Rattle.network_file.specs.declared.event.Event.{Event}
use Rattle.network_file.specs.declared.event.Event.TheVariants.{Enter, Leave, Set}

abbrev pub event_of : Event → run.Event Contents
event_of (Enter packet) = run.Enter packet
event_of (Leave packet) = run.Leave packet
event_of (Set switch variable contents) = run.Set switch variable (contents_of contents)

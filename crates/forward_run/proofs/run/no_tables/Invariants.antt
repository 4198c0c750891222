use Rattle.std.proofs.Common.{◌≡◌}
use Rattle.set_contents.specs.Maps.{maps_of}
use Rattle.forward_run.specs.Switches.{no_maps}
use Rattle.forward_run.proofs.run.no_tables.Given as goal

abbrev pub invariant-loop : goal.invariant-loop
invariant-loop l = maps_of l.lists.items ≡ no_maps l.counter

use Rattle.std.proofs.Common.{map}
use Rattle.indus_values.specs.View.{cells_of}
use Rattle.indus_run.proofs.Shortest.{shortest_of_all}
use Rattle.indus_run.proofs.run.shortest.Goals as goal

pub loop-list-init : goal.loop-list-init
loop-list-init c = shortest_of_all (map cells_of c.args.lists.now)

use Rattle.indus_tree.specs.View.{property_of}
use Rattle.indus_run.proofs.ReportLemmas.{short_property}
use Rattle.indus_run.proofs.shape.has_short_reports.Goals as goal

pub returns : goal.returns
returns c = rw c.all_short.ensures (short_property (property_of c.args.p.now))

use Rattle.std.proofs.Common.{map, sym, ap, subst}
use Rattle.indus_tree.specs.View.{property_of}
use Rattle.p4_tree.specs.View.{program_of}
use Rattle.tele_layout.specs.Layouts.{IsLayoutOf}
use Rattle.linked_starts.specs.Starts.{found_row}
use Rattle.lower_blocks.specs.Results.{rows_of}
use Rattle.program_linker.specs.Simpler.{AreSimplyLinked}
use Rattle.linked_jobs.specs.Views.{programs_in, rows_in}
use Rattle.linked_run.proofs.simplifying.simplified.Goals as goal

pub returns-clause-simpler : goal.returns-clause-simpler
returns-clause-simpler g c =
    let job = c.args.job in
    let new = c.in_ok-linked.linked in
    let f = program_of job.program in
    let p = property_of job.property in
    record {
      ready = c.requires.ready;
      linked = subst (λ m. AreSimplyLinked f p job.network (programs_in new) (rows_of m)) (sym c.in_ok-linked.ensures.map) (c.in_ok-linked.ensures.linked f p job.network c.requires.linked);
      spelled = c.in_ok-linked.ensures.spelled c.requires.spelled;
      layout = subst (IsLayoutOf p) (sym c.in_ok-linked.ensures.layout) c.requires.layout;
    }

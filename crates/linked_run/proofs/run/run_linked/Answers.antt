use Rattle.std.proofs.Common.{All, sym, ap, subst}
use Rattle.p4_tree.specs.View.{program_of}
use Rattle.p4_printer.specs.CanSpell.{CanSpell}
use Rattle.job_course.specs.Output.{out_of}
use Rattle.forward_texts.specs.Switches.{log_view}
use Rattle.run_output.specs.Ends.{IsEnd}
use Rattle.run_output.specs.Ends.{IsOutput}
use Rattle.run_output.specs.Views.{parts_view}
use Rattle.linked_jobs.specs.Job.{Job}
use Rattle.linked_jobs.specs.Views.{job_of}
use Rattle.linked_run.specs.Headline.{Headline}
use Rattle.linked_run.specs.Views.{parts_in}
use Rattle.linked_run.proofs.Written.{if_ok, headline}
use Rattle.linked_run.proofs.run.run_linked.Goals as goal

pub output_of-requires-clause-end : goal.output_of-requires-clause-end
output_of-requires-clause-end g c =
    let end = c.in_ok-end.end in
    subst (λ ps. IsEnd ps (log_view g.B.Unit.Pass.program g.B.Unit.Pass.tables g.B.Unit.Pass.cells end.log)) (ap (λ x. x.programs) (sym c.parts-parts.ensures.parts)) c.in_ok-end.ensures.finished.end

pub output_of-requires-clause-spelled : goal.output_of-requires-clause-spelled
output_of-requires-clause-spelled g c = subst (λ ts. All (λ t. CanSpell (program_of t)) ts) (sym c.parts-parts.ensures.programs) c.in_ok-end.ensures.spelled

pub returns : goal.returns
returns g c =
    let j = job_of c.in_ok-job.job in
    let x = parts_view c.parts-parts.result in
    let s = log_view g.B.Unit.Pass.program g.B.Unit.Pass.tables g.B.Unit.Pass.cells c.in_ok-end.end.log in
    let out = c.args.out.now in
    if_ok (λ o. IsOutput out x s (out_of o)) (λ o. Headline (job_of c.args.job) out (out_of o)) c.output_of.result
    (λ o h. subst (λ (i : Job). Headline i out (out_of o)) c.in_ok-job.ensures.same (headline j x (parts_in c.in_ok-end.end) s c.parts-parts.ensures.parts c.in_ok-end.ensures.finished out (out_of o) h)) c.output_of.ensures

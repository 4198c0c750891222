use Rattle.std.proofs.Common.{false}
use Rattle.case_file.specs.Views.{case_view}
use Rattle.case_file.specs.declared.case.Case.{Case}
use Rattle.job_course.proofs.Courses.{follows_then, follows_first, follows_exit}
use Rattle.forward_job.specs.Course.{forward_course}
use Rattle.case_course.proofs.Steps.{case_follows}
use Rattle.forward_job.proofs.Ready.{if_ready}
use Rattle.forward_job.proofs.load.load_forward.Goals as goal

pub returns-in_err-value-clause-follows : goal.returns-in_err-value-clause-follows
unfolding forward_course
returns-in_err-value-clause-follows g c = follows_exit _ c.from_residual.ensures (follows_first _ c.in_err-value.ensures.follows)

pub returns-in_err-case-clause-follows : goal.returns-in_err-case-clause-follows
unfolding forward_course
returns-in_err-case-clause-follows g c =
    follows_exit _ c.from_residual-in_err-case.ensures (follows_then _ c.in_ok-value.ensures.follows (follows_first {Q = Case} _ {first = case_view} (case_follows false _ _ _ _ c.in_err-case.ensures.judged)))

pub returns-in_err-ground-clause-follows : goal.returns-in_err-ground-clause-follows
unfolding forward_course
returns-in_err-ground-clause-follows g c =
    follows_exit _ c.from_residual-in_err-ground.ensures (follows_then _ c.in_ok-value.ensures.follows (follows_then {Q = Case} _ {first = case_view} {q = c.in_ok-case.case} (case_follows false _ _ _ _ c.in_ok-case.ensures.judged) (follows_first _ c.in_err-ground.ensures.follows)))

pub returns-clause-follows : goal.returns-clause-follows
unfolding forward_course
returns-clause-follows g c =
    follows_then _ c.in_ok-value.ensures.follows (follows_then {Q = Case} _ {first = case_view} {q = c.in_ok-case.case} (case_follows false _ _ _ _ c.in_ok-case.ensures.judged) (follows_then _ c.in_ok-ground.ensures.follows c.load_rest.ensures.follows))

pub returns-clause-ready : goal.returns-clause-ready
unfolding forward_course
returns-clause-ready g c =
    if_ready _ _ _ _
    (follows_then _ c.in_ok-value.ensures.follows (follows_then {Q = Case} _ {first = case_view} {q = c.in_ok-case.case} (case_follows false _ _ _ _ c.in_ok-case.ensures.judged) (follows_then _ c.in_ok-ground.ensures.follows c.load_rest.ensures.follows)))
    c.load_rest.ensures.tables

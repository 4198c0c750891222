use Rattle.std.proofs.Common.{true}
use Rattle.case_file.specs.Views.{case_view}
use Rattle.case_file.specs.declared.case.Case.{Case}
use Rattle.job_course.proofs.Courses.{follows_then, follows_first, follows_exit}
use Rattle.case_course.proofs.CaseLemmas.{room_is_small}
use Rattle.case_course.proofs.Steps.{case_follows}
use Rattle.run_job.specs.Course.{linked_course}
use Rattle.run_job.proofs.Ready.{linked_base}
use Rattle.run_job.proofs.load.load_linked.Goals as goal

pub returns-in_err-value-clause-follows : goal.returns-in_err-value-clause-follows
unfolding linked_course
returns-in_err-value-clause-follows g c = follows_exit _ c.from_residual.ensures (follows_first _ c.in_err-value.ensures.follows)

pub returns-in_err-case-clause-follows : goal.returns-in_err-case-clause-follows
unfolding linked_course
returns-in_err-case-clause-follows g c =
    follows_exit _ c.from_residual-in_err-case.ensures (follows_then _ c.in_ok-value.ensures.follows (follows_first {Q = Case} _ {first = case_view} (case_follows true _ _ _ _ c.in_err-case.ensures.judged)))

pub returns-in_err-base-clause-follows : goal.returns-in_err-base-clause-follows
unfolding linked_course
returns-in_err-base-clause-follows g c =
    follows_exit _ c.from_residual-in_err-base.ensures
    (follows_then _ c.in_ok-value.ensures.follows (follows_then {Q = Case} _ {first = case_view} {q = c.in_ok-case.case} (case_follows true _ _ _ _ c.in_ok-case.ensures.judged) c.in_err-base.ensures.follows))

pub returns-clause-follows : goal.returns-clause-follows
unfolding linked_course
returns-clause-follows g c =
    follows_then _ c.in_ok-value.ensures.follows (follows_then {Q = Case} _ {first = case_view} {q = c.in_ok-case.case} (case_follows true _ _ _ _ c.in_ok-case.ensures.judged) c.in_ok-base.ensures.follows)

pub returns-clause-read : goal.returns-clause-read
returns-clause-read g c =
    linked_base c.texts_are_plain.ensures c.texts_declare_words.ensures _ _ _ _ (returns-clause-follows g c)
    c.is_sound.ensures.some c.is_sound.ensures.few c.in_ok-base.ensures.spelled

pub load_base-requires : goal.load_base-requires
load_base-requires g c = record { room = room_is_small true _ (case_view c.in_ok-case.case) c.in_ok-case.ensures.judged.given }

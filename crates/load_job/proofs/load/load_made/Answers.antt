use Rattle.std.proofs.Common.{Ok, Err, refl, ◌∙◌, ap}
use Rattle.outside.specs.SureStore.{sure_store_state}
use Rattle.job_course.proofs.Courses.{follows_exit, reads_none}
use Rattle.job_course.specs.Output.{files_of}
use Rattle.run_job.specs.Views.{task_of}
use Rattle.load_job.specs.Course.{load_course}
use Rattle.load_job.specs.Views.{task_in}
use Rattle.load_job.specs.Within.{held_by}
use Rattle.load_job.proofs.Within.{other_view}
use Rattle.load_job.proofs.Asked.{made_follows}
use Rattle.load_job.proofs.load.load_made.Goals as goal

pub returns-in_err-files-clause-follows : goal.returns-in_err-files-clause-follows
returns-in_err-files-clause-follows c s = follows_exit _ c.from_residual.ensures (record { keeps = reads_none s })

pub returns-in_err-hold-clause-follows : goal.returns-in_err-hold-clause-follows
returns-in_err-hold-clause-follows c s = follows_exit _ c.from_residual-in_err-hold.ensures (record { keeps = reads_none s })

pub returns-in_err-name-clause-follows : goal.returns-in_err-name-clause-follows
returns-in_err-name-clause-follows c s = follows_exit _ c.from_residual-in_err-name.ensures (record { keeps = reads_none s })

pub returns-in_err-job-clause-follows : goal.returns-in_err-job-clause-follows
returns-in_err-job-clause-follows c s =
    let n = c.args.n in
    let out = c.args.out.now in
    follows_exit _ c.from_residual-in_err-job.ensures
    (other_view (load_course n out) task_of task_in s s _
    (made_follows n out c.in_ok-files.ensures.case.1 task_of _ _ _ _ s _ (c.as_str.ensures.value ∙ c.in_ok-name.ensures.ok) (c.in_ok-hold.ensures ∙ ap held_by (ap files_of c.deref.ensures.value ∙ c.in_ok-files.ensures.files)) refl refl c.in_err-job.ensures.follows))

pub returns-clause-follows : goal.returns-clause-follows
returns-clause-follows c s =
    let n = c.args.n in
    let out = c.args.out.now in
    let made = made_follows n out c.in_ok-files.ensures.case.1 task_of _ _ _ _ s _ (c.as_str.ensures.value ∙ c.in_ok-name.ensures.ok) (c.in_ok-hold.ensures ∙ ap held_by (ap files_of c.deref.ensures.value ∙ c.in_ok-files.ensures.files)) refl refl c.in_ok-job.ensures.follows in
    record { keeps = made.keeps }

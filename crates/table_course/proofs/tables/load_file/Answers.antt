use Rattle.job_course.proofs.Courses.{follows_then, follows_first, follows_exit, judged_follows}
use Rattle.table_course.proofs.tables.load_file.Goals as goal

pub returns-in_err-value-clause-follows : goal.returns-in_err-value-clause-follows
returns-in_err-value-clause-follows g c = follows_exit _ c.from_residual.ensures (follows_first _ c.in_err-value.ensures.follows)

pub returns-clause-follows : goal.returns-clause-follows
returns-clause-follows g c = follows_then _ c.in_ok-value.ensures.follows (judged_follows _ _ _ _ _ c.tables_in.ensures.judged)

use Rattle.job_course.proofs.Courses.{follows_then, follows_first, follows_exit, judged_follows}
use Rattle.property_course.proofs.files.load_whole.Goals as goal

pub returns-in_err-text : goal.returns-in_err-text
returns-in_err-text g c = record { follows = follows_exit _ c.from_residual.ensures (follows_first _ c.in_err-text.ensures.follows) }

pub returns : goal.returns
returns g c = record { follows = follows_then _ c.in_ok-text.ensures.follows (judged_follows _ _ _ _ _ c.spelled.ensures.judged) }

use Rattle.job_course.proofs.Courses.{follows_then, follows_first, follows_exit, judged_follows}
use Rattle.control_course.proofs.contents.load_file.Goals as goal

pub returns-in_err-value : goal.returns-in_err-value
returns-in_err-value g c = record { follows = follows_exit _ c.from_residual.ensures (follows_first _ c.in_err-value.ensures.follows) }

pub returns : goal.returns
returns g c = record { follows = follows_then _ c.in_ok-value.ensures.follows (judged_follows _ _ _ _ _ c.contents_in.ensures.judged) }

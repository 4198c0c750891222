use Rattle.job_course.proofs.Courses.{follows_then, follows_first, follows_exit, judged_follows}
use Rattle.capture_course.proofs.files.load_captures.Goals as goal

pub returns-in_err-found : goal.returns-in_err-found
returns-in_err-found g c = record { follows = follows_exit _ c.from_residual.ensures (follows_first _ c.in_err-found.ensures.follows) }

pub returns : goal.returns
returns g c = record { follows = follows_then _ c.in_ok-found.ensures.follows (judged_follows _ _ _ _ _ c.few.ensures.judged) }

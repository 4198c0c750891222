use Rattle.job_course.proofs.Courses.{follows_then, follows_first, follows_exit, judged_follows}
use Rattle.network_course.proofs.Reading.{of_bytes}
use Rattle.network_course.proofs.files.load_value.Goals as goal

pub returns-in_err-bytes : goal.returns-in_err-bytes
returns-in_err-bytes g c = record { follows = follows_exit _ c.from_residual.ensures (follows_first _ c.in_err-bytes.ensures.follows) }

pub returns : goal.returns
returns g c = record { follows = follows_then _ c.in_ok-bytes.ensures.follows (judged_follows _ _ _ _ _ (of_bytes _ _ _ c.deref.ensures.value _ c.value_in.ensures.judged)) }

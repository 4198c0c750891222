use Rattle.job_course.proofs.Courses.{follows_then, follows_first, follows_exit, judged_follows}
use Rattle.program_course.proofs.files.load_program.Goals as goal

pub returns-in_err-program : goal.returns-in_err-program
returns-in_err-program g c = record { follows = follows_exit _ c.from_residual.ensures (follows_first _ c.in_err-program.ensures.follows) }

pub returns : goal.returns
returns g c = record { follows = follows_then _ c.in_ok-program.ensures.follows (judged_follows _ _ _ _ _ c.forwarding.ensures.judged) }

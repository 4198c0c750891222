use Rattle.job_course.proofs.Courses.{follows_then, follows_first, follows_exit, judged_follows}
use Rattle.program_course.proofs.files.load_typed.Goals as goal

pub returns-in_err-tree : goal.returns-in_err-tree
returns-in_err-tree g c = record { follows = follows_exit _ c.from_residual.ensures (follows_first _ c.in_err-tree.ensures.follows) }

pub returns : goal.returns
returns g c = record { follows = follows_then _ c.in_ok-tree.ensures.follows (judged_follows _ _ _ _ _ c.typed.ensures.judged) }

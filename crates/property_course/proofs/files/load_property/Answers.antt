use Rattle.job_course.proofs.Courses.{follows_then, follows_first, follows_exit, judged_follows}
use Rattle.property_course.proofs.Checking.{if_of_text}
use Rattle.property_course.proofs.files.load_property.Goals as goal

pub returns-in_err-tree-clause-follows : goal.returns-in_err-tree-clause-follows
returns-in_err-tree-clause-follows g c = follows_exit _ c.from_residual.ensures (follows_first _ c.in_err-tree.ensures.follows)

pub returns-clause-follows : goal.returns-clause-follows
returns-clause-follows g c = follows_then _ c.in_ok-tree.ensures.follows (judged_follows _ _ _ _ _ c.typed.ensures.judged)

pub returns-clause-read : goal.returns-clause-read
returns-clause-read g c = if_of_text _ _ _ _ (follows_then _ c.in_ok-tree.ensures.follows (judged_follows _ _ _ _ _ c.typed.ensures.judged))

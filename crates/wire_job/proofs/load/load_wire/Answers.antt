use Rattle.std.specs.Prelude.{⊤}
use Rattle.indus_tree.specs.View.{property_of}
use Rattle.indus_tree.specs.declared.tree.Property.{Property}
use Rattle.job_course.proofs.Courses.{follows_then, follows_first, follows_exit, judged_follows}
use Rattle.wire_job.specs.Course.{wire_course}
use Rattle.wire_job.proofs.load.load_wire.Goals as goal

pub returns-in_err-tree-clause-follows : goal.returns-in_err-tree-clause-follows
unfolding wire_course
returns-in_err-tree-clause-follows g c = follows_exit _ c.from_residual.ensures (follows_first _ c.in_err-tree.ensures.follows)

pub returns-in_err-uncontrolled-clause-follows : goal.returns-in_err-uncontrolled-clause-follows
unfolding wire_course
returns-in_err-uncontrolled-clause-follows g c =
    follows_exit _ c.from_residual-in_err-uncontrolled.ensures
    (follows_then {Q = Property} _ {first = property_of} {q = c.in_ok-tree.tree} c.in_ok-tree.ensures.follows
    (follows_first {Q = ⊤} _ {first = λ x. x} (judged_follows _ _ (λ x. x) _ _ c.in_err-uncontrolled.ensures.judged)))

pub returns-in_err-bytes-clause-follows : goal.returns-in_err-bytes-clause-follows
unfolding wire_course
returns-in_err-bytes-clause-follows g c =
    follows_exit _ c.from_residual-in_err-bytes.ensures
    (follows_then {Q = Property} _ {first = property_of} {q = c.in_ok-tree.tree} c.in_ok-tree.ensures.follows
    (follows_then {Q = ⊤} _ {first = λ x. x} {q = tt} (judged_follows _ _ (λ x. x) _ _ c.in_ok-uncontrolled.ensures.judged)
    (follows_first _ c.in_err-bytes.ensures.follows)))

pub returns-clause-follows : goal.returns-clause-follows
unfolding wire_course
returns-clause-follows g c =
    follows_then {Q = Property} _ {first = property_of} {q = c.in_ok-tree.tree} c.in_ok-tree.ensures.follows
    (follows_then {Q = ⊤} _ {first = λ x. x} {q = tt} (judged_follows _ _ (λ x. x) _ _ c.in_ok-uncontrolled.ensures.judged)
    (follows_then _ c.in_ok-bytes.ensures.follows (c.load_linked.ensures.follows _)))

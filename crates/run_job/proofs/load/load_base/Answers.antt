use Rattle.std.proofs.Common.{refl}
use Rattle.indus_tree.specs.View.{property_of}
use Rattle.indus_tree.specs.declared.tree.Property.{Property}
use Rattle.case_file.specs.Views.{case_view}
use Rattle.case_course.specs.Views.{ground_of}
use Rattle.job_course.proofs.Courses.{follows_then, follows_first, follows_exit, follows_give, judged_follows}
use Rattle.link_course.specs.Views.{linked_of}
use Rattle.run_job.specs.Course.{base_course}
use Rattle.run_job.proofs.Given.{property_is_fit, ground_is_fit}
use Rattle.run_job.proofs.Steps.{of_name}
use Rattle.run_job.proofs.load.load_base.Goals as goal

pub returns-in_err-property-clause-follows : goal.returns-in_err-property-clause-follows
unfolding base_course
returns-in_err-property-clause-follows g c =
    follows_exit _ c.from_residual.ensures (follows_first {Q = Property} _ {first = property_of} (of_name _ _ c.property_name.ensures _ _ _ c.in_err-property.ensures.follows))

pub returns-in_err-ground-clause-follows : goal.returns-in_err-ground-clause-follows
unfolding base_course
returns-in_err-ground-clause-follows g c =
    follows_exit _ c.from_residual-in_err-ground.ensures
    (follows_then {Q = Property} _ {first = property_of} {q = c.in_ok-property.property} (of_name _ _ c.property_name.ensures _ _ _ c.in_ok-property.ensures.follows) (follows_first _ c.in_err-ground.ensures.follows))

pub returns-in_err-linked-clause-follows : goal.returns-in_err-linked-clause-follows
unfolding base_course
returns-in_err-linked-clause-follows g c =
    follows_exit _ c.from_residual-in_err-linked.ensures
    (follows_then {Q = Property} _ {first = property_of} {q = c.in_ok-property.property} (of_name _ _ c.property_name.ensures _ _ _ c.in_ok-property.ensures.follows)
    (follows_then _ c.in_ok-ground.ensures.follows (follows_first _ {first = linked_of} (judged_follows _ _ _ _ _ c.in_err-linked.ensures.judged))))

pub returns-clause-follows : goal.returns-clause-follows
unfolding base_course
returns-clause-follows g c =
    follows_then {Q = Property} _ {first = property_of} {q = c.in_ok-property.property} (of_name _ _ c.property_name.ensures _ _ _ c.in_ok-property.ensures.follows)
    (follows_then _ c.in_ok-ground.ensures.follows
    (follows_then _ {first = linked_of} {q = c.in_ok-linked.linked} (judged_follows _ _ _ _ _ c.in_ok-linked.ensures.judged) (follows_give _ refl)))

pub returns-clause-spelled : goal.returns-clause-spelled
returns-clause-spelled g c =
    c.in_ok-linked.ensures.spelled (property_is_fit c.texts_are_plain.ensures c.texts_declare_words.ensures (property_of c.in_ok-property.property) _ c.in_ok-property.ensures.follows.keeps.may).names

pub load_link-requires-clause-text : goal.load_link-requires-clause-text
load_link-requires-clause-text g c = (ground_is_fit _ (case_view c.args.case.now) (ground_of c.in_ok-ground.ground) c.is_sound.ensures.some c.in_ok-ground.ensures.follows.keeps.may).spelled

pub load_link-requires-clause-leaves : goal.load_link-requires-clause-leaves
load_link-requires-clause-leaves g c = (ground_is_fit _ (case_view c.args.case.now) (ground_of c.in_ok-ground.ground) c.is_sound.ensures.some c.in_ok-ground.ensures.follows.keeps.may).leaves

pub load_link-requires-clause-plain : goal.load_link-requires-clause-plain
load_link-requires-clause-plain g c = (property_is_fit c.texts_are_plain.ensures c.texts_declare_words.ensures (property_of c.in_ok-property.property) _ c.in_ok-property.ensures.follows.keeps.may).plain

pub load_link-requires-clause-reports : goal.load_link-requires-clause-reports
load_link-requires-clause-reports g c = (property_is_fit c.texts_are_plain.ensures c.texts_declare_words.ensures (property_of c.in_ok-property.property) _ c.in_ok-property.ensures.follows.keeps.may).reports

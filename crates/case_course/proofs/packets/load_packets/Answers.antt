use Rattle.std.proofs.Common.{Ok, arith}
use Rattle.std.proofs.lemmas.List.{length-map}
use Rattle.case_file.specs.Views.{case_view}
use Rattle.network_course.specs.Views.{place_views}
use Rattle.path_runner.specs.Packets.{arrival_of}
use Rattle.job_course.specs.Steps.{Follows}
use Rattle.job_course.proofs.Courses.{follows_then, follows_first, follows_exit, follows_give}
use Rattle.case_course.specs.Course.{packets_course}
use Rattle.case_course.specs.Views.{packets_view}
use Rattle.case_course.proofs.Steps.{of_names}
use Rattle.case_course.proofs.Read.{packets_are_few}
use Rattle.case_course.proofs.packets.load_packets.Goals as goal

pub returns-in_err-captures-clause-follows : goal.returns-in_err-captures-clause-follows
unfolding packets_course
returns-in_err-captures-clause-follows g c =
    follows_exit _ c.from_residual.ensures (follows_first _ (of_names _ _ _ c.args.case.now.captures.items _ c.deref.ensures.value _ _ _ c.in_err-captures.ensures.follows))

pub returns-clause-follows : goal.returns-clause-follows
unfolding packets_course
returns-clause-follows g c =
    follows_then _ (of_names _ _ _ c.args.case.now.captures.items _ c.deref.ensures.value _ _ _ c.in_ok-captures.ensures.follows) (follows_give _ c.in_ok-packets_of.ensures)

pub returns-clause-few : goal.returns-clause-few
returns-clause-few g c =
    let p = c.in_ok-packets_of.field-0 in
    let course = packets_course c.args.name.now (case_view c.args.case.now) (place_views c.args.places.items) in
    let given : Follows course packets_view (g.S.Store.state c.args.store.now) (g.S.Store.state c.load_captures.new.store) (Ok p) = returns-clause-follows g c in
    let few = packets_are_few c.args.name.now (case_view c.args.case.now) (place_views c.args.places.items) (packets_view p) given.keeps.may in
    omega (arith, few, length-map p.packets.items arrival_of)

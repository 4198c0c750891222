use Rattle.std.proofs.Common.{refl}
use Rattle.network_file.specs.Network.{Network}
use Rattle.job_course.proofs.Courses.{follows_then, follows_first, follows_exit, follows_give}
use Rattle.case_course.specs.Course.{ground_course}
use Rattle.network_course.specs.Views.{place_views}
use Rattle.case_course.proofs.Steps.{of_cells, places_follow}
use Rattle.case_course.proofs.start.load_ground.Goals as goal

pub returns-in_err-program : goal.returns-in_err-program
unfolding ground_course
returns-in_err-program g c = record { follows = follows_exit _ c.from_residual.ensures (follows_first _ c.in_err-program.ensures.follows) }

pub returns-in_err-network : goal.returns-in_err-network
unfolding ground_course
returns-in_err-network g c =
    record { follows = follows_exit _ c.from_residual-in_err-network.ensures (follows_then _ c.in_ok-program.ensures.follows (follows_first {Q = Network} _ {first = λ n. n} (of_cells _ _ _ c.cells.ensures _ _ _ c.in_err-network.ensures.follows))) }

pub returns-in_err-places : goal.returns-in_err-places
unfolding ground_course
returns-in_err-places g c =
    record { follows = follows_exit _ c.from_residual-in_err-places.ensures (follows_then _ c.in_ok-program.ensures.follows (follows_then {Q = Network} _ {first = λ n. n} {q = c.in_ok-network.network} (of_cells _ _ _ c.cells.ensures _ _ _ c.in_ok-network.ensures.follows) (follows_first _ (places_follow _ _ c.args.case.now.captures.items _ c.deref.ensures.value _ _ c.in_err-places.ensures.judged)))) }

pub returns : goal.returns
unfolding ground_course
returns g c =
    record { follows = follows_then _ c.in_ok-program.ensures.follows (follows_then {Q = Network} _ {first = λ n. n} {q = c.in_ok-network.network} (of_cells _ _ _ c.cells.ensures _ _ _ c.in_ok-network.ensures.follows) (follows_then _ {first = λ v. place_views v.items} {q = c.in_ok-places.places} (places_follow _ _ c.args.case.now.captures.items _ c.deref.ensures.value _ _ c.in_ok-places.ensures.judged) (follows_give _ refl))) }

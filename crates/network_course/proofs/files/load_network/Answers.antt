use Rattle.network_file.specs.Network.{Network}
use Rattle.job_course.proofs.Courses.{follows_then, follows_first, follows_exit, judged_follows}
use Rattle.network_course.proofs.files.load_network.Goals as goal

pub returns-in_err-value : goal.returns-in_err-value
returns-in_err-value g c = record { follows = follows_exit _ c.from_residual.ensures (follows_first _ c.in_err-value.ensures.follows) }

pub returns-in_err-network : goal.returns-in_err-network
returns-in_err-network g c =
    record { follows = follows_exit _ c.from_residual-in_err-network.ensures (follows_then _ c.in_ok-value.ensures.follows (follows_first {Q = Network} _ {first = λ n. n} (judged_follows _ _ _ _ _ c.in_err-network.ensures.judged))) }

pub returns : goal.returns
returns g c =
    record { follows = follows_then _ c.in_ok-value.ensures.follows (follows_then {Q = Network} _ {first = λ n. n} {q = c.in_ok-network.network} (judged_follows _ _ _ _ _ c.in_ok-network.ensures.judged) (judged_follows _ _ _ _ _ c.within.ensures.judged)) }

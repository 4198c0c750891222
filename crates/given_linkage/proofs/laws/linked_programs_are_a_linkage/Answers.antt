use Rattle.given_linkage.proofs.Theorem.{of_given}
use Rattle.given_linkage.proofs.laws.linked_programs_are_a_linkage.Goals as goal

pub returns : goal.returns
returns g c =
    let n = g.L.LoweredMonitor in
    let kept = g.met.L.LinkedMonitor in
    λ x p net d q given host are. of_given (n.monitor x) (n.IsFitTele x) (n.Keeps x) (n.IsFitView x) (n.IsVariable x) (n.IsFitContents x) (kept.laws x given) p net d host q are

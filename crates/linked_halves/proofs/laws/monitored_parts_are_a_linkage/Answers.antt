use Rattle.linked_halves.proofs.Theorem.{linked}
use Rattle.linked_halves.proofs.laws.monitored_parts_are_a_linkage.Goals as goal

pub returns : goal.returns
returns g c =
    let n = g.L.LoweredMonitor in
    let kept = g.met.L.LinkedMonitor in
    λ x f net decls given host. linked (n.monitor x) (n.IsFitTele x) (n.Keeps x) (n.IsFitView x) (n.IsVariable x) (n.IsFitContents x) (kept.laws x given) f net decls host

use Rattle.linked_halves.proofs.Theorem.{laws_hold}
use Rattle.linked_halves.proofs.laws.monitored_halves_agree.Goals as goal

pub returns : goal.returns
returns g c =
    let n = g.L.LoweredMonitor in
    let kept = g.met.L.LinkedMonitor in
    λ x f net decls given host. laws_hold (n.monitor x) (n.IsFitTele x) (n.Keeps x) (n.IsFitView x) (n.IsVariable x) (n.IsFitContents x) (kept.laws x given) f net decls host

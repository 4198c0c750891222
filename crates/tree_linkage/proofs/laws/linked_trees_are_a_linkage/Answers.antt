use Rattle.tree_linkage.proofs.Theorem.{are_linked}
use Rattle.tree_linkage.proofs.laws.linked_trees_are_a_linkage.Goals as goal

pub returns : goal.returns
returns g c =
    let n = g.L.LoweredMonitor in
    let kept = g.met.L.LinkedMonitor in
    λ x l h p k net given can is wired. are_linked (n.monitor x) (n.IsFitTele x) (n.Keeps x) (n.IsFitView x) (n.IsVariable x) (n.IsFitContents x) (kept.laws x given) l h p k net can is wired

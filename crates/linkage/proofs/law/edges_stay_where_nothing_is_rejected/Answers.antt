-- No verdict rejects, so the filter of the edge frames takes out none.
use Rattle.linkage.proofs.NoRejects.{edges_stay}
use Rattle.linkage.proofs.law.edges_stay_where_nothing_is_rejected.Goals as goal

pub returns : goal.returns
returns g c =
    let n = g.L.LinkedNetwork in
    λ x. edges_stay (n.forwarding x) (n.linked x) (n.wiring x) (n.property x) (n.telemetry x) (n.registers x) (n.IsFitEntries x) (n.IsVariable x) (n.IsFitContents x)

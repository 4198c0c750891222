-- The linkage of the trait's machines, by the induction over events.
use Rattle.linkage.proofs.Runs.{linkage}
use Rattle.linkage.proofs.law.over_every_schedule.Goals as goal

pub returns : goal.returns
returns g c =
    let n = g.L.LinkedNetwork in
    let laws = g.met.L.LinkedHalves in
    λ x given. linkage (n.wiring x) (n.property x) (n.telemetry x) (n.Kept x) (n.Held x) (n.IsFitTele x) (n.forwarding x) (n.linked x) (n.registers x) (n.IsFitEntries x) (n.IsVariable x) (n.IsFitContents x) (laws.is_wiring x given) (laws.laws x given)

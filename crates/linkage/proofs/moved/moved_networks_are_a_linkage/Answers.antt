-- The laws of the trait's machines, by the induction over events.
use Rattle.linkage.proofs.MovedRuns.{same_runs}
use Rattle.linkage.proofs.MovedLinkages.{moved}
use Rattle.linkage.proofs.moved.moved_networks_are_a_linkage.Goals as goal

pub returns-clause-runs : goal.returns-clause-runs
returns-clause-runs g c =
    let n = g.M.MovedNetwork in
    let laws = g.met.M.MovedHalves in
    λ x given. same_runs (n.wiring x) (n.entries x) (n.forwarding x) (n.other x) (n.IsKept x) (n.IsQueued x) (n.IsFitOther x) (n.IsVariable x) (n.IsFitContents x) (laws.is_wiring x given) (laws.moves x given)

pub returns-clause-linkage : goal.returns-clause-linkage
returns-clause-linkage g c =
    let n = g.M.MovedNetwork in
    let laws = g.met.M.MovedHalves in
    λ x given before. moved (n.wiring x) (n.entries x) (n.forwarding x) (n.other x) (n.linked x) (n.other_linked x) (n.IsKept x) (n.IsQueued x) (n.IsLinkedKept x) (n.IsLinkedQueued x) (n.IsFitEntries x) (n.IsFitOther x) (n.IsVariable x) (n.IsFitContents x)
    (laws.is_wiring x given) (laws.fits x given) (laws.moves x given) (laws.linked_moves x given) (n.property x) (n.telemetry x) (n.registers x) before

use Rattle.std.proofs.Common.{ap, ◌∙◌, take}
use Rattle.p4_values.proofs.PathsLemmas.{parent_taken}
use Rattle.p4_values.proofs.names.parent.Goals as goal

pub returns : goal.returns
returns c = ap (λ n. take n c.args.path.now) c.saturating_sub.ensures ∙ parent_taken c.args.path.now

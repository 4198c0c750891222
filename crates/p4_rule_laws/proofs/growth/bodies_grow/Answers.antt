use Rattle.p4_rule_laws.proofs.BodiesGrow.{same_body, around_body, replaced_body, emitted_body}
use Rattle.p4_rule_laws.proofs.growth.bodies_grow.Goals as goal

pub returns : goal.returns
returns c = record { same = same_body; around = around_body; replaced = replaced_body; emitted = emitted_body }

use Rattle.p4_rule_laws.proofs.JoinedLemmas.{after_append, block_joined, block_parts, most_append}
use Rattle.p4_rule_laws.proofs.laws.statements_join.Goals as goal

pub returns : goal.returns
returns c = record { fine = λ h s a b. (block_parts h s a b, λ f. block_joined h s a b f.0 f.1); scope = after_append; digests = most_append }

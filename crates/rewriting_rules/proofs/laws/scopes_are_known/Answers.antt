use Rattle.rewriting_rules.proofs.Knows.{core_knows, top_knows, local_knows, after_knows}
use Rattle.rewriting_rules.proofs.laws.scopes_are_known.Goals as goal

pub returns : goal.returns
returns c = record { first = core_knows; tops = top_knows; locals = local_knows; statements = after_knows }

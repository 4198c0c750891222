use Rattle.std.proofs.Common.{rules, arith}
use Rattle.std.proofs.lemmas.Map.Text.{text_keys}
use Rattle.outside.proofs.held.put_in.Goals as goal

pub returns-clause-ok : goal.returns-clause-ok
returns-clause-ok c = record { here = search rules; others = λ other ne. grind (arith, text_keys) }

use Rattle.std.proofs.Common.{ap, ◌∙◌}
use Rattle.p4_meaning.specs.DigestBound.{most_of_table}
use Rattle.p4_parts.specs.PartsIn.{table_in}
use Rattle.slot_control_codes.specs.Callees.{callees_of}
use Rattle.slot_control_codes.proofs.BodyLemmas.{listed_all}
use Rattle.slot_control_codes.proofs.bodies.application.Goals as goal

pub returns-in_ok-a-in-Some-clause-told : goal.returns-in_ok-a-in-Some-clause-told
returns-in_ok-a-in-Some-clause-told c =
    c.in_ok-a-in-Some.ensures.told ∙ listed_all (callees_of c.args.k.now).actions (table_in c.in-Some.t.now) ∙ ap (most_of_table (callees_of c.args.k.now).actions) c.in-Some.ensures

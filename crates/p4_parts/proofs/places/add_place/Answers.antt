use Rattle.std.proofs.Common.{◌∙◌}
use Rattle.p4_parts.proofs.Placed.{tells_again, tells_more}
use Rattle.p4_parts.proofs.places.add_place.Goals as goal

pub returns-then-contains_key : goal.returns-then-contains_key
returns-then-contains_key c = λ names told count.
    tells_again c.args.places.now.entries names c.args.name.now c.as_str.result.now c.as_str.ensures c.if-contains_key.ensures told

pub returns : goal.returns
returns c = λ names told count.
    tells_more c.args.places.now.entries c.insert.new.self.entries names c.args.name.now c.as_str.result.now c.in_ok-from_str.field-0 c.args.place c.as_str.ensures c.if-contains_key.ensures
    (c.in_ok-from_str.ensures.ok ∙ c.as_str-2.ensures) count c.in_ok-insert.ensures.entries told

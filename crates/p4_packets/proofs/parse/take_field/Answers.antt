use Rattle.std.proofs.Common.{◌++◌, ◌∷◌, [], ap, ◌∙◌}
use Rattle.p4_meaning.specs.Store.{set_value}
use Rattle.p4_packets.specs.Fields.{store_of}
use Rattle.p4_parts.specs.Headers.{field_in}
use Rattle.p4_packets.proofs.ParseLemmas.{taken}
use Rattle.p4_packets.proofs.parse.take_field.Goals as goal

pub returns : goal.returns
returns c =
    let f = field_in c.args.f.now in
    taken c.args.frame.now c.args.at f (store_of c.args.s.now) (store_of c.set_field.new.self) c.args.path.now
    (c.in_ok-set_field.ensures ∙ ap (set_value (store_of c.args.s.now) (c.args.path.now ++ f.name ∷ [])) c.take_bits-v.ensures.number)

use Rattle.std.proofs.Common.{◌∙◌, refl}
use Rattle.p4_types.proofs.Known.{type_behind}
use Rattle.p4_types.proofs.constants.Known.add_type.Goals as goal

pub returns : goal.returns
returns c = λ sc words so.
    type_behind c.args.self.now sc so _ c.args.t.now c.args.name.now c.in_ok-name.name c.width-width.result
    (c.in_ok-name.ensures.ok ∙ c.as_str.ensures) c.width-width.ensures
    c.in_ok-insert.ensures.entries refl

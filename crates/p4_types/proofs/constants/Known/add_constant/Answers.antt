use Rattle.std.proofs.Common.{ap, ◌∙◌, ℕ, refl}
use Rattle.bit_values.specs.Widths.{sound_width, cast_word}
use Rattle.p4_tree.specs.View.{expr_of}
use Rattle.p4_types.proofs.Known.{constant_behind}
use Rattle.p4_types.proofs.constants.Known.add_constant.Goals as goal

pub returns : goal.returns
returns c = λ sc words so.
    constant_behind c.args.self.now sc words so _ c.args.t.now c.args.name.now (expr_of c.args.e.now) c.in_ok-name.name c.width-width.result c.cast-word.result
    (c.in_ok-name.ensures.ok ∙ c.as_str.ensures) c.width-width.ensures
    (c.cast-word.ensures ∙ ap (λ (n : ℕ). cast_word n c.value_of.result) c.sound_width.ensures.value ∙ ap (cast_word (sound_width c.width-width.result)) c.value_of.ensures)
    c.in_ok-insert.ensures.entries refl

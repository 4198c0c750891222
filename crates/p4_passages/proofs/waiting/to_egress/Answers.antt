use Rattle.std.proofs.Common.{ℕ, ap, ap₂, ◌∙◌}
use Rattle.bit_values.specs.Bits.{Word, word, cast}
use Rattle.p4_meaning.specs.Standard.{egress_spec, egress_port}
use Rattle.p4_meaning.specs.Store.{Store, set_value}
use Rattle.p4_passages.proofs.waiting.to_egress.Goals as goal

pub returns : goal.returns
returns c =
    c.in_ok-set_number-2.ensures
    ∙ ap (λ (s : Store). set_value s egress_spec (word 9 0)) (c.in_ok-set_number.ensures
    ∙ ap₂ (λ (s : Store) (n : ℕ). set_value s egress_port (word 9 (cast 9 n))) c.keep_declared.ensures (c.number.ensures ∙ ap (λ (v : Word). v.value) c.in_ok-spec.ensures))

use Rattle.std.proofs.Common.{ℕ, ap, nat_eq, ◌∙◌}
use Rattle.bit_values.specs.Bits.{Word}
use Rattle.p4_passages.proofs.halves.is_dropped.Goals as goal

pub returns : goal.returns
returns c = ap (λ (n : ℕ). nat_eq n 511) c.number.ensures ∙ ap (λ (v : Word). nat_eq v.value 511) c.in_ok-spec.ensures

-- What was put xor a number, and again, is itself.
use Rattle.std.proofs.Common.{◌≡◌, ℕ, ◌<◌, ◌^◌, zero, bit_xor, subst, sym, ap, ◌∙◌}
use Rattle.std.specs.Int.Bits.{xor_self, xor_zero_l, xor_zero_r, xor_assoc}
use Rattle.std.proofs.lemmas.Nat.{xor_lt}
use Rattle.bit_values.specs.Bits.{Word, IsWord, word}
use Rattle.sensor_registers.specs.Registers.{cell_value}

pub twice : (start value : Word) → cell_value start (cell_value start value) ≡ value
twice start value = ap (word value.width) (xor_assoc value.value start.value start.value ∙ ap (bit_xor value.value) (xor_self start.value) ∙ xor_zero_r value.value)

pub fresh : (start : Word) → cell_value start (word start.width 0) ≡ start
fresh start = ap (word start.width) (xor_zero_l start.value)

pub words : (start value : Word) → start.width ≡ value.width → IsWord start → IsWord value → IsWord (cell_value start value)
words start value same s v =
    let P : ℕ → Type 0 = λ w. start.value < 2 ^ w in
    record { wide = v.wide; narrow = v.narrow; in_range = xor_lt value.width value.value start.value v.in_range (subst P same s.in_range) }

-- Where one digit more is too large, so is the whole.
use Rattle.std.proofs.Common.{◌≡◌, ◌+◌, ◌*◌, ◌^◌, ◌≤◌, refl, arith, get_or, true}
use Rattle.std.proofs.lemmas.Bool.{lt-ltb}
use Rattle.std.specs.Char.{digit_value}
use Rattle.lex_text.specs.Numbers.{is_digit_of}
use Rattle.lex_text.proofs.Values.{too_large}
use Rattle.json_values.proofs.digits.value.Goals as goal

pub returns-in_err-value-clause-large : goal.returns-in_err-value-clause-large
returns-in_err-value-clause-large c =
    let base = c.args.base in
    let b = get_or c.args.digits.now c.loop-byte.byte-index 0 in
    let digit : is_digit_of base b ≡ true = lt-ltb (digit_value b) base c.in-Some.ensures.0 in
    let large : 2 ^ 128 ≤ c.loop-byte.value * base + digit_value b = rw (← c.in-Some.ensures.1) c.in_err-value.ensures.large in
    rw c.from_residual.ensures (rw c.loop-byte.invariant (too_large base c.loop-byte.value c.loop-byte.byte-index (2 ^ 128) c.args.digits.now b (omega (arith, c.requires.least)) (omega arith) refl digit large))

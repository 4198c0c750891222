-- The value of the digits so far leads to that of all.
use Rattle.std.proofs.Common.{◌≡◌, drop}
use Rattle.lex_text.specs.Numbers.{value_from}
use Rattle.json_values.proofs.digits.value.Given as goal

abbrev pub invariant-loop-byte : goal.invariant-loop-byte
invariant-loop-byte l = value_from l.base 0 l.digits ≡ value_from l.base l.value (drop l.byte-index l.digits)

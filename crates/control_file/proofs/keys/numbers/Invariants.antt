use Rattle.std.proofs.Common.{◌≡◌, take}
use Rattle.control_file.specs.Keys.{numbers_of}
use Rattle.control_file.proofs.keys.numbers.Given as goal

abbrev pub invariant-loop-word : goal.invariant-loop-word
invariant-loop-word l = l.numbers.items ≡ numbers_of (take l.word-index l.key)

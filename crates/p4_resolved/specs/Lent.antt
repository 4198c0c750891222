-- What is lent of a program.
use Rattle.std.specs.Prelude.{Option, Some, None}
use Rattle.std.proofs.Common.{Bor}

-- what is lent
abbrev pub lent : {A : Type 0} → Option (Bor A) → Option A
lent None = None
lent (Some x) = Some x.now

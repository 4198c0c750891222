-- The name of a file that may be given, without where it lies in memory.
use Rattle.std.specs.Prelude.{ℕ, List, Option, option_map}
use Rattle.std.proofs.Common.{Bor}

abbrev pub name_of : Option (Bor (List ℕ)) → Option (List ℕ)
name_of name = option_map (λ s. s.now) name

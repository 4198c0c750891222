-- Bytes of headers that are counted from the left.
use Rattle.std.proofs.Common.{ℕ, ◌/◌, ◌≤◌, List, [], ◌∷◌, arith}
use Rattle.p4_tree.specs.declared.statement.PTy.{PTy}
use Rattle.p4_scopes.specs.Scopes.{Scope, thing_in}
use Rattle.p4_scopes.specs.Uses.{header_bits}
use Rattle.p4_scopes.proofs.Changes.{cut_sum}
use Rattle.p4_declaration_rules.proofs.Sums.{IsSum, sum_at_first}
use Rattle.p4_rules.specs.Limits.{fields_bytes}

few_bytes : (s : Scope) (fs : List (PTy × List ℕ)) → fields_bytes s fs ≤ 4294967295
few_bytes s [] = omega arith
few_bytes s (f ∷ fs) = cut_sum (header_bits (thing_in s f.0) / 8) (fields_bytes s fs)

pub bytes_at_first : (s : Scope) (fs : List (PTy × List ℕ)) → IsSum 0 (fields_bytes s fs) (fields_bytes s fs)
bytes_at_first s fs = sum_at_first (fields_bytes s fs) (few_bytes s fs)

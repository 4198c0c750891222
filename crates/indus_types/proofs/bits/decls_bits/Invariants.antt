use Rattle.std.proofs.Common.{◌≡◌, ◌≤◌, ◌+◌, map, drop}
use Rattle.indus_tree.specs.View.{decl_of}
use Rattle.indus_types.specs.Sums.{cut_wide, decls_bits}
use Rattle.indus_types.proofs.bits.decls_bits.Given as goal

abbrev pub invariant-loop-d : goal.invariant-loop-d
invariant-loop-d l = (l.sum ≤ 18446744073709551615) × (cut_wide (l.sum + decls_bits (map decl_of (drop l.d-index l.decls))) ≡ cut_wide (decls_bits (map decl_of l.decls)))

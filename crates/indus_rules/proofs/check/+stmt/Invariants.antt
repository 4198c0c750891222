use Rattle.std.proofs.Common.{◌≡◌, drop}
use Rattle.indus_tree.specs.View.{block_of}
use Rattle.indus_scopes.specs.Sights.{scope_of}
use Rattle.indus_rules.specs.Sites.{block_sites}
use Rattle.indus_rules.specs.Rules.{first}
use Rattle.indus_rules.proofs.check.+stmt.Given as goal

abbrev pub invariant-check_block-loop-s : goal.invariant-check_block-loop-s
invariant-check_block-loop-s l = (scope_of l.scope ≡ scope_of l.initial.scope) × (first (block_sites (scope_of l.initial.scope) (block_of (drop l.s-index l.all))) ≡ first (block_sites (scope_of l.initial.scope) (block_of l.all)))

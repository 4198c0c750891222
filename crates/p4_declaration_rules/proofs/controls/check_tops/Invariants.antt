use Rattle.std.proofs.Common.{◌≡◌, drop, map}
use Rattle.p4_tree.specs.View.{top_of}
use Rattle.p4_scopes.specs.View.{scope_of}
use Rattle.p4_statement_rules.specs.Ranks.{first_from}
use Rattle.p4_declaration_rules.specs.Controls.{after_tops, tops_tests, most_of_tops}
use Rattle.p4_declaration_rules.proofs.Sums.{IsSum}
use Rattle.p4_declaration_rules.proofs.controls.check_tops.Given as goal

abbrev pub invariant-loop-top : goal.invariant-loop-top
invariant-loop-top l = record {
  declared : after_tops (scope_of l.scope) (map top_of (drop l.top-index l.tops)) ≡ after_tops (scope_of l.initial.scope) (map top_of l.tops);
  most : IsSum l.most (most_of_tops l.main (scope_of l.scope) (map top_of (drop l.top-index l.tops))) (most_of_tops l.main (scope_of l.initial.scope) (map top_of l.tops));
  rest : first_from l.found.first (tops_tests l.main (scope_of l.scope) (map top_of (drop l.top-index l.tops))) ≡ first_from l.initial.found.first (tops_tests l.main (scope_of l.initial.scope) (map top_of l.tops));
}

use Rattle.std.proofs.Common.{◌≡◌, ◌≤◌, drop, take, length, map}
use Rattle.p4_tree.specs.View.{local_of}
use Rattle.p4_scopes.specs.View.{scope_of}
use Rattle.p4_statement_rules.specs.Ranks.{first_from}
use Rattle.p4_declaration_rules.specs.Controls.{after_locals, locals_tests}
use Rattle.p4_declaration_rules.proofs.controls.check_locals.Given as goal

abbrev pub invariant-loop-local : goal.invariant-loop-local
invariant-loop-local l = record {
  kept : take (length l.initial.scope) l.scope ≡ l.initial.scope;
  longer : length l.initial.scope ≤ length l.scope;
  declared : after_locals (scope_of l.scope) (map local_of (drop l.local-index l.locals)) ≡ after_locals (scope_of l.initial.scope) (map local_of l.locals);
  rest : first_from l.found.first (locals_tests l.part (scope_of l.scope) (map local_of (drop l.local-index l.locals))) ≡ first_from l.initial.found.first (locals_tests l.part (scope_of l.initial.scope) (map local_of l.locals));
}

-- Ingress and egress of a linked program, from their parts.
use Rattle.std.proofs.Common.{◌≡◌, ℕ, List, ◌++◌, map, ap, ap₂, ◌∙◌}
use Rattle.p4_tree.specs.Tree.{Stmts, next, done, and_then, Local, Control}
use Rattle.p4_meaning.specs.Scope.{Roots}
use Rattle.linked_programs.specs.Rewritten.{local_with, stmts_with}
use Rattle.linked_programs.specs.Lowered.{Lowered}
use Rattle.linked_programs.specs.Linked.{control_at, control_roots, entry_stmt, exit_stmt, is_egress, is_ingress}

abbrev pub built : Control → List Local → Stmts → Control
built c locals apply = record { at = c.at; name = c.name; params = c.params; locals = locals; apply = apply }

module _ (l : Lowered) (links : List ℕ) (c : Control) (r : Roots) (roots : r ≡ control_roots c) where
  pub ingress_built : (locals : List Local) (apply : Stmts) → locals ≡ map (local_with r) (l.entry_locals ++ c.locals)
      → apply ≡ stmts_with r (next (entry_stmt r links l.mark l.entry) c.apply) → built c locals apply ≡ control_at l links is_ingress c
  ingress_built locals apply is_locals is_apply =
      ap₂ (built c) (is_locals ∙ ap (λ (q : Roots). map (local_with q) (l.entry_locals ++ c.locals)) roots)
      (is_apply ∙ ap (λ (q : Roots). stmts_with q (next (entry_stmt q links l.mark l.entry) c.apply)) roots)

  pub egress_built : (locals : List Local) (apply : Stmts) → locals ≡ map (local_with r) (l.exit_locals ++ c.locals)
      → apply ≡ stmts_with r (and_then c.apply (next (exit_stmt r links l.exit) done)) → built c locals apply ≡ control_at l links is_egress c
  egress_built locals apply is_locals is_apply =
      ap₂ (built c) (is_locals ∙ ap (λ (q : Roots). map (local_with q) (l.exit_locals ++ c.locals)) roots)
      (is_apply ∙ ap (λ (q : Roots). stmts_with q (and_then c.apply (next (exit_stmt q links l.exit) done))) roots)

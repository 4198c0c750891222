use Rattle.std.proofs.Common.{ℕ, List, [], ◌∷◌, ◌++◌, map, ap, ◌∙◌}
use Rattle.p4_tree.specs.View.{stmts_of}
use Rattle.p4_tree.specs.declared.statement.PTy.{PTy}
use Rattle.p4_tree.specs.declared.statement.Stmt as code_stmt
use Rattle.link_faults.specs.WrittenNames.{first_taken, names_of_fields, names_of_stmts}
use Rattle.link_checks.proofs.text.in_action.Goals as goal

pub returns : goal.returns
returns c =
    let a = c.args.a.now in
    c.first-2.ensures (a.name ∷ []) (names_of_fields a.params.items ++ names_of_stmts (stmts_of a.body.items)) c.in_name.ensures
    (c.first.ensures (names_of_fields a.params.items) (names_of_stmts (stmts_of a.body.items)) (c.in_fields.ensures ∙ ap (λ (fs : List (PTy × List ℕ)). first_taken (names_of_fields fs)) c.deref.ensures.value) (c.in_stmts.ensures ∙ ap (λ (ss : List code_stmt.Stmt). first_taken (names_of_stmts (stmts_of ss))) c.deref-2.ensures.value))

use Rattle.std.proofs.Common.{ℕ, List, [], ◌∷◌, ◌++◌, map, ap, ◌∙◌}
use Rattle.p4_tree.specs.View.{local_of, stmts_of}
use Rattle.p4_tree.specs.declared.program.Param.{Param}
use Rattle.p4_tree.specs.declared.statement.Stmt as code_stmt
use Rattle.p4_tree.specs.declared.program.Local as code_local
use Rattle.link_faults.specs.WrittenNames.{first_taken, names_of_locals, names_of_params, names_of_stmts}
use Rattle.link_checks.proofs.text.in_control.Goals as goal

pub returns : goal.returns
returns c =
    let k = c.args.c.now in
    let locals = names_of_locals (map local_of k.locals.items) in
    let apply = names_of_stmts (stmts_of k.apply.items) in
    c.first-2.ensures (k.name ∷ []) (names_of_params k.params.items ++ (locals ++ apply)) c.in_name.ensures
    (c.first.ensures (names_of_params k.params.items) (locals ++ apply) (c.in_params.ensures ∙ ap (λ (ps : List Param). first_taken (names_of_params ps)) c.deref-3.ensures.value)
    (c.first-body.ensures locals apply (c.in_locals.ensures ∙ ap (λ (ls : List code_local.Local). first_taken (names_of_locals (map local_of ls))) c.deref.ensures.value) (c.in_stmts.ensures ∙ ap (λ (ss : List code_stmt.Stmt). first_taken (names_of_stmts (stmts_of ss))) c.deref-2.ensures.value)))

use Rattle.std.proofs.Common.{ℕ, List, [], ◌∷◌, ◌++◌, map, ap, ◌∙◌, sym}
use Rattle.p4_tree.specs.View.{stmts_of, transition_of}
use Rattle.std.proofs.lemmas.List.{append-nil}
use Rattle.p4_tree.specs.declared.statement.Stmt as code_stmt
use Rattle.link_faults.specs.WrittenNames.{first_taken, names_of_stmts, names_of_transition}
use Rattle.link_checks.proofs.text.in_state.Goals as goal

pub returns : goal.returns
returns c =
    let s = c.args.s.now in
    let next = names_of_transition (transition_of s.next) in
    c.first-2.ensures (s.name ∷ []) (names_of_stmts (stmts_of s.body.items) ++ (next ++ [])) c.in_name.ensures
    (c.first.ensures (names_of_stmts (stmts_of s.body.items)) (next ++ []) (c.in_stmts.ensures ∙ ap (λ (ss : List code_stmt.Stmt). first_taken (names_of_stmts (stmts_of ss))) c.deref.ensures.value)
    (c.in_transition.ensures ∙ ap first_taken (sym (append-nil next))))

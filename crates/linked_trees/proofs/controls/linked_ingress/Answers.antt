use Rattle.std.proofs.Common.{◌≡◌, ◌++◌, List, IfOk, map, ap, subst, ◌∙◌}
use Rattle.p4_tree.specs.Tree.{Stmt, Stmts, next, done, and_then, Local, Control}
use Rattle.p4_tree.specs.View.{control_of, local_of, stmts_of}
use Rattle.p4_tree.specs.declared.statement.Stmt as code_stmt
use Rattle.p4_tree.specs.declared.program.Local as code_local
use Rattle.p4_resolved.specs.Scopes.{roots_in}
use Rattle.linked_programs.specs.Rewritten.{local_with, stmts_with}
use Rattle.linked_programs.specs.Linked.{entry_stmt}
use Rattle.linked_trees.specs.View.{lowered_of}
use Rattle.linked_trees.proofs.Built.{ingress_built}
use Rattle.linked_trees.proofs.controls.linked_ingress.Goals as goal

pub returns : goal.returns
returns c =
    let R = roots_in c.in_ok-roots.roots in
    let links = c.args.linked_ports.now in
    let own = control_of c.args.c.now in
    let locals : map local_of c.in_ok-locals.locals.items ≡ map (local_with R) (map local_of c.args.parts.now.entry_locals.items ++ own.locals) =
    c.in_ok-locals.ensures
    ∙ ap (λ (ls : List code_local.Local). map (local_with R) (map local_of ls ++ map local_of c.deref-4.result.now)) c.deref-3.ensures.value
    ∙ ap (λ (ls : List code_local.Local). map (local_with R) (map local_of c.args.parts.now.entry_locals.items ++ map local_of ls)) c.deref-4.ensures.value in
    let mark = c.args.parts.now.mark in
    let first : stmts_of c.in_ok-first.first.items ≡ next (entry_stmt R links mark (stmts_of c.args.parts.now.entry.items)) done = c.in_ok-first.ensures in
    let apply : stmts_of c.in_ok-apply.apply.items ≡ stmts_with R (next (entry_stmt R links mark (stmts_of c.args.parts.now.entry.items)) own.apply) =
    c.in_ok-apply.ensures
    ∙ ap (λ (ss : List code_stmt.Stmt). stmts_with R (and_then (stmts_of ss) (stmts_of c.deref-2.result.now))) c.deref.ensures.value
    ∙ ap (λ (ss : List code_stmt.Stmt). stmts_with R (and_then (stmts_of c.in_ok-first.first.items) (stmts_of ss))) c.deref-2.ensures.value
    ∙ ap (λ (ss : Stmts). stmts_with R (and_then ss own.apply)) first in
    subst (λ (k : Control). IfOk c.control_with.result (λ q. control_of q ≡ k))
    (ingress_built (lowered_of c.args.parts.now) links own R c.in_ok-roots.ensures (map local_of c.in_ok-locals.locals.items) (stmts_of c.in_ok-apply.apply.items) locals apply)
    c.control_with.ensures

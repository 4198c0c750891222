use Rattle.std.proofs.Common.{◌||◌, Bool, List, map, ap, ap₂, ◌∙◌, false}
use Rattle.std.specs.List.{list_any}
use Rattle.p4_tree.specs.View.{control_of, local_of, stmts_of}
use Rattle.p4_tree.specs.declared.statement.Stmt as code_stmt
use Rattle.p4_tree.specs.declared.program.Local as code_local
use Rattle.exit_statements.specs.Without.{in_control, stmts_leave, stmts_without}
use Rattle.exit_programs.specs.Programs.{flags, local_exits, local_without, with_flag}
use Rattle.exit_rewriting.specs.Exiting.{exits_by, exits_from}
use Rattle.exit_rewriting.proofs.Declared.{control_built}
use Rattle.exit_rewriting.proofs.Exited.{exits_in_control}
use Rattle.exit_rewriting.proofs.declarations.control_without.Goals as goal

pub returns : goal.returns
returns c =
    let e = c.args.exiting.now in
    let p = c.in_ok-place.place in
    let n = exits_by e p in
    control_built (exits_from e) n (control_of c.args.c.now) (exits_in_control e p (control_of c.args.c.now) c.in_ok-place.ensures)
    c.in_ok-copy.field-0 c.in_ok-copy_params.field-0.items (map local_of c.in_ok-locals.locals.items) (stmts_of c.in_ok-apply.apply.0.items) c.either-leaves.result
    c.in_ok-copy.ensures
    (c.in_ok-copy_params.ensures ∙ c.deref-4.ensures.value)
    (c.in_ok-locals.ensures ∙ ap (λ (ls : List code_local.Local). with_flag c.either-leaves.result (map local_without (map local_of ls))) c.deref-3.ensures.value)
    (c.in_ok-apply.ensures.without ∙ ap (λ (ss : List code_stmt.Stmt). stmts_without flags n in_control false (stmts_of ss)) c.deref.ensures.value)
    (c.either-leaves.ensures
    ∙ ap₂ (λ (a b : Bool). a || b)
    (c.in_ok-apply.ensures.leaves ∙ ap (λ (ss : List code_stmt.Stmt). stmts_leave n (stmts_of ss)) c.deref.ensures.value)
    (c.some_exits.ensures ∙ ap (λ (ls : List code_local.Local). list_any local_exits (map local_of ls)) c.deref-2.ensures.value))

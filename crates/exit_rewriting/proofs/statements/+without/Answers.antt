use Rattle.std.proofs.Common.{◌≡◌, ◌||◌, Bool, List, [], drop, map, sym, ap, ap₂, ◌∙◌, arith}
use Rattle.std.proofs.lemmas.List.{drop_all}
use Rattle.p4_tree.specs.Tree.{Stmt, and_then}
use Rattle.p4_tree.specs.View.{stmt_of, stmts_of}
use Rattle.p4_tree.specs.declared.statement.Stmt as code
use Rattle.exit_statements.specs.Without.{in_list, no_exits, stmts_without}
use Rattle.exit_programs.specs.Programs.{flags}
use Rattle.exit_rewriting.specs.Exiting.{body_of, exits_by}
use Rattle.exit_rewriting.proofs.Walked.{list_more, leaves_more, built_done}
use Rattle.exit_rewriting.proofs.statements.+without.Goals as goal

pub stmts_without-loop-s-preserved : goal.stmts_without-loop-s-preserved
stmts_without-loop-s-preserved t c =
    let m = exits_by c.args.exiting.now c.args.place.now in
    let body = body_of c.args.body in
    let left = c.either-left.ensures ∙ ap (λ (b : Bool). c.loop-s.left || b) c.in_ok-new.ensures.leaves in
    record {
      written = list_more m body c.args.list.now c.loop-s.s-index c.s-item.result c.loop-s-test.true c.s-item.is
          c.loop-s.out.items c.push.new.self.items c.in_ok-in_list.field-0 c.loop-s.left c.either-left.result _
          c.loop-s.invariant.written c.in_ok-push.ensures.items
          (c.in_ok-in_list.ensures ∙ ap₂ (λ (d : Bool) (s : Stmt). in_list flags no_exits body c.loop-s.left d s) c.is_var.ensures c.in_ok-new.ensures.without) left;
      leaves = leaves_more m body c.args.list.now c.loop-s.s-index c.s-item.result c.loop-s-test.true c.s-item.is
          c.loop-s.left c.either-left.result _ c.loop-s.invariant.leaves left;
    }

pub stmts_without-returns-clause-without : goal.stmts_without-returns-clause-without
stmts_without-returns-clause-without t c =
    let m = exits_by c.args.exiting.now c.args.place.now in
    let end : drop c.loop-s.s-index c.args.list.now ≡ [] = drop_all c.loop-s.s-index c.args.list.now (omega arith) in
    sym (built_done (map stmt_of c.loop-s.out.items))
    ∙ sym (ap (λ (xs : List code.Stmt). and_then (stmts_of c.loop-s.out.items) (stmts_without flags m (body_of c.args.body) c.loop-s.left (stmts_of xs))) end)
    ∙ c.loop-s.invariant.written

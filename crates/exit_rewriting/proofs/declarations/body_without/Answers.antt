use Rattle.std.proofs.Common.{◌≡◌, subst}
use Rattle.std.specs.Result.{IfOk}
use Rattle.p4_tree.specs.Tree.{Stmts}
use Rattle.p4_tree.specs.View.{stmts_of}
use Rattle.exit_rewriting.specs.Exiting.{exits_by}
use Rattle.exit_rewriting.proofs.Declared.{body_flagged, body_stays}
use Rattle.exit_rewriting.proofs.Exited.{none_at}
use Rattle.exit_rewriting.proofs.declarations.body_without.Goals as goal

pub returns-then-body : goal.returns-then-body
returns-then-body c =
    let nothing = c.none-nothing.result in
    let P : Stmts → Type 0 = λ ss. IfOk c.flagged.result (λ v. stmts_of v.items ≡ ss) in
    subst P
    (body_flagged (exits_by nothing c.args.place.now) (none_at nothing c.args.place.now c.none-nothing.ensures) (stmts_of c.args.body.now) (stmts_of c.in_ok-body.body.0.items) c.in_ok-body.body.1
    c.in_ok-body.ensures.without c.in_ok-body.ensures.leaves c.if-body.true)
    c.flagged.ensures

pub returns : goal.returns
returns c =
    let nothing = c.none-nothing.result in
    body_stays (exits_by nothing c.args.place.now) (none_at nothing c.args.place.now c.none-nothing.ensures) (stmts_of c.args.body.now) (stmts_of c.in_ok-body.body.0.items) c.in_ok-body.body.1
    c.in_ok-body.ensures.without c.in_ok-body.ensures.leaves c.if-body.false

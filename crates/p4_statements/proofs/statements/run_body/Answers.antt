use Rattle.std.proofs.Common.{◌≡◌, IfOk, ap, sym, ◌∙◌, subst}
use Rattle.p4_tree.specs.View.{stmts_of}
use Rattle.p4_meaning.specs.Statements.{Flow, Go, Return, Exit, Ended, meaning_of}
use Rattle.p4_parts.specs.PartsIn.{body_in}
use Rattle.p4_statements.specs.Runs.{run_of, flow_of}
use Rattle.p4_statements.proofs.BodyLemmas.{body_ends}
use Rattle.p4_statements.proofs.statements.run_body.Goals as goal

pub returns-in-Go : goal.returns-in-Go
returns-in-Go g c =
    let calls = g.C.Calls.means c.args.calls.now in
    let b = body_in c.args.body.now in
    let r = run_of c.args.r.now in
    let q = run_of c.run_stmts.new.r in
    let ended : Flow → Ended = λ f. (q, f) in
    let first = ap ended (sym (ap flow_of c.in-Go.is)) ∙ c.in_ok-run_stmts.ensures in
    let both = ap (λ l. meaning_of calls (stmts_of l) q) c.deref-in-Go.ensures.value ∙ body_ends calls b r q (stmts_of c.deref.result.now) Go (ap stmts_of c.deref.ensures.value) first in
    subst (λ (e : Ended). IfOk c.run_stmts-in-Go.result (λ flow. (let d : Ended = (run_of c.run_stmts-in-Go.new.r, flow_of flow) in d) ≡ e)) both c.run_stmts-in-Go.ensures

pub returns-in-Return : goal.returns-in-Return
returns-in-Return g c =
    let q = run_of c.run_stmts.new.r in
    let ended : Flow → Ended = λ f. (q, f) in
    body_ends (g.C.Calls.means c.args.calls.now) (body_in c.args.body.now) (run_of c.args.r.now) q (stmts_of c.deref.result.now) Return (ap stmts_of c.deref.ensures.value) (ap ended (sym (ap flow_of c.in-Return.is)) ∙ c.in_ok-run_stmts.ensures)

pub returns-in-Exit : goal.returns-in-Exit
returns-in-Exit g c =
    let q = run_of c.run_stmts.new.r in
    let ended : Flow → Ended = λ f. (q, f) in
    body_ends (g.C.Calls.means c.args.calls.now) (body_in c.args.body.now) (run_of c.args.r.now) q (stmts_of c.deref.result.now) Exit (ap stmts_of c.deref.ensures.value) (ap ended (sym (ap flow_of c.in-Exit.is)) ∙ c.in_ok-run_stmts.ensures)

-- A control's variables and then its body.
use Rattle.std.proofs.Common.{◌≡◌, ap, sym, ◌∙◌}
use Rattle.p4_tree.specs.Tree.{Stmts}
use Rattle.p4_meaning.specs.Statements.{Flow, Run, Ended, Calls, after, meaning_of}
use Rattle.p4_meaning.specs.Parts.{Body, whole}
use Rattle.p4_meaning.proofs.Sequences.{then_runs}

pub body_ends : (calls : Calls) (b : Body) (r r1 : Run) (l : Stmts) (fl : Flow) → l ≡ b.locals → (let e : Ended = (r1, fl) in e) ≡ meaning_of calls l r → after fl r1 (meaning_of calls b.body) ≡ meaning_of calls (whole b) r
body_ends calls b r r1 l fl same e =
    ap (λ (e : Ended). after e.1 e.0 (meaning_of calls b.body)) (e ∙ ap (λ l. meaning_of calls l r) same)
    ∙ sym (then_runs calls b.locals b.body r)

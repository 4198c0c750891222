-- Statements behind others.
use Rattle.std.proofs.Common.{◌≡◌, refl, ap, ◌∙◌}
use Rattle.p4_tree.specs.Tree.{Stmts, done, next, and_then}
use Rattle.p4_meaning.specs.Statements.{Flow, Go, Return, Exit, Run, Ended, after, Calls, meaning_of_stmt, meaning_of}

after_after : (fl : Flow) (r : Run) (g : Run → Ended) (k : Run → Ended) → after fl r (λ q. after (g q).1 (g q).0 k) ≡ after (after fl r g).1 (after fl r g).0 k
after_after Go r g k = refl
after_after Return r g k = refl
after_after Exit r g k = refl

pub then_runs : (calls : Calls) (x y : Stmts) (r : Run) → meaning_of calls (and_then x y) r ≡ after (meaning_of calls x r).1 (meaning_of calls x r).0 (meaning_of calls y)
then_runs calls done y r = refl
then_runs calls (next s ss) y r =
    ap (λ (g : Run → Ended). after (meaning_of_stmt calls s r).1 (meaning_of_stmt calls s r).0 g) (λ i q. then_runs calls ss y q i)
    ∙ after_after (meaning_of_stmt calls s r).1 (meaning_of_stmt calls s r).0 (meaning_of calls ss) (meaning_of calls y)

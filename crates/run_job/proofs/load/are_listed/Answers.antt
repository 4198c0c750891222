use Rattle.std.proofs.Common.{List, [], ◌∷◌, take, get_or, All, sym, subst, arith}
use Rattle.std.proofs.lemmas.List.{take_more, take_all}
use Rattle.std.proofs.lemmas.List.Elements.{All-append, All-cons, All-nil}
use Rattle.p4_tables.specs.State.{Held}
use Rattle.p4_tables.specs.Laws.{RunsListed}
use Rattle.run_job.proofs.load.are_listed.Goals as goal

pub loop-state-preserved : goal.loop-state-preserved
loop-state-preserved c =
    let xs = c.args.tables.now in
    let i = c.loop-state.state-index in
    let x = c.state-item.result in
    subst (λ (ts : List (List Held)). All RunsListed ts) (sym (take_more xs i x (omega arith)))
    (All-append RunsListed (take i xs) (get_or xs i x ∷ []) c.loop-state.invariant
    (All-cons RunsListed (get_or xs i x) [] (subst RunsListed c.state-item.is c.actions_are_listed.ensures) (All-nil RunsListed)))

pub returns : goal.returns
returns c = subst (λ (ts : List (List Held)). All RunsListed ts) (take_all c.loop-state.state-index c.args.tables.now (omega arith)) c.loop-state.invariant

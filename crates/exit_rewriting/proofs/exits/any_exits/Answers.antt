use Rattle.std.proofs.Common.{◌||◌, ◌+◌, ℕ, Bool, List, drop, sym, ap, ◌∙◌}
use Rattle.std.specs.List.{list_any}
use Rattle.exit_rewriting.specs.Groups.{is_marked_in}
use Rattle.exit_rewriting.specs.Exiting.{name_at}
use Rattle.exit_rewriting.proofs.Walked.{any_left}
use Rattle.exit_rewriting.proofs.exits.any_exits.Goals as goal

pub returns-then-branch : goal.returns-then-branch
returns-then-branch c =
    let test = λ (x : List ℕ). is_marked_in c.args.actions.now (name_at c.args.place.now x) in
    sym (any_left test c.args.names.now c.loop-x.x-index c.x-item.result c.in_ok-is_marked.field-0 c.loop-x-test.true c.x-item.is c.in_ok-is_marked.ensures
    ∙ ap (λ (b : Bool). b || list_any test (drop (c.loop-x.x-index + 1) c.args.names.now)) c.if-branch.true)
    ∙ c.loop-x.invariant

pub loop-x-preserved : goal.loop-x-preserved
loop-x-preserved c =
    let test = λ (x : List ℕ). is_marked_in c.args.actions.now (name_at c.args.place.now x) in
    sym (any_left test c.args.names.now c.loop-x.x-index c.x-item.result c.in_ok-is_marked.field-0 c.loop-x-test.true c.x-item.is c.in_ok-is_marked.ensures
    ∙ ap (λ (b : Bool). b || list_any test (drop (c.loop-x.x-index + 1) c.args.names.now)) c.if-branch.false)
    ∙ c.loop-x.invariant

use Rattle.std.proofs.Common.{◌≡◌, not, Bool, true, false, Option, sym, ap, ◌∙◌}
use Rattle.std.specs.Prelude.{is_some}
use Rattle.network_file.specs.Network.{Port}
use Rattle.network_file.specs.Views.{numbered_view}
use Rattle.network_file.proofs.EndLemmas.{taken_by_one, taken_by_other, both_put}
use Rattle.network_file.proofs.checks.put.Goals as goal

flipped : (a b : Bool) → a ≡ not b → b ≡ not a
flipped a true e = ap not (sym e)
flipped a false e = ap not (sym e)

pub returns-then-is_some-clause-answer : goal.returns-then-is_some-clause-answer
returns-then-is_some-clause-answer c =
    sym (ap not (taken_by_one c.args.ends.now.entries (numbered_view c.args.link.now) (sym (ap is_some c.in_ok-insert.ensures.old) ∙ (sym c.is_some.ensures ∙ c.if-is_some.true))))

pub returns-clause-answer : goal.returns-clause-answer
returns-clause-answer c =
    let fresh = sym (ap is_some c.in_ok-insert.ensures.old) ∙ (sym c.is_some.ensures ∙ c.if-is_some.false) in
    flipped _ _ c.is_none.ensures ∙ (ap (λ (o : Option Port). not (is_some o)) c.in_ok-before.ensures.old
    ∙ taken_by_other c.args.ends.now.entries (numbered_view c.args.link.now) fresh c.insert.new.self.entries c.in_ok-insert.ensures.entries)

pub returns-clause-put : goal.returns-clause-put
returns-clause-put c = λ none.
    let fresh = sym (ap is_some c.in_ok-insert.ensures.old) ∙ (sym c.is_some.ensures ∙ c.if-is_some.false) in
    let free = sym (ap is_some c.in_ok-before.ensures.old) ∙ (c.is_none.ensures ∙ ap not none) in
    both_put c.args.ends.now.entries (numbered_view c.args.link.now) fresh c.insert.new.self.entries c.in_ok-insert.ensures.entries c.insert-2.new.self.entries free c.in_ok-before.ensures.entries

use Rattle.std.proofs.Common.{◌≡◌, ◌++◌, [], map, drop, sym, ap, ◌∙◌, arith}
use Rattle.std.proofs.Math.ListN.{drop_of_length-le}
use Rattle.std.proofs.lemmas.List.{append-nil}
use Rattle.p4_tree.specs.View.{expr_of}
use Rattle.p4_meaning.specs.Actions.{args_of}
use Rattle.p4_parts.specs.PartsIn.{param_in}
use Rattle.p4_parts.proofs.ActionsLemmas.{no_args}
use Rattle.p4_parts.proofs.actions.words_of.Goals as goal

pub returns-then-i-list : goal.returns-then-i-list
returns-then-i-list g c =
    let s = g.S.Sight.store c.args.s.now in
    let words = c.loop-i.words.items in
    let ps = map param_in (drop c.loop-i.i c.args.params.now) in
    let none : drop c.loop-i.i c.args.list.now ≡ [] = drop_of_length-le c.args.list.now (omega arith) in
    sym (append-nil words)
    ∙ ap (λ l. words ++ l) (sym (no_args ps s))
    ∙ ap (λ l. words ++ args_of ps (map expr_of l) s) (sym none)
    ∙ c.loop-i.invariant

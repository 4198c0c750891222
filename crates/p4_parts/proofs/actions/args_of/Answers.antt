use Rattle.std.proofs.Common.{◌≡◌, ◌++◌, [], map, drop, sym, ap, ◌∙◌, arith}
use Rattle.std.proofs.Math.ListN.{drop_of_length-le}
use Rattle.std.proofs.lemmas.List.{append-nil}
use Rattle.p4_tree.specs.View.{arg_of}
use Rattle.p4_meaning.specs.Statements.{values_in}
use Rattle.p4_meaning.specs.Actions.{args_of}
use Rattle.p4_parts.specs.PartsIn.{param_in}
use Rattle.p4_parts.proofs.ActionsLemmas.{no_args}
use Rattle.p4_parts.proofs.actions.args_of.Goals as goal

pub returns : goal.returns
returns g c =
    let s = g.S.Sight.store c.args.s.now in
    let words = c.loop-a.words.items in
    let ps = map param_in (drop c.loop-a.n c.args.params.now) in
    let none : drop c.loop-a.a-index c.args.args.now ≡ [] = drop_of_length-le c.args.args.now (omega arith) in
    sym (append-nil words)
    ∙ ap (λ l. words ++ l) (sym (no_args ps s))
    ∙ ap (λ l. words ++ args_of ps (values_in (map arg_of l)) s) (sym none)
    ∙ c.loop-a.invariant.words

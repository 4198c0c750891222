-- The test that is taken off the end is joined to those behind it.
use Rattle.std.proofs.Common.{List, [], ◌∷◌, ◌++◌, map, ap, sym, ◌∙◌}
use Rattle.p4_tree.specs.Tree.{Expr}
use Rattle.p4_tree.specs.View.{expr_of}
use Rattle.p4_tree.specs.declared.statement.Expr as code
use Rattle.linked_halves.specs.Statements.{any_of}
use Rattle.port_tests.proofs.PortTests.{any_of-last}
use Rattle.port_tests.proofs.ports.any_of.Goals as goal

pub loop-one-preserved : goal.loop-one-preserved
loop-one-preserved c =
    let left = c.pop-in-loop-one.new.self.items in
    let all = expr_of c.loop-one.all in
    ap (λ (e : Expr). any_of (map expr_of left ++ e ∷ [])) c.in_ok-all.ensures
    ∙ any_of-last left c.in-Some-pop.one all
    ∙ ap (λ (xs : List code.Expr). any_of (map expr_of xs ++ all ∷ [])) (sym c.in-Some-pop.ensures.items)
    ∙ c.loop-one.invariant

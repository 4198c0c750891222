-- One joining is done, and the others are left.
use Rattle.std.proofs.Common.{◌≡◌, IfOk, List, map, subst, arith}
use Rattle.p4_tree.specs.Tree.{Expr}
use Rattle.p4_tree.specs.View.{expr_of}
use Rattle.port_tests.proofs.PortTests.{joined-less}
use Rattle.port_tests.proofs.ports.+joined.Goals as goal

pub returns : goal.returns
returns t c =
    let less = joined-less c.args.times (map expr_of c.args.tests.items) (map expr_of c.in_ok-pairs.pairs.items) (λ e. grind (arith, e, c.if-times-eq0.false)) c.in_ok-pairs.ensures in
    subst (λ (es : List Expr). IfOk c.joined.result (λ v. map expr_of v.items ≡ es)) less c.joined.ensures

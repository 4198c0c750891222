use Rattle.std.proofs.Common.{◌≡◌, Option, IfOk, subst}
use Rattle.indus_tree.specs.Tree.{Decl}
use Rattle.indus_tree.specs.View.{expr_of as indus_expr}
use Rattle.p4_tree.specs.View.{expr_of}
use Rattle.lowered_code.specs.Expressions.{name_for}
use Rattle.lower_reads.specs.View.{declared, lent}
use Rattle.lower_code.specs.View.{environment_of}
use Rattle.lower_code.proofs.expressions.lowered_name.Goals as goal

pub returns-in-None : goal.returns-in-None
returns-in-None c =
    let p = c.args.place.now in
    subst (λ (o : Option Decl). IfOk c.built_in.result (λ r. expr_of r ≡ name_for (environment_of p.roots.now) (declared p.decls.now) p.base (lent p.reads.now) o (indus_expr c.args.e.now) c.args.name.now))
    c.in-None.ensures (c.built_in.ensures c.args.place.now.roots.now)

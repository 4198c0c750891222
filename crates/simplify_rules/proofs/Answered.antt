-- An expression that is answered may stand where the tree that it is may.
use Rattle.std.proofs.Common.{◌≡◌, Option, Some, None, Result, Ok, Err, IfOk, sym, subst}
use Rattle.std.specs.Option.{option_map}
use Rattle.p4_tree.specs.Tree.{Expr}
use Rattle.p4_tree.specs.View.{expr_of}
use Rattle.p4_tree.specs.declared.statement.Expr as code
use Rattle.rewriting_laws.specs.Standing.{StandsIfAny, MayStandIfAny}

trees_stand : (e : Expr) (o : Option code.Expr) → StandsIfAny e (option_map expr_of o) → MayStandIfAny e o
trees_stand e None h = tt
trees_stand e (Some f) h = h

pub answer_stands : (e : Expr) (o : Option code.Expr) (t : Option Expr) → option_map expr_of o ≡ t → StandsIfAny e t → MayStandIfAny e o
answer_stands e o t h k = trees_stand e o (subst (StandsIfAny e) (sym h) k)

pub results_stand : {F : Type 0} (e : Expr) (r : Result (Option code.Expr) F) (t : Option Expr) → IfOk r (λ o. option_map expr_of o ≡ t) → StandsIfAny e t → IfOk r (MayStandIfAny e)
results_stand e (Ok o) t h k = answer_stands e o t h k
results_stand e (Err x) t h k = tt

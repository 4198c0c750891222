-- A program that rules were asked about has expressions that may stand in the place of the given ones.
use Rattle.std.proofs.Common.{Option, Some, Result, Ok, Err, IfOk}
use Rattle.p4_tree.specs.Tree.{Expr, Program}
use Rattle.p4_tree.specs.View.{program_of}
use Rattle.p4_tree.specs.declared.program.Program as code
use Rattle.rewriting_laws.specs.Standing.{MayStandFor}
use Rattle.rewritten_programs.specs.Rewritten.{ProgramRewritten}
use Rattle.rewritten_programs.proofs.Weaker.{weaker}
use Rattle.simplify_rules.specs.Simplified.{IsSimplified}
use Rattle.simplify_rules.proofs.Walked.{simplified_stands}

module _ (A : Expr → Option Expr → Type 0) (right : (e f : Expr) → A e (Some f) → MayStandFor e f) where
  pub results_stand : {F : Type 0} (p : Program) (r : Result code.Program F) → IfOk r (λ q. ProgramRewritten (IsSimplified A) p (program_of q)) → IfOk r (λ q. ProgramRewritten MayStandFor p (program_of q))
  results_stand p (Ok q) h = weaker (IsSimplified A) MayStandFor (λ e f w. simplified_stands A right w) p (program_of q) h
  results_stand p (Err x) h = tt

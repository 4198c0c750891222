-- Answers of rules in their order may stand in the place of what was offered, where those of each rule may.
use Rattle.std.proofs.Common.{◌≡◌, inl, inr, List, [], ◌∷◌, Option, Some, None, Result, Ok, IfOk, subst}
use Rattle.std.specs.Option.{option_map}
use Rattle.p4_tree.specs.Tree.{Expr}
use Rattle.p4_tree.specs.View.{expr_of}
use Rattle.p4_tree.specs.declared.statement.Expr as code
use Rattle.rewriting_laws.specs.Standing.{MayStandFor, MayStandIfAny}
use Rattle.simplify_rules.specs.FirstAnswer.{MayAnswer, IsFirstAnswer}

answered_stands : {d e f : Expr} (o : Option code.Expr) → d ≡ e → option_map expr_of o ≡ Some f → MayStandIfAny d o → MayStandFor e f
answered_stands None h k m = absurd (cc)
answered_stands {f = f} (Some x) h k m = (let i : expr_of x ≡ f = cc in subst (λ (c : Expr). MayStandFor c f) h (subst (MayStandFor _) i m))

-- what a function may answer, of whose calls this is known
pub answer_is_right : {Reference Fault : Type 0} (tree : Reference → Expr) (returns : Reference → Result (Option code.Expr) Fault → Type 0) → ((x : Reference) (r : Result (Option code.Expr) Fault) → returns x r → IfOk r (MayStandIfAny (tree x))) → (e f : Expr) → MayAnswer tree returns e (Some f) → MayStandFor e f
answer_is_right tree returns right e f a = answered_stands a.1 a.3 a.4 (right a.0 (Ok a.1) a.2)

-- rules in their order
first_is_right : {Rule : Type 0} (Answers : Rule → Expr → Option Expr → Type 0) → ((rule : Rule) (e f : Expr) → Answers rule e (Some f) → MayStandFor e f) → (rules : List Rule) (e f : Expr) → IsFirstAnswer Answers rules e (Some f) → MayStandFor e f
first_is_right A right [] e f a = absurd (cc)
first_is_right A right (rule ∷ rest) e f (inl a) = right rule e f a
first_is_right A right (rule ∷ rest) e f (inr a) = first_is_right A right rest e f a.1

pub set_is_right : {Rule Reference Fault : Type 0} (tree : Reference → Expr) (returns : Rule → Reference → Result (Option code.Expr) Fault → Type 0) → ((rule : Rule) (x : Reference) (r : Result (Option code.Expr) Fault) → returns rule x r → IfOk r (MayStandIfAny (tree x))) → (rules : List Rule) (e f : Expr) → IsFirstAnswer (λ rule. MayAnswer tree (returns rule)) rules e (Some f) → MayStandFor e f
set_is_right tree returns right = first_is_right (λ rule. MayAnswer tree (returns rule)) (λ rule. answer_is_right tree (returns rule) (right rule))

-- What a stored function may answer, and rules that are asked in their order. Read `Simplified` before it.
use Rattle.std.specs.Prelude.{◌≡◌, ◌⊎◌, List, [], ◌∷◌, Option, Some, None, Result, Ok}
use Rattle.std.specs.Option.{option_map}
use Rattle.p4_tree.specs.Tree.{Expr}
use Rattle.p4_tree.specs.View.{expr_of}
use Rattle.p4_tree.specs.declared.statement.Expr as code

-- What a function may answer to an expression, as trees: some call on one that is this tree may return it. Reference: what
-- the function takes; tree: the tree behind it; returns: what a call may return
abbrev pub MayAnswer : {Reference Fault : Type 0} → (tree : Reference → Expr) → (returns : Reference → Result (Option code.Expr) Fault → Type 0) → Expr → Option Expr → Type 0
MayAnswer {Reference} tree returns e o = (x : Reference) × (r : Option code.Expr) × returns x (Ok r) × (tree x ≡ e) × (option_map expr_of r ≡ o)

-- Answers: what a rule may answer
module _ {Rule : Type 0} (Answers : Rule → Expr → Option Expr → Type 0) where
  -- what the first rule that has an answer may answer, or none where none has one
  abbrev pub IsFirstAnswer : List Rule → Expr → Option Expr → Type 0
  IsFirstAnswer [] e o = o ≡ None
  IsFirstAnswer (rule ∷ rest) e None = Answers rule e None × IsFirstAnswer rest e None
  IsFirstAnswer (rule ∷ rest) e (Some f) = Answers rule e (Some f) ⊎ (Answers rule e None × IsFirstAnswer rest e (Some f))

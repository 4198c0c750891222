-- Arguments of actions, and what a control declares.
use Rattle.std.proofs.Common.{◌≡◌, ℕ, List, [], ◌∷◌, refl, ap, ◌∙◌}
use Rattle.p4_tree.specs.Tree.{Stmts}
use Rattle.p4_meaning.specs.Store.{Store}
use Rattle.p4_meaning.specs.Actions.{Action, Param, args_of}

-- without arguments there are no words
pub no_args : (ps : List Param) (s : Store) → args_of ps [] s ≡ []
no_args [] s = refl
no_args (p ∷ ps) s = refl

-- an action by its parts
abbrev pub action : List ℕ → List Param → Stmts → Action
action x xs s = record { name = x; params = xs; body = s }

pub action_is : (n m : List ℕ) (ps qs : List Param) (b d : Stmts) → n ≡ m → ps ≡ qs → b ≡ d
    → action n ps b ≡ action m qs d
action_is n m ps qs b d name params body = ap (λ x. action x ps b) name ∙ ap (λ x. action m x b) params ∙ ap (action m qs) body

use Rattle.std.proofs.Common.{◌≡◌, ℕ, zero, suc, ◌≤◌, List, [], ◌∷◌, length, None, refl, sym, arith}
use Rattle.p4_tree.specs.declared.program.Param.{Param}
use Rattle.p4_meaning.specs.Scope.{param_at}
use Rattle.p4_resolved.proofs.find.param_at.Goals as goal

none_behind : (ps : List Param) (n : ℕ) → length ps ≤ n → param_at ps n ≡ None
none_behind [] n le = refl
none_behind (p ∷ ps) zero le = absurd (omega arith)
none_behind (p ∷ ps) (suc n) le = none_behind ps n (omega arith)

pub returns-else-n-params : goal.returns-else-n-params
returns-else-n-params c = sym (none_behind c.args.params.now c.args.n c.if-n-params.false)

-- What becomes of actions and controls, by what becomes of their statements.
use Rattle.std.proofs.Common.{◌≡◌, ℕ, Bool, true, false, ◌||◌, cond, List, map, sym, ap, ◌∙◌}
use Rattle.std.specs.List.{list_any}
use Rattle.p4_tree.specs.Tree.{Stmts, next, Local, Control}
use Rattle.p4_tree.specs.declared.program.Param.{Param}
use Rattle.exit_statements.specs.Without.{in_action, in_control, Exits, no_exits, stmts_leave, stmts_without}
use Rattle.exit_statements.specs.Actions.{lowered, body_without}
use Rattle.exit_statements.proofs.Left.{stmts_same}
use Rattle.exit_programs.specs.Programs.{flags, exits_at, local_exits, local_without, with_flag, control_leaves, control_without}

-- an action's body, where nothing may exit
module _ (m : Exits) (none : m ≡ no_exits) (ss out : Stmts) (leaves : Bool) (written : out ≡ stmts_without flags m in_action false ss) (is : leaves ≡ stmts_leave m ss) where
  now : stmts_leave no_exits ss ≡ leaves
  now = sym (is ∙ ap (λ (m : Exits). stmts_leave m ss) none)

  plain : out ≡ stmts_without flags no_exits in_action false ss
  plain = written ∙ ap (λ (m : Exits). stmts_without flags m in_action false ss) none

  pub body_flagged : leaves ≡ true → next (lowered flags.returned) out ≡ body_without flags ss
  body_flagged h =
      ap (next (lowered flags.returned)) plain
      ∙ sym (ap (λ (b : Bool). cond b (next (lowered flags.returned) (stmts_without flags no_exits in_action false ss)) ss) (now ∙ h))

  pub body_stays : leaves ≡ false → out ≡ body_without flags ss
  body_stays h =
      plain ∙ stmts_same flags no_exits in_action ss (now ∙ h)
      ∙ sym (ap (λ (b : Bool). cond b (next (lowered flags.returned) (stmts_without flags no_exits in_action false ss)) ss) (now ∙ h))

abbrev built : ℕ → List ℕ → List Param → List Local → Stmts → Control
built p x ps ls ss = record { at = p; name = x; params = ps; locals = ls; apply = ss }

-- a control
pub control_built : (m n : Exits) (c : Control) → n ≡ exits_at m c → (x : List ℕ) (ps : List Param) (ls : List Local) (ss : Stmts) (leaves : Bool)
    → x ≡ c.name → ps ≡ c.params → ls ≡ with_flag leaves (map local_without c.locals) → ss ≡ stmts_without flags n in_control false c.apply
    → leaves ≡ (stmts_leave n c.apply || list_any local_exits c.locals) → built c.at x ps ls ss ≡ control_without m c
control_built m n c same x ps ls ss leaves name params locals apply is =
    let left : leaves ≡ control_leaves m c = is ∙ ap (λ (n : Exits). stmts_leave n c.apply || list_any local_exits c.locals) same in
    let all : ls ≡ with_flag (control_leaves m c) (map local_without c.locals) = locals ∙ ap (λ (b : Bool). with_flag b (map local_without c.locals)) left in
    let body : ss ≡ stmts_without flags (exits_at m c) in_control false c.apply = apply ∙ ap (λ (n : Exits). stmts_without flags n in_control false c.apply) same in
    λ i. record { at = c.at; name = name i; params = params i; locals = all i; apply = body i }

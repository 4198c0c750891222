-- Statements without exits are fine where the given ones are and the flags are in sight. Declarations stay where they
-- are, so that old names stand for the same behind each statement, and none of them is a flag.
use Rattle.std.proofs.Common.{◌≡◌, ℕ, List, [], Bool, true, false, ◌||◌, refl, sym, ◌∙◌, subst}
use Rattle.rule_tests.specs.Tests.{IsFine}
use Rattle.p4_tree.specs.Tree.{Stmt, Stmts, MaybeStmt, nothing, block, var, assign, choice, return_, exit_, call, done, next, without, otherwise}
use Rattle.p4_scopes.specs.Scopes.{Scope, value}
use Rattle.p4_scopes.specs.declared.thing.Access.TheVariants.{Writable}
use Rattle.p4_statement_rules.specs.Forms.{takes_any, takes_assignments}
use Rattle.p4_statement_rules.specs.Statements.{after, stmt_tests, block_tests, else_tests}
use Rattle.p4_statement_rules.specs.declared.rule.Part.{Part}
use Rattle.p4_statement_rules.specs.declared.rule.Part.TheVariants as place
use Rattle.p4_rule_laws.specs.Old.{Names, Alike, OldStmt, OldStmts, OldElse}
use Rattle.p4_rule_laws.specs.Guards.{IsFlag}
use Rattle.p4_rule_laws.proofs.AlikeStmts.{var_alike, if_alike, after_alike, stmt_alike}
use Rattle.p4_rule_laws.proofs.GuardLemmas.{not_true, flag_read, flag_set}
use Rattle.p4_rule_laws.proofs.KeepsLemmas.{undeclared}
use Rattle.p4_rule_laws.proofs.WiderLemmas.{old_is_other}
use Rattle.exit_statements.specs.Without.{Body, in_action, in_control, Flags, flag_of, guarded, exit_in, Exits, test_leaves, stmt_leaves, is_var, in_list, in_branch, stmt_without, else_without, stmts_without}
use Rattle.exit_statements.specs.Actions.{stmt_exits, else_exits, stmts_exit}

pub any_assigns : (h : Part) → takes_any h ≡ true → takes_assignments h ≡ true
any_assigns place.State e = refl
any_assigns place.Verify e = e
any_assigns place.Apply e = e
any_assigns place.Action e = e
any_assigns place.Compute e = e
any_assigns place.Deparser e = e
any_assigns place.Other e = e

-- the flag that guards test is in sight, and the control's where something may exit
pub record InSight (n : Flags) (body : Body) (t : Scope) (exits : Bool) : Type 0 where
  pub guard : IsFlag t (flag_of n body)
  pub left : exits ≡ true → IsFlag t n.left

pub or_first : (a b : Bool) → a ≡ true → (a || b) ≡ true
or_first true b e = refl
or_first false b e = absurd (let c : false ≡ true = e in cc)

pub or_second : (a b : Bool) → b ≡ true → (a || b) ≡ true
or_second true b e = refl
or_second false b e = e

-- a name that is not old stands for what it stood for
pub after_flag : (old : Names) (t : Scope) (x : List ℕ) → old x ≡ false → (c : Stmt) → OldStmt old c → IsFlag t x → IsFlag (after t c) x
after_flag old t x g (var p y z e) o f = undeclared t z (value Writable y) x [] (old_is_other old z x o.1 g) ∙ f
after_flag old t x g (nothing p) o f = f
after_flag old t x g (block p b) o f = f
after_flag old t x g (assign p z e) o f = f
after_flag old t x g (choice p e b c) o f = f
after_flag old t x g (return_ p) o f = f
after_flag old t x g (exit_ p) o f = f
after_flag old t x g (call p z args) o f = f

module _ (n : Flags) (m : Exits) (body : Body) where
  exit_after : (t : Scope) (body : Body) → after t (exit_in n body) ≡ t
  exit_after t in_action = refl
  exit_after t in_control = refl

  -- what is declared is the same
  pub after_same : (t : Scope) (l : Bool) (c : Stmt) → after t (in_list n m body l (is_var c) (stmt_without n m body c)) ≡ after t c
  after_same t true (nothing p) = refl
  after_same t true (block p b) = refl
  after_same t true (var p y x e) = refl
  after_same t true (assign p x e) = refl
  after_same t true (choice p e b c) = refl
  after_same t true (return_ p) = refl
  after_same t true (exit_ p) = refl
  after_same t true (call p x args) = refl
  after_same t false (nothing p) = refl
  after_same t false (block p b) = refl
  after_same t false (var p y x e) = refl
  after_same t false (assign p x e) = refl
  after_same t false (choice p e b c) = refl
  after_same t false (return_ p) = refl
  after_same t false (exit_ p) = exit_after t body
  after_same t false (call p x args) = refl

  module _ (old : Names) (h : Part) (k : takes_any h ≡ true) (guard_new : old (flag_of n body) ≡ false) (left_new : old n.left ≡ false) where
    guarded_fine : (t : Scope) (c : Stmt) → IsFlag t (flag_of n body) → IsFine (stmt_tests h t c) → IsFine (stmt_tests h t (guarded (flag_of n body) c))
    guarded_fine t c g f = (not_true (takes_any h) k, (((refl, refl), flag_read t (flag_of n body) 0 g), (f, tt)))

    list_fine : (t : Scope) (l v : Bool) (c : Stmt) → IsFlag t (flag_of n body) → IsFine (stmt_tests h t c) → IsFine (stmt_tests h t (in_list n m body l v c))
    list_fine t false v c g f = f
    list_fine t true true c g f = f
    list_fine t true false c g f = guarded_fine t c g f

    branch_fine : (t : Scope) (l : Bool) (c : Stmt) → IsFlag t (flag_of n body) → IsFine (stmt_tests h t c) → IsFine (stmt_tests h t (in_branch n m body l c))
    branch_fine t false c g f = f
    branch_fine t true c g f = (not_true (takes_any h) k, (guarded_fine t c g f, tt))

    exit_fine : (t : Scope) (body : Body) → IsFlag t (flag_of n body) → IsFlag t n.left → IsFine (stmt_tests h t (exit_in n body))
    exit_fine t in_action g l = (not_true (takes_any h) k, (flag_set h t n.left 0 0 true (any_assigns h k) l, (flag_set h t n.returned 0 0 true (any_assigns h k) g, tt)))
    exit_fine t in_control g l = flag_set h t n.left 0 0 true (any_assigns h k) l

    first : (t : Scope) (a b : Bool) → InSight n body t (a || b) → InSight n body t a
    first t a b i = record { guard = i.guard; left = λ e. i.left (or_first a b e) }

    second : (t : Scope) (a b : Bool) → InSight n body t (a || b) → InSight n body t b
    second t a b i = record { guard = i.guard; left = λ e. i.left (or_second a b e) }

    behind : (t : Scope) (c : Stmt) → OldStmt old c → (e : Bool) → InSight n body t e → InSight n body (after t c) e
    behind t c o e i = record { guard = after_flag old t (flag_of n body) guard_new c o i.guard; left = λ h. after_flag old t n.left left_new c o (i.left h) }

    mutual
      stmt_fine : (s t : Scope) → Alike old s t → (c : Stmt) → OldStmt old c → InSight n body t (stmt_exits c) → IsFine (stmt_tests h s c) → IsFine (stmt_tests h t (stmt_without n m body c))
      stmt_fine s t a (nothing p) o i f = f
      stmt_fine s t a (block p b) o i f = (f.0, stmts_fine s t a false b o i f.1)
      stmt_fine s t a (var p y x e) o i f = (f.0, subst IsFine (var_alike old s t a p y x e o.0 o.1 o.2) f.1)
      stmt_fine s t a (assign p x e) o i f = subst IsFine (stmt_alike old s t a h (assign p x e) o) f
      stmt_fine s t a (choice p e b c) o i f = (
        f.0,
        (
          subst IsFine (if_alike old s t a h e o.0) f.1.0,
          (
            branch_fine t (test_leaves m e) (stmt_without n m body b) i.guard (stmt_fine s t a b o.1 (first t (stmt_exits b) (else_exits c) i) f.1.1.0),
            else_fine s t a (test_leaves m e) c o.2 (second t (stmt_exits b) (else_exits c) i) f.1.1.1,
          ),
        ),
      )
      stmt_fine s t a (return_ p) o i f = flag_set h t (flag_of n body) 0 0 true (any_assigns h k) i.guard
      stmt_fine s t a (exit_ p) o i f = exit_fine t body i.guard (i.left refl)
      stmt_fine s t a (call p x args) o i f = subst IsFine (stmt_alike old s t a h (call p x args) o) f

      else_fine : (s t : Scope) → Alike old s t → (l : Bool) (c : MaybeStmt) → OldElse old c → InSight n body t (else_exits c) → IsFine (else_tests h s c) → IsFine (else_tests h t (else_without n m body l c))
      else_fine s t a l without o i f = tt
      else_fine s t a l (otherwise c) o i f = branch_fine t l (stmt_without n m body c) i.guard (stmt_fine s t a c o i f)

      pub stmts_fine : (s t : Scope) → Alike old s t → (l : Bool) (b : Stmts) → OldStmts old b → InSight n body t (stmts_exit b) → IsFine (block_tests h s b) → IsFine (block_tests h t (stmts_without n m body l b))
      stmts_fine s t a l done o i f = tt
      stmts_fine s t a l (next c b) o i f =
          let P : Scope → Type 0 = λ u. IsFine (block_tests h u (stmts_without n m body (l || stmt_leaves m c) b)) in (
            list_fine t l (is_var c) (stmt_without n m body c) i.guard (stmt_fine s t a c o.0 (first t (stmt_exits c) (stmts_exit b) i) f.0),
            subst P (sym (after_same t l c)) (stmts_fine (after s c) (after t c) (after_alike old s t a c o.0) (l || stmt_leaves m c) b o.1 (behind t c o.0 (stmts_exit b) (second t (stmt_exits c) (stmts_exit b) i)) f.1),
          )

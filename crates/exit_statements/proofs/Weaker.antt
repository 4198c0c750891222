-- Statements that use nothing hidden use nothing of what is hidden less.
use Rattle.std.proofs.Common.{◌≡◌, ℕ, List, [], ◌∷◌, Bool, true, false, cond, Option, Some, None, refl}
use Rattle.std.specs.List.{AllByRecursion}
use Rattle.lex_text.specs.Names.{same_path}
use Rattle.p4_tree.specs.Tree.{Expr, num, flag, path, valid, applied, error_name, negation, inversion, opposite, binary, conditional, slice, cast, Stmt, Stmts, MaybeStmt, nothing, block, var, assign, choice, return_, exit_, call, done, next, without, otherwise}
use Rattle.p4_meaning.specs.Statements.{Act, makes, drops, reads, writes, tells, sums, runs, applies, idle, act_of}
use Rattle.p4_meaning.specs.Actions.{Param}
use Rattle.exit_statements.specs.Without.{Flags}
use Rattle.exit_statements.specs.Free.{Hides, shows, IsFreeExpr, IsFreeStart, IsFreeAct, hides_behind, IsFreeStmt, IsFreeElse, AreFreeStmts}
use Rattle.exit_statements.specs.Actions.{shows_params}

-- less is hidden, but what may be declared
pub record Fits (own : List ℕ → Bool) (more less : Hides) : Type 0 where
  pub shown : (q : List (List ℕ)) → more q ≡ false → less q ≡ false
  pub hidden : (x : List ℕ) → own x ≡ true → more (x ∷ []) ≡ true → less (x ∷ []) ≡ true

module _ (own : List ℕ → Bool) where
  pub fits_shows : (more less : Hides) (x : List ℕ) → Fits own more less → Fits own (shows more x) (shows less x)
  fits_shows more less x h =
      record {
        shown = λ q u. one q (same_path (x ∷ []) q) u;
        hidden = λ y o u. two y (same_path (x ∷ []) (y ∷ [])) o u;
      }
    where
      one : (q : List (List ℕ)) (b : Bool) → cond b false (more q) ≡ false → cond b false (less q) ≡ false
      one q true u = refl
      one q false u = h.shown q u

      two : (y : List ℕ) (b : Bool) → own y ≡ true → cond b false (more (y ∷ [])) ≡ true → cond b false (less (y ∷ [])) ≡ true
      two y true o u = absurd (cc u)
      two y false o u = h.hidden y o u

  pub fits_params : (ps : List Param) (more less : Hides) → Fits own more less → Fits own (shows_params more ps) (shows_params less ps)
  fits_params [] more less h = h
  fits_params (p ∷ ps) more less h = fits_params ps (shows more p.name) (shows less p.name) (fits_shows more less p.name h)

  behind_fits : (more less : Hides) (s : Stmt) → Fits own more less → Fits own (hides_behind more s) (hides_behind less s)
  behind_fits more less (nothing p) h = h
  behind_fits more less (block p ss) h = h
  behind_fits more less (var p ty x e) h = fits_shows more less x h
  behind_fits more less (assign p target e) h = h
  behind_fits more less (choice p e s t) h = h
  behind_fits more less (return_ p) h = h
  behind_fits more less (exit_ p) h = h
  behind_fits more less (call p callee args) h = h

  pub free_expr : (more less : Hides) (e : Expr) → Fits own more less → IsFreeExpr more e → IsFreeExpr less e
  free_expr more less (num p l) h o = tt
  free_expr more less (flag p b) h o = tt
  free_expr more less (path p names) h o = h.shown names o
  free_expr more less (valid p header) h o = tt
  free_expr more less (applied p t b) h o = tt
  free_expr more less (error_name p x) h o = tt
  free_expr more less (negation p a) h o = free_expr more less a h o
  free_expr more less (inversion p a) h o = free_expr more less a h o
  free_expr more less (opposite p a) h o = free_expr more less a h o
  free_expr more less (binary p op a b) h o = (free_expr more less a h o.0, free_expr more less b h o.1)
  free_expr more less (conditional p t a b) h o = (free_expr more less t h o.0, free_expr more less a h o.1, free_expr more less b h o.2)
  free_expr more less (slice p a high low) h o = free_expr more less a h o
  free_expr more less (cast p ty a) h o = free_expr more less a h o

  free_start : (more less : Hides) (e : Option Expr) → Fits own more less → IsFreeStart more e → IsFreeStart less e
  free_start more less None h o = tt
  free_start more less (Some e) h o = free_expr more less e h o

  free_exprs : (more less : Hides) (es : List Expr) → Fits own more less → AllByRecursion (IsFreeExpr more) es → AllByRecursion (IsFreeExpr less) es
  free_exprs more less [] h o = tt
  free_exprs more less (e ∷ es) h o = (free_expr more less e h o.0, free_exprs more less es h o.1)

  free_act : (more less : Hides) (k : Act) → Fits own more less → IsFreeAct more k → IsFreeAct less k
  free_act more less (makes x b) h o = tt
  free_act more less drops h o = tt
  free_act more less (reads x t i) h o = (h.shown t o.0, free_expr more less i h o.1)
  free_act more less (writes x i v) h o = (free_expr more less i h o.0, free_expr more less v h o.1)
  free_act more less (tells r es) h o = free_exprs more less es h o
  free_act more less (sums b c es f) h o = (free_expr more less c h o.0, free_exprs more less es h o.1, h.shown f o.2)
  free_act more less (runs x es) h o = free_exprs more less es h o
  free_act more less (applies t) h o = tt
  free_act more less idle h o = tt

  module _ (n : Flags) where
    mutual
      pub free_stmt : (s : Stmt) (more less : Hides) → Fits own more less → IsFreeStmt n own more s → IsFreeStmt n own less s
      free_stmt (nothing p) more less h o = tt
      free_stmt (block p ss) more less h o = free_stmts ss more less h o
      free_stmt (var p ty x e) more less h o = (record { plain = o.0.plain; hidden = h.hidden x o.0.may_be o.0.hidden; may_be = o.0.may_be }, free_start more less e h o.1)
      free_stmt (assign p target e) more less h o = (h.shown target o.0, free_expr more less e h o.1)
      free_stmt (choice p e s t) more less h o = (free_expr more less e h o.0, free_stmt s more less h o.1, free_else t more less h o.2)
      free_stmt (return_ p) more less h o = tt
      free_stmt (exit_ p) more less h o = tt
      free_stmt (call p callee args) more less h o = free_act more less (act_of callee args) h o

      pub free_else : (s : MaybeStmt) (more less : Hides) → Fits own more less → IsFreeElse n own more s → IsFreeElse n own less s
      free_else without more less h o = tt
      free_else (otherwise s) more less h o = free_stmt s more less h o

      pub free_stmts : (ss : Stmts) (more less : Hides) → Fits own more less → AreFreeStmts n own more ss → AreFreeStmts n own less ss
      free_stmts done more less h o = tt
      free_stmts (next s ss) more less h o = (free_stmt s more less h o.0, free_stmts ss (hides_behind more s) (hides_behind less s) (behind_fits more less s h) o.1)

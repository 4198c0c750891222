-- Programs of given names use no flag.
use Rattle.std.proofs.Common.{◌≡◌, ℕ, zero, suc, List, [], ◌∷◌, ◌++◌, Bool, true, false, ◌||◌, cond, Option, Some, None, refl, ap, ap₂, ◌∙◌}
use Rattle.std.specs.List.{AllByRecursion}
use Rattle.lex_text.specs.Names.{same_text}
use Rattle.p4_tree.specs.Tree.{Expr, num, flag, path, valid, applied, error_name, negation, inversion, opposite, binary, conditional, slice, cast, Arg, one, many, Stmt, Stmts, MaybeStmt, nothing, block, var, assign, choice, return_, exit_, call, done, next, without, otherwise}
use Rattle.p4_tree.specs.declared.statement.PTy.{PTy}
use Rattle.p4_tree.specs.declared.program.Param.{Param}
use Rattle.p4_meaning.specs.Scope.{is_among, param_at, param_name, roots_of, root_of, names_in_stmt, names_in_else, names_in}
use Rattle.p4_meaning.specs.Standard.{headers_root, metadata_root, standard_root}
use Rattle.p4_meaning.specs.Actions.{params_in}
use Rattle.p4_rule_laws.specs.Old.{OldPath, OldFields, OldExpr, OldExprs, OldStart, OldArg, OldArgs, OldStmt, OldStmts, OldElse}
use Rattle.p4_rule_laws.specs.OldPrograms.{OldWays}
use Rattle.exit_statements.specs.WrittenActions.{is_returned, AvoidsPath, AvoidsExpr, AvoidsIf, AvoidsArg, AvoidsStmt, AvoidsElse, AvoidStmts}
use Rattle.exit_statements.proofs.Values.{text_decides, not_both}
use Rattle.exit_programs.specs.Programs.{flags}
use Rattle.exit_programs.specs.Names.{is_given}

-- ---- a given name is no kept one

pub other : (x y : List ℕ) → is_given x ≡ false → is_given y ≡ true → same_text x y ≡ false
other x y kept given = go (same_text x y) refl
  where
    go : (b : Bool) → same_text x y ≡ b → b ≡ false
    go true e = not_both (is_given x) (ap is_given ((text_decides x y).0 e) ∙ given) kept
    go false e = refl

pub other_way : (x y : List ℕ) → is_given x ≡ true → is_given y ≡ false → same_text x y ≡ false
other_way x y given kept = go (same_text x y) refl
  where
    go : (b : Bool) → same_text x y ≡ b → b ≡ false
    go true e = not_both (is_given x) given (ap is_given ((text_decides x y).0 e) ∙ kept)
    go false e = refl

pub not_among : (xs : List (List ℕ)) (y : List ℕ) → is_given y ≡ false → OldPath is_given xs → is_among xs y ≡ false
not_among [] y kept o = refl
not_among (x ∷ xs) y kept o = ap₂ (λ (a b : Bool). a || b) (other_way x y o.0 kept) (not_among xs y kept o.1)

both_old : (xs ys : List (List ℕ)) → OldPath is_given xs → OldPath is_given ys → OldPath is_given (xs ++ ys)
both_old [] ys o u = u
both_old (x ∷ xs) ys o u = (o.0, both_old xs ys o.1 u)

-- ---- statements

returned_off : (x : List ℕ) → is_given x ≡ true → is_returned flags x ≡ false
returned_off x o = other flags.returned x refl o

avoids_path : (xs : List (List ℕ)) → OldPath is_given xs → AvoidsPath (is_returned flags) xs
avoids_path [] o = tt
avoids_path (x ∷ xs) o = returned_off x o.0

avoids_expr : (e : Expr) → OldExpr is_given e → AvoidsExpr (is_returned flags) e
avoids_expr (num p n) o = tt
avoids_expr (flag p b) o = tt
avoids_expr (path p x) o = avoids_path x o
avoids_expr (valid p x) o = avoids_path x o
avoids_expr (applied p t h) o = tt
avoids_expr (error_name p x) o = tt
avoids_expr (negation p a) o = avoids_expr a o
avoids_expr (inversion p a) o = avoids_expr a o
avoids_expr (opposite p a) o = avoids_expr a o
avoids_expr (binary p op a b) o = (avoids_expr a o.0, avoids_expr b o.1)
avoids_expr (conditional p c a b) o = (avoids_expr c o.0, avoids_expr a o.1, avoids_expr b o.2)
avoids_expr (slice p a h l) o = avoids_expr a o
avoids_expr (cast p t a) o = avoids_expr a o

avoids_if : (e : Option Expr) → OldStart is_given e → AvoidsIf (is_returned flags) e
avoids_if None o = tt
avoids_if (Some e) o = avoids_expr e o

avoids_all : (es : List Expr) → OldExprs is_given es → AllByRecursion (AvoidsExpr (is_returned flags)) es
avoids_all [] o = tt
avoids_all (e ∷ es) o = (avoids_expr e o.0, avoids_all es o.1)

avoids_arg : (a : Arg) → OldArg is_given a → AvoidsArg (is_returned flags) a
avoids_arg (one p e) o = avoids_expr e o
avoids_arg (many p es) o = avoids_all es o

avoids_args : (as' : List Arg) → OldArgs is_given as' → AllByRecursion (AvoidsArg (is_returned flags)) as'
avoids_args [] o = tt
avoids_args (a ∷ as') o = (avoids_arg a o.0, avoids_args as' o.1)

mutual
  avoids_stmt : (s : Stmt) → OldStmt is_given s → AvoidsStmt (is_returned flags) s
  avoids_stmt (nothing p) o = tt
  avoids_stmt (block p ss) o = avoid_stmts ss o
  avoids_stmt (var p ty x e) o = (returned_off x o.1, avoids_if e o.2)
  avoids_stmt (assign p x e) o = (avoids_path x o.0, avoids_expr e o.1)
  avoids_stmt (choice p e a b) o = (avoids_expr e o.0, (avoids_stmt a o.1, avoids_else b o.2))
  avoids_stmt (return_ p) o = tt
  avoids_stmt (exit_ p) o = tt
  avoids_stmt (call p x args) o = (avoids_path x o.0, avoids_args args o.1)

  avoids_else : (s : MaybeStmt) → OldElse is_given s → AvoidsElse (is_returned flags) s
  avoids_else without o = tt
  avoids_else (otherwise s) o = avoids_stmt s o

  pub avoid_stmts : (ss : Stmts) → OldStmts is_given ss → AvoidStmts (is_returned flags) ss
  avoid_stmts done o = tt
  avoid_stmts (next s ss) o = (avoids_stmt s o.0, avoid_stmts ss o.1)

mutual
  names_stmt : (s : Stmt) → OldStmt is_given s → OldPath is_given (names_in_stmt s)
  names_stmt (nothing p) o = tt
  names_stmt (block p ss) o = names_stmts ss o
  names_stmt (var p ty x e) o = (o.1, tt)
  names_stmt (assign p x e) o = tt
  names_stmt (choice p e a b) o = both_old (names_in_stmt a) (names_in_else b) (names_stmt a o.1) (names_else b o.2)
  names_stmt (return_ p) o = tt
  names_stmt (exit_ p) o = tt
  names_stmt (call p x args) o = tt

  names_else : (s : MaybeStmt) → OldElse is_given s → OldPath is_given (names_in_else s)
  names_else without o = tt
  names_else (otherwise s) o = names_stmt s o

  names_stmts : (ss : Stmts) → OldStmts is_given ss → OldPath is_given (names_in ss)
  names_stmts done o = tt
  names_stmts (next s ss) o = both_old (names_in_stmt s) (names_in ss) (names_stmt s o.0) (names_stmts ss o.1)

-- ---- parameters

fields_old : (ps : List (PTy × List ℕ)) → OldFields is_given ps → OldPath is_given (params_in ps)
fields_old [] o = tt
fields_old (p ∷ ps) o = (o.1, fields_old ps o.2)

pub params_off : (ps : List (PTy × List ℕ)) → OldFields is_given ps → AllByRecursion (λ (p : PTy × List ℕ). same_text flags.returned p.1 ≡ false) ps
params_off [] o = tt
params_off (p ∷ ps) o = (returned_off p.1 o.1, params_off ps o.2)

-- the names of an action are no flag of its control
pub inner_off : (ps : List (PTy × List ℕ)) (ss : Stmts) → OldFields is_given ps → OldStmts is_given ss → is_among (params_in ps ++ names_in ss) flags.left ≡ false
inner_off ps ss o u = not_among (params_in ps ++ names_in ss) flags.left refl (both_old (params_in ps) (names_in ss) (fields_old ps o) (names_stmts ss u))

name_given : (ps : List Param) (n : ℕ) → OldWays is_given ps → is_given (param_name (param_at ps n)) ≡ true
name_given [] n o = refl
name_given (p ∷ ps) zero o = o.1
name_given (p ∷ ps) (suc n) o = name_given ps n o.2

-- flags stand for themselves under a control's parameters
pub root_same : (ps : List Param) (h m s : ℕ) (x : List ℕ) → is_given x ≡ false → OldWays is_given ps → root_of (roots_of ps h m s) x ≡ x
root_same ps h m s x kept o =
    go (same_text (param_name (param_at ps h)) x) (same_text (param_name (param_at ps m)) x) (same_text (param_name (param_at ps s)) x)
    (other_way _ x (name_given ps h o) kept) (other_way _ x (name_given ps m o) kept) (other_way _ x (name_given ps s o) kept)
  where
    go : (a b c : Bool) → a ≡ false → b ≡ false → c ≡ false → cond a headers_root (cond b metadata_root (cond c standard_root x)) ≡ x
    go true b c d e f = absurd (cc d)
    go false true c d e f = absurd (cc e)
    go false false true d e f = absurd (cc f)
    go false false false d e f = refl

-- What is not left in flat code: loops, pushes, and counts and members of lists.
use Rattle.std.specs.Prelude.{◌≡◌, ℕ, false, List}
use Rattle.indus_tree.specs.Tree.{Expr, Exprs, num, flag, read, count, index, member, negation, inversion, binary, cast, none, more, Stmt, Stmts, assign, cell, push, choice, loop, reject, report, done, next, block_from, Decl}
use Rattle.indus_types.specs.Sums.{is_list}
use Rattle.lower_lists.specs.Flat.{flat_of}

module _ (ds : List Decl) where
  abbrev mutual
    -- no count of a list, and no member of one
    pub IsFlatExpr : Expr → Type 0
    IsFlatExpr (num p n) = Unit {0}
    IsFlatExpr (flag p b) = Unit {0}
    IsFlatExpr (read p x) = Unit {0}
    IsFlatExpr (count p x) = ⊥
    IsFlatExpr (index p x ks) = AreFlatExprs ks
    IsFlatExpr (member p ks x) = (is_list ds x ≡ false) × AreFlatExprs ks
    IsFlatExpr (negation p a) = IsFlatExpr a
    IsFlatExpr (inversion p a) = IsFlatExpr a
    IsFlatExpr (binary p op a b) = IsFlatExpr a × IsFlatExpr b
    IsFlatExpr (cast p w a) = IsFlatExpr a

    pub AreFlatExprs : Exprs → Type 0
    AreFlatExprs none = Unit {0}
    AreFlatExprs (more e es) = IsFlatExpr e × AreFlatExprs es

  abbrev mutual
    -- no push, and no loop
    pub IsFlatStmt : Stmt → Type 0
    IsFlatStmt (assign p x e) = IsFlatExpr e
    IsFlatStmt (cell p x i e) = IsFlatExpr i × IsFlatExpr e
    IsFlatStmt (push p x e) = ⊥
    IsFlatStmt (choice p t a b) = IsFlatExpr t × IsFlatBlock a × IsFlatBlock b
    IsFlatStmt (loop p xs ls a) = ⊥
    IsFlatStmt (reject p) = Unit {0}
    IsFlatStmt (report p n es) = AreFlatExprs es

    pub IsFlatBlock : Stmts → Type 0
    IsFlatBlock done = Unit {0}
    IsFlatBlock (next s ss) = IsFlatStmt s × IsFlatBlock ss

-- of each block, also one that breaks a rule of types, the flat code is flat
abbrev pub FlatCodeIsFlat : Type 0
FlatCodeIsFlat = (ds : List Decl) (ss : Stmts) → IsFlatBlock ds (block_from (flat_of ds ss))

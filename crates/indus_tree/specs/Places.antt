-- The same tree but for its places.
use Rattle.std.specs.Prelude.{◌≡◌, map}
use Rattle.std.specs.Option.{option_map}
use Rattle.indus_tree.specs.Tree.{Expr, Exprs, num, flag, read, count, index, member, negation, inversion, binary, cast, none, more, Stmt, Stmts, assign, cell, push, choice, loop, reject, report, done, next, Decl, Property}

abbrev mutual
  -- an expression with all places 0
  pub plain : Expr → Expr
  plain (num p n) = num 0 n
  plain (flag p b) = flag 0 b
  plain (read p x) = read 0 x
  plain (count p x) = count 0 x
  plain (index p x es) = index 0 x (plain_exprs es)
  plain (member p es x) = member 0 (plain_exprs es) x
  plain (negation p a) = negation 0 (plain a)
  plain (inversion p a) = inversion 0 (plain a)
  plain (binary p op a b) = binary 0 op (plain a) (plain b)
  plain (cast p w a) = cast 0 w (plain a)

  pub plain_exprs : Exprs → Exprs
  plain_exprs none = none
  plain_exprs (more e es) = more (plain e) (plain_exprs es)

abbrev mutual
  -- a statement with all places 0
  pub plain_stmt : Stmt → Stmt
  plain_stmt (assign p x e) = assign 0 x (plain e)
  plain_stmt (cell p x i e) = cell 0 x (plain i) (plain e)
  plain_stmt (push p x e) = push 0 x (plain e)
  plain_stmt (choice p e a b) = choice 0 (plain e) (plain_block a) (plain_block b)
  plain_stmt (loop p xs ls a) = loop 0 xs ls (plain_block a)
  plain_stmt (reject p) = reject 0
  plain_stmt (report p n es) = report 0 n (plain_exprs es)

  pub plain_block : Stmts → Stmts
  plain_block done = done
  plain_block (next s ss) = next (plain_stmt s) (plain_block ss)

-- a declaration with all places 0
abbrev pub plain_decl : Decl → Decl
plain_decl d = record d { at = 0; start = option_map plain d.start }

-- a property with all places 0
abbrev pub plain_property : Property → Property
plain_property p = record p { at = 0; decls = map plain_decl p.decls; init = plain_block p.init; tele = plain_block p.tele; check = plain_block p.check }

-- the same property but for its places
abbrev pub IsSameProperty : Property → Property → Type 0
IsSameProperty p q = plain_property p ≡ plain_property q

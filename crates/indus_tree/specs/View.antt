-- The trees that the values of the program stand for.
use Rattle.std.specs.Prelude.{List, map}
use Rattle.std.specs.Option.{option_map}
use Rattle.indus_tree.specs.Tree.{Shape, one, list, set, dict, Expr, Exprs, num, flag, read, count, index, member, negation, inversion, binary, cast, exprs_from, Stmt, Stmts, assign, cell, push, choice, loop, reject, report, block_from, Decl, Property}
use Rattle.indus_tree.specs.declared.tree.Shape as code_shape
use Rattle.indus_tree.specs.declared.tree.Shape.TheVariants as shape
use Rattle.indus_tree.specs.declared.tree.Expr as code_expr
use Rattle.indus_tree.specs.declared.tree.Expr.TheOpen.{Expr-F, Num, Flag, Read, Length, Index, Member, Not, Invert, Bin, Cast}
use Rattle.indus_tree.specs.declared.tree.Expr.TheFolds.{fold-Expr}
use Rattle.indus_tree.specs.declared.tree.Stmt as code_stmt
use Rattle.indus_tree.specs.declared.tree.Stmt.TheOpen.{Stmt-F, Assign, Cell, Push, If, For, Reject, Report}
use Rattle.indus_tree.specs.declared.tree.Stmt.TheFolds.{fold-Stmt}
use Rattle.indus_tree.specs.declared.tree.Decl as code_decl
use Rattle.indus_tree.specs.declared.tree.Property as code_property

-- what a variable holds
abbrev pub shape_of : code_shape.Shape → Shape
shape_of (shape.One t) = one t
shape_of (shape.List t n) = list t n
shape_of (shape.SetOf ks) = set ks.items
shape_of (shape.DictOf ks t) = dict ks.items t

-- one layer of an expression, whose parts are trees already
abbrev pub expr_layer : Expr-F Expr → Expr
expr_layer (Num p n) = num p n
expr_layer (Flag p b) = flag p b
expr_layer (Read p x) = read p x
expr_layer (Length p x) = count p x
expr_layer (Index p x es) = index p x (exprs_from es.items)
expr_layer (Member p es x) = member p (exprs_from es.items) x
expr_layer (Not p a) = negation p a.value
expr_layer (Invert p a) = inversion p a.value
expr_layer (Bin p op a b) = binary p op a.value b.value
expr_layer (Cast p w a) = cast p w a.value

-- an expression
abbrev pub expr_of : code_expr.Expr → Expr
expr_of = fold-Expr Expr expr_layer

-- a list of expressions
abbrev pub exprs_of : List code_expr.Expr → Exprs
exprs_of es = exprs_from (map expr_of es)

-- one layer of a statement
abbrev pub stmt_layer : Stmt-F Stmt → Stmt
stmt_layer (Assign p x e) = assign p x (expr_of e)
stmt_layer (Cell p x i e) = cell p x (expr_of i) (expr_of e)
stmt_layer (Push p x e) = push p x (expr_of e)
stmt_layer (If p e a b) = choice p (expr_of e) (block_from a.items) (block_from b.items)
stmt_layer (For p xs ls a) = loop p xs.items ls.items (block_from a.items)
stmt_layer (Reject p) = reject p
stmt_layer (Report p n es) = report p n (exprs_of es.items)

-- a statement
abbrev pub stmt_of : code_stmt.Stmt → Stmt
stmt_of = fold-Stmt Stmt stmt_layer

-- a block
abbrev pub block_of : List code_stmt.Stmt → Stmts
block_of ss = block_from (map stmt_of ss)

-- a declaration
abbrev pub decl_of : code_decl.Decl → Decl
decl_of d = record { at = d.at; kind = d.kind; name = d.name; shape = shape_of d.shape; start = option_map expr_of d.start; path = d.path.items; valid = d.valid }

-- a property
abbrev pub property_of : code_property.Property → Property
property_of p = record { at = p.at; edition = p.edition; decls = map decl_of p.decls.items; init = block_of p.init.items; tele = block_of p.tele.items; check = block_of p.check.items }

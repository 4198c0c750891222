-- What the values of the program stand for.
use Rattle.std.specs.Prelude.{ℕ, List, map, Option}
use Rattle.std.specs.Option.{option_map}
use Rattle.std.specs.Borrow.{Bor}
use Rattle.indus_tree.specs.Tree.{Expr, Decl}
use Rattle.indus_tree.specs.View.{decl_of, expr_of}
use Rattle.indus_tree.specs.declared.tree.Expr as code
use Rattle.indus_tree.specs.declared.tree.Decl as code_decl
use Rattle.lower_reads.specs.declared.numbers.Read.{Read}
use Rattle.lower_reads.specs.declared.declarations.Declarations.{Declarations}

abbrev pub declared : Declarations → List Decl
declared d = map decl_of d.decls.items

-- expressions that are lent
abbrev pub lent : List (Bor code.Expr) → List Expr
lent es = map (λ (e : Bor code.Expr). expr_of e.now) es

-- the declaration of what is read
abbrev pub decl_read : Read → Option Decl
decl_read r = option_map (λ (d : Bor code_decl.Decl). decl_of d.now) r.decl

-- reads with their numbers
abbrev pub reads_of : List Read → List (ℕ × Option Decl)
reads_of rs = map (λ r. (r.number, decl_read r)) rs

-- The places of a tree rise in the order of the text, and lie among the lexemes that spell it.
use Rattle.std.specs.Prelude.{◌≡◌, ℕ, ◌+◌, ◌≤◌, ◌<◌, List, [], ◌∷◌, length, Option, Some, None}
use Rattle.lex_words.specs.Seen.{Lexeme}
use Rattle.indus_tree.specs.Tree.{Expr, Exprs, num, flag, read, count, index, member, negation, inversion, binary, cast, none, more, Stmt, Stmts, assign, cell, push, choice, loop, reject, report, done, next, Decl, Property}
use Rattle.indus_spelling.specs.Properties.{SpellsProperty}

abbrev mutual
  -- the expression's places rise from p on, and are below q
  pub Rises : (p q : ℕ) → Expr → Type 0
  Rises p q (num r n) = (p ≤ r) × (r < q)
  Rises p q (flag r b) = (p ≤ r) × (r < q)
  Rises p q (read r s) = (p ≤ r) × (r < q)
  Rises p q (count r s) = (p ≤ r) × (r < q)
  Rises p q (index r s es) = (p ≤ r) × AllRise (r + 1) q es
  Rises p q (member r es s) = (p ≤ r) × AllRise r q es
  Rises p q (negation r a) = (p ≤ r) × Rises (r + 1) q a
  Rises p q (inversion r a) = (p ≤ r) × Rises (r + 1) q a
  -- a binary operator's place is that of its left side's first lexeme
  Rises p q (binary r op a b) = (p ≤ r) × ((m : ℕ) × Rises r m a × Rises (m + 1) q b)
  Rises p q (cast r w a) = (p ≤ r) × Rises (r + 1) q a

  pub AllRise : (p q : ℕ) → Exprs → Type 0
  AllRise p q none = p ≤ q
  AllRise p q (more e es) = (m : ℕ) × Rises p m e × AllRise m q es

abbrev mutual
  pub StmtRises : (p q : ℕ) → Stmt → Type 0
  StmtRises p q (assign r s e) = (p ≤ r) × Rises (r + 1) q e
  StmtRises p q (cell r s i e) = (p ≤ r) × ((m : ℕ) × Rises (r + 1) m i × Rises m q e)
  StmtRises p q (push r s e) = (p ≤ r) × Rises (r + 1) q e
  StmtRises p q (choice r e a b) = (p ≤ r) × ((m : ℕ) × (k : ℕ) × Rises (r + 1) m e × BlockRises m k a × BlockRises k q b)
  StmtRises p q (loop r xs ls a) = (p ≤ r) × BlockRises (r + 1) q a
  StmtRises p q (reject r) = (p ≤ r) × (r < q)
  StmtRises p q (report r n es) = (p ≤ r) × AllRise (r + 1) q es

  pub BlockRises : (p q : ℕ) → Stmts → Type 0
  BlockRises p q done = p ≤ q
  BlockRises p q (next s ss) = (m : ℕ) × StmtRises p m s × BlockRises m q ss

-- an initial value, where there is one
abbrev pub StartRises : (p q : ℕ) → Option Expr → Type 0
StartRises p q None = p ≤ q
StartRises p q (Some e) = Rises p q e

abbrev pub DeclsRise : (p q : ℕ) → List Decl → Type 0
DeclsRise p q [] = p ≤ q
DeclsRise p q (d ∷ ds) = (m : ℕ) × (p ≤ d.at) × StartRises (d.at + 1) m d.start × DeclsRise m q ds

-- a property's places rise from 0 on, and are below q
pub record PropertyRises (q : ℕ) (t : Property) : Type 0 where
  pub at : t.at ≡ 0
  pub init_from : ℕ
  pub tele_from : ℕ
  pub check_from : ℕ
  pub decls : DeclsRise 0 init_from t.decls
  pub init : BlockRises init_from tele_from t.init
  pub tele : BlockRises tele_from check_from t.tele
  pub check : BlockRises check_from q t.check

-- a spelled tree's places rise, and lie among its lexemes
abbrev pub PlacesRise : Type 0
PlacesRise = (t : Property) (ws : List Lexeme) → SpellsProperty t ws → PropertyRises (length ws) t

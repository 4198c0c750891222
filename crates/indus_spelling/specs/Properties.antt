-- Which lexemes spell a statement, a block and a property.
use Rattle.std.specs.Prelude.{ℕ, ◌+◌, List, [], ◌∷◌, ◌++◌, length, codes}
use Rattle.lex_text.specs.declared.literal.Literal.{Literal}
use Rattle.lex_words.specs.Seen.{Lexeme, name, number, key}
use Rattle.lex_words.specs.declared.key.Key.TheVariants.{Edition, If, Else, For, In, Reject, Report, BraceOpen, BraceClose, Open, Close, SquareOpen, SquareClose, Semicolon, Comma, Dot, Assign}
use Rattle.indus_tree.specs.Tree.{Expr, Exprs, none, Stmt, Stmts, assign, cell, push, choice, loop, reject, report, done, next, Decl, Property}
use Rattle.indus_spelling.specs.Operators.{top}
use Rattle.indus_spelling.specs.Expressions.{Spells, SpellsAll}
use Rattle.indus_spelling.specs.Declarations.{SpellsDecls}

-- ---- the reports of a text are numbered in its order

abbrev mutual
  -- how many reports a statement has
  pub reports_in : Stmt → ℕ
  reports_in (assign p x e) = 0
  reports_in (cell p x i e) = 0
  reports_in (push p x e) = 0
  reports_in (choice p e a b) = block_reports a + block_reports b
  reports_in (loop p xs ls a) = block_reports a
  reports_in (reject p) = 0
  reports_in (report p n es) = 1

  pub block_reports : Stmts → ℕ
  block_reports done = 0
  block_reports (next s ss) = reports_in s + block_reports ss

-- ---- statements

-- one name or more, with commas between them
pub data SpellsNames : List (List ℕ) → List Lexeme → Type 0 where
  last_name : (x : List ℕ) → SpellsNames (x ∷ []) (name x ∷ [])
  then_names : (x : List ℕ) {xs : List (List ℕ)} {u : List Lexeme} → SpellsNames xs u → SpellsNames (x ∷ xs) (name x ∷ key Comma ∷ u)

-- expressions with commas between them, or none
pub data SpellsSome : (p : ℕ) → Exprs → List Lexeme → Type 0 where
  no_value : {p : ℕ} → SpellsSome p none []
  values : {p : ℕ} {es : Exprs} {u : List Lexeme} → SpellsAll p es u → SpellsSome p es u

-- `push` is no reserved word
abbrev pub push_name : List ℕ
push_name = codes "push"

mutual
  -- From lexeme p on, the lexemes spell the statement, and its first report has the number r.
  pub data SpellsStmt : (p r : ℕ) → Stmt → List Lexeme → Type 0 where
    an_assign : {p r : ℕ} (s : List ℕ) {e : Expr} {u : List Lexeme} → Spells top (p + 1 + 1) e u → SpellsStmt p r (assign p s e) (name s ∷ key Assign ∷ (u ++ key Semicolon ∷ []))
    a_cell : {p r : ℕ} (s : List ℕ) {i e : Expr} {u v : List Lexeme} → Spells top (p + 1 + 1) i u → Spells top (p + 1 + 1 + length u + 1 + 1) e v
        → SpellsStmt p r (cell p s i e) (name s ∷ key SquareOpen ∷ (u ++ key SquareClose ∷ key Assign ∷ (v ++ key Semicolon ∷ [])))
    a_push : {p r : ℕ} (s : List ℕ) {e : Expr} {u : List Lexeme} → Spells top (p + 1 + 1 + 1 + 1) e u
        → SpellsStmt p r (push p s e) (name s ∷ key Dot ∷ name push_name ∷ key Open ∷ (u ++ key Close ∷ key Semicolon ∷ []))
    an_ifs : {p r : ℕ} {c : Stmt} {u : List Lexeme} → SpellsIfs p r c u → SpellsStmt p r c u
    a_loop : {p r : ℕ} {xs ls : List (List ℕ)} {ss : Stmts} {u v w : List Lexeme} → SpellsNames xs u → SpellsNames ls v
        → SpellsBlock (p + 1 + 1 + length u + 1 + length v + 1) r ss w → SpellsStmt p r (loop p xs ls ss) (key For ∷ key Open ∷ (u ++ key In ∷ (v ++ key Close ∷ w)))
    a_reject : {p r : ℕ} → SpellsStmt p r (reject p) (key Reject ∷ key Semicolon ∷ [])
    a_report : {p r : ℕ} {es : Exprs} {u : List Lexeme} → SpellsSome (p + 1 + 1) es u → SpellsStmt p r (report p r es) (key Report ∷ key Open ∷ (u ++ key Close ∷ key Semicolon ∷ []))

  -- `if`, perhaps with `else`, which belongs to the nearest `if` that has none
  pub data SpellsIfs : (p r : ℕ) → Stmt → List Lexeme → Type 0 where
    an_if : {p r : ℕ} {e : Expr} {ys zs : Stmts} {u v w : List Lexeme} → Spells top (p + 1 + 1) e u → SpellsBlock (p + 1 + 1 + length u + 1) r ys v
        → SpellsElse (p + 1 + 1 + length u + 1 + length v) (r + block_reports ys) zs w → SpellsIfs p r (choice p e ys zs) (key If ∷ key Open ∷ (u ++ key Close ∷ (v ++ w)))

  pub data SpellsElse : (p r : ℕ) → Stmts → List Lexeme → Type 0 where
    no_else : {p r : ℕ} → SpellsElse p r done []
    else_block : {p r : ℕ} {ss : Stmts} {u : List Lexeme} → SpellsBlock (p + 1) r ss u → SpellsElse p r ss (key Else ∷ u)
    else_if : {p r : ℕ} {c : Stmt} {u : List Lexeme} → SpellsIfs (p + 1) r c u → SpellsElse p r (next c done) (key Else ∷ u)

  -- statements in braces
  pub data SpellsBlock : (p r : ℕ) → Stmts → List Lexeme → Type 0 where
    in_braces : {p r : ℕ} {ss : Stmts} {u : List Lexeme} → SpellsMany (p + 1) r ss u → SpellsBlock p r ss (key BraceOpen ∷ (u ++ key BraceClose ∷ []))

  pub data SpellsMany : (p r : ℕ) → Stmts → List Lexeme → Type 0 where
    no_more : {p r : ℕ} → SpellsMany p r done []
    one_more : {p r : ℕ} {c : Stmt} {rest : Stmts} {u v : List Lexeme} → SpellsStmt p r c u → SpellsMany (p + length u) (r + reports_in c) rest v → SpellsMany p r (next c rest) (u ++ v)

-- ---- properties

-- the number of the second edition, which has no written width
abbrev pub two : Literal
two = record { width = 0; value = 2 }

-- the edition line, or nothing in the first edition
pub data SpellsEdition : ℕ → List Lexeme → Type 0 where
  first_edition : SpellsEdition 1 []
  second_edition : SpellsEdition 2 (key Edition ∷ number two ∷ key Semicolon ∷ [])

-- a property; its first lexeme is that of the text, whatever its edition
abbrev pub property : (edition : ℕ) → List Decl → (init tele check : Stmts) → Property
property e ds a b c = record { at = 0; edition = e; decls = ds; init = a; tele = b; check = c }

-- The lexemes spell the property: its edition, declarations, and three blocks, whose reports are numbered one behind the other.
pub data SpellsProperty : Property → List Lexeme → Type 0 where
  a_property : {e : ℕ} {ds : List Decl} {a b c : Stmts} {r s u v w : List Lexeme} → SpellsEdition e r → SpellsDecls (length r) ds s → SpellsBlock (length r + length s) 0 a u
      → SpellsBlock (length r + length s + length u) (block_reports a) b v → SpellsBlock (length r + length s + length u + length v) (block_reports a + block_reports b) c w
      → SpellsProperty (property e ds a b c) (r ++ (s ++ (u ++ (v ++ w))))

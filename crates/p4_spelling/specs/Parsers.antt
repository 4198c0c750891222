-- Which lexemes spell a parser.
use Rattle.std.specs.Prelude.{ℕ, ◌+◌, true, false, List, [], ◌∷◌, ◌++◌, length}
use Rattle.lex_text.specs.declared.literal.Literal.{Literal}
use Rattle.lex_words.specs.Seen.{Lexeme, name, number, key}
use Rattle.lex_words.specs.declared.key.Key.TheVariants as k
use Rattle.p4_tree.specs.Tree.{Expr, num, flag, path, one, Stmt, call, Keyset, any, only, masked, Case, Transition, nowhere, to, select, ParserState, Parser}
use Rattle.p4_tree.specs.declared.program.Param.{Param}
use Rattle.p4_spelling.specs.Operators.{top}
use Rattle.p4_spelling.specs.Lists.{SpellsList, SpellsEach}
use Rattle.p4_spelling.specs.Types.{SpellsParam}
use Rattle.p4_spelling.specs.Expressions.{SpellsPath, Spells}
use Rattle.p4_spelling.specs.Statements.{SpellsAssign}

-- a statement of a state: an assignment, or a call with one path
pub data SpellsParserStmt : (p : ℕ) → Stmt → List Lexeme → Type 0 where
  an_assignment : {p : ℕ} {s : Stmt} {u : List Lexeme} → SpellsAssign p s u → SpellsParserStmt p s u
  a_call : {p : ℕ} {xs ys : List (List ℕ)} {u v : List Lexeme} → SpellsPath xs u → SpellsPath ys v
      → SpellsParserStmt p (call p xs (one (p + length u + 1) (path (p + length u + 1) ys) ∷ [])) (u ++ key k.Open ∷ (v ++ key k.Close ∷ key k.Semicolon ∷ []))

-- ---- selects

-- a number, a name or a truth value
pub data SpellsSimple : (p : ℕ) → Expr → List Lexeme → Type 0 where
  a_number : {p : ℕ} (n : Literal) → SpellsSimple p (num p n) (number n ∷ [])
  a_name : {p : ℕ} (x : List ℕ) → SpellsSimple p (path p (x ∷ [])) (name x ∷ [])
  a_true : {p : ℕ} → SpellsSimple p (flag p true) (key k.True ∷ [])
  a_false : {p : ℕ} → SpellsSimple p (flag p false) (key k.False ∷ [])

-- what a key has to be: anything, one value, or a value under a mask
pub data SpellsKeyset : (p : ℕ) → Keyset → List Lexeme → Type 0 where
  a_default : {p : ℕ} → SpellsKeyset p (any p) (key k.Default ∷ [])
  a_low_line : {p : ℕ} → SpellsKeyset p (any p) (key k.LowLine ∷ [])
  a_value : {p : ℕ} {e : Expr} {u : List Lexeme} → SpellsSimple p e u → SpellsKeyset p (only p e) u
  a_mask : {p : ℕ} {e m : Expr} {u v : List Lexeme} → SpellsSimple p e u → SpellsSimple (p + length u + 1) m v → SpellsKeyset p (masked p e m) (u ++ key k.Mask ∷ v)

-- the keys of a case: one, or one or more in brackets
pub data SpellsKeys : (p : ℕ) → List Keyset → List Lexeme → Type 0 where
  one_key : {p : ℕ} {s : Keyset} {u : List Lexeme} → SpellsKeyset p s u → SpellsKeys p (s ∷ []) u
  in_brackets : {p : ℕ} {ss : List Keyset} {u : List Lexeme} → SpellsList SpellsKeyset (p + 1) ss u → SpellsKeys p ss (key k.Open ∷ (u ++ key k.Close ∷ []))

-- a case: its keys, and the state that follows
pub data SpellsCase : (p : ℕ) → Case → List Lexeme → Type 0 where
  a_case : {p : ℕ} {ss : List Keyset} {u : List Lexeme} (x : List ℕ) → SpellsKeys p ss u → SpellsCase p (record { keys = ss; next = x }) (u ++ key k.Colon ∷ name x ∷ key k.Semicolon ∷ [])

-- how a state goes on; where nothing says so, the place is that of the next lexeme
pub data SpellsNext : (p : ℕ) → Transition → List Lexeme → Type 0 where
  no_transition : {p : ℕ} → SpellsNext p (nowhere p) []
  a_transition : {p : ℕ} (x : List ℕ) → SpellsNext p (to p x) (key k.Transition ∷ name x ∷ key k.Semicolon ∷ [])
  a_select : {p : ℕ} {es : List Expr} {cs : List Case} {u v : List Lexeme} → SpellsList (Spells top) (p + 1 + 1 + 1) es u → SpellsEach SpellsCase (p + 1 + 1 + 1 + length u + 1 + 1) cs v
      → SpellsNext p (select p es cs) (key k.Transition ∷ key k.Select ∷ key k.Open ∷ (u ++ key k.Close ∷ key k.BraceOpen ∷ (v ++ key k.BraceClose ∷ [])))

-- ---- states and parsers

-- a state: its statements, and how it goes on
pub data SpellsState : (p : ℕ) → ParserState → List Lexeme → Type 0 where
  a_state : {p : ℕ} {ss : List Stmt} {t : Transition} {u v : List Lexeme} (x : List ℕ) → SpellsEach SpellsParserStmt (p + 1 + 1 + 1) ss u → SpellsNext (p + 1 + 1 + 1 + length u) t v
      → SpellsState p (record { at = p; name = x; body = ss; next = t }) (key k.State ∷ name x ∷ key k.BraceOpen ∷ (u ++ (v ++ key k.BraceClose ∷ [])))

-- a parser: its parameters and its states
pub data SpellsParser : (p : ℕ) → Parser → List Lexeme → Type 0 where
  a_parser : {p : ℕ} {ps : List Param} {ss : List ParserState} {u v : List Lexeme} (x : List ℕ) → SpellsList SpellsParam (p + 1 + 1 + 1) ps u
      → SpellsEach SpellsState (p + 1 + 1 + 1 + length u + 1 + 1) ss v
      → SpellsParser p (record { at = p; name = x; params = ps; states = ss }) (key k.Parser ∷ name x ∷ key k.Open ∷ (u ++ key k.Close ∷ key k.BraceOpen ∷ (v ++ key k.BraceClose ∷ [])))

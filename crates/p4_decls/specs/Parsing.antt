-- Reading parsers from left to right.
use Rattle.std.specs.Prelude.{ℕ, ◌+◌, ◌-◌, Bool, true, false, ◌||◌, List, [], ◌∷◌, Option, is_some, Ok, if◌then◌else◌, slice_get}
use Rattle.lex_words.specs.declared.key.Key.TheVariants as k
use Rattle.lex_words.specs.Seen.{Lexeme, name_in, at_key}
use Rattle.lex_words.specs.Reading.{Read, ◌>>=◌, expect_at, named_at, numbered_at}
use Rattle.p4_tree.specs.Tree.{Expr, num, flag, path, one, Stmt, call, Keyset, any, only, masked, Case, Transition, nowhere, to, select, ParserState, Parser}
use Rattle.p4_spelling.specs.Operators.{top}
use Rattle.p4_expressions.specs.Reading.{names_at, expr_at}
use Rattle.p4_reader.specs.Reading.{assign_from}
use Rattle.p4_decls.specs.Repeating.{each_at, list_at}
use Rattle.p4_decls.specs.Declaring.{param_at}

-- a list in braces ends here
abbrev pub closes_brace : Option Lexeme → Bool
closes_brace o = at_key k.BraceClose o

-- the statements of a state end here
abbrev pub ends_steps : Option Lexeme → Bool
ends_steps o = at_key k.Transition o || at_key k.BraceClose o

-- h: how high an expression may be. b: how many more round brackets may be open.
module _ (ws : List Lexeme) (n b h : ℕ) where
  -- ---- the statements of a state

  -- "(" path ")" ";" behind the path xs, which begins at p
  unfoldable pub taken_at : (p : ℕ) → List (List ℕ) → ℕ → Read Stmt
  taken_at p xs i = do
    o ← expect_at ws k.Open i
    ys ← names_at ws n o.1
    c ← expect_at ws k.Close ys.1
    s ← expect_at ws k.Semicolon c.1
    Ok (call p xs (one o.1 (path o.1 ys.0) ∷ []), s.1)

  -- path "=" expr ";", or path "(" path ")" ";"
  unfoldable pub step_at : ℕ → Read Stmt
  step_at i = do
    xs ← names_at ws n i
    (if at_key k.Open (slice_get ws xs.1) then taken_at i xs.0 xs.1 else assign_from ws n b h i xs.0 xs.1)

  -- ---- selects

  -- NAME
  unfoldable pub one_name_at : ℕ → Read (List (List ℕ))
  one_name_at i = do
    x ← named_at ws n i
    Ok (x.0 ∷ [], x.1)

  -- NUMBER, NAME, "true" or "false"
  unfoldable pub simple_at : ℕ → Read Expr
  simple_at i =
      if at_key k.True (slice_get ws i) then Ok (flag i true, i + 1)
      else if at_key k.False (slice_get ws i) then Ok (flag i false, i + 1)
      else if is_some (name_in (slice_get ws i)) then (one_name_at i >>= λ xs. Ok (path i xs.0, xs.1))
      else (numbered_at ws n i >>= λ v. Ok (num i v.0, v.1))

  -- simple [ "&&&" simple ]
  unfoldable pub masked_at : ℕ → Read Keyset
  masked_at i = do
    e ← simple_at i
    (if at_key k.Mask (slice_get ws e.1) then (simple_at (e.1 + 1) >>= λ m. Ok (masked i e.0 m.0, m.1)) else Ok (only i e.0, e.1))

  -- "default", "_", or simple [ "&&&" simple ]
  unfoldable pub keyset_at : ℕ → Read Keyset
  keyset_at i =
      if at_key k.Default (slice_get ws i) then Ok (any i, i + 1)
      else if at_key k.LowLine (slice_get ws i) then Ok (any i, i + 1)
      else masked_at i

  -- keyset, or "(" keyset { "," keyset } ")"
  unfoldable pub keys_at : ℕ → Read (List Keyset)
  keys_at i =
      if at_key k.Open (slice_get ws i) then (list_at ws keyset_at n (i + 1) >>= λ ss. expect_at ws k.Close ss.1 >>= λ c. Ok (ss.0, c.1))
      else (keyset_at i >>= λ s. Ok (s.0 ∷ [], s.1))

  -- keys ":" NAME ";"
  unfoldable pub case_at : ℕ → Read Case
  case_at i = do
    ss ← keys_at i
    c ← expect_at ws k.Colon ss.1
    x ← named_at ws n c.1
    s ← expect_at ws k.Semicolon x.1
    Ok (record { keys = ss.0; next = x.0 }, s.1)

  -- "select" "(" expr { "," expr } ")" "{" { case } "}" behind "transition", which stands at p
  unfoldable pub select_at : (p i : ℕ) → Read Transition
  select_at p i = do
    a ← expect_at ws k.Select i
    o ← expect_at ws k.Open a.1
    es ← list_at ws (expr_at ws n h (b - 1) top) n o.1
    c ← expect_at ws k.Close es.1
    d ← expect_at ws k.BraceOpen c.1
    cs ← each_at ws closes_brace case_at n d.1
    e ← expect_at ws k.BraceClose cs.1
    Ok (select p es.0 cs.0, e.1)

  -- NAME ";" behind "transition", which stands at p
  unfoldable pub to_at : (p i : ℕ) → Read Transition
  to_at p i = do
    x ← named_at ws n i
    s ← expect_at ws k.Semicolon x.1
    Ok (to p x.0, s.1)

  -- "transition" ( NAME ";" | select )
  unfoldable pub transition_at : ℕ → Read Transition
  transition_at i = do
    a ← expect_at ws k.Transition i
    (if at_key k.Select (slice_get ws a.1) then select_at i a.1 else to_at i a.1)

  -- the same, or nothing
  unfoldable pub next_at : ℕ → Read Transition
  next_at i = if at_key k.Transition (slice_get ws i) then transition_at i else Ok (nowhere i, i)

  -- ---- states and parsers

  -- "state" NAME "{" { step } [ transition ] "}"
  unfoldable pub state_at : ℕ → Read ParserState
  state_at i = do
    a ← expect_at ws k.State i
    x ← named_at ws n a.1
    o ← expect_at ws k.BraceOpen x.1
    ss ← each_at ws ends_steps step_at n o.1
    t ← next_at ss.1
    c ← expect_at ws k.BraceClose t.1
    Ok (record { at = i; name = x.0; body = ss.0; next = t.0 }, c.1)

  -- "parser" NAME "(" param { "," param } ")" "{" { state } "}"
  unfoldable pub parser_at : ℕ → Read Parser
  parser_at i = do
    a ← expect_at ws k.Parser i
    x ← named_at ws n a.1
    o ← expect_at ws k.Open x.1
    ps ← list_at ws (param_at ws n) n o.1
    c ← expect_at ws k.Close ps.1
    d ← expect_at ws k.BraceOpen c.1
    ss ← each_at ws closes_brace state_at n d.1
    e ← expect_at ws k.BraceClose ss.1
    Ok (record { at = i; name = x.0; params = ps.0; states = ss.0 }, e.1)

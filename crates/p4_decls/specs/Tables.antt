-- Reading tables from left to right.
use Rattle.std.specs.Prelude.{ℕ, zero, suc, ◌+◌, ◌-◌, Bool, true, false, List, [], Option, Some, None, is_some, Ok, Err, if◌then◌else◌, slice_get}
use Rattle.lex_text.specs.Names.{same_text}
use Rattle.lex_words.specs.declared.key.Key.TheVariants as k
use Rattle.lex_words.specs.Seen.{Lexeme, at_key}
use Rattle.lex_words.specs.Reading.{wrong, spent, Read, ◌>>=◌, expect_at, named_at, numbered_at, this_name_at}
use Rattle.p4_tree.specs.Tree.{Expr, Table}
use Rattle.p4_spelling.specs.Words.{key_name, size_name, actions_name, default_name}
use Rattle.p4_spelling.specs.Operators.{top}
use Rattle.p4_expressions.specs.Reading.{expr_at}
use Rattle.p4_decls.specs.Repeating.{each_at, some_at}
use Rattle.p4_decls.specs.Parsing.{closes_brace}

-- the properties of a table that were read, by their kind
pub record Props : Type 0 where
  pub keys : Option (List (Expr × List ℕ))
  pub size : Option ℕ
  pub actions : Option (List (List ℕ))
  pub default : Option (List ℕ × List Expr)
  pub fixed : Bool

-- none
abbrev pub no_props : Props
no_props = record { keys = None; size = None; actions = None; default = None; fixed = false }

-- one more of each kind
abbrev pub with_keys : Props → List (Expr × List ℕ) → Props
with_keys s x = record { keys = Some x; size = s.size; actions = s.actions; default = s.default; fixed = s.fixed }

abbrev pub with_size : Props → ℕ → Props
with_size s x = record { keys = s.keys; size = Some x; actions = s.actions; default = s.default; fixed = s.fixed }

abbrev pub with_actions : Props → List (List ℕ) → Props
with_actions s x = record { keys = s.keys; size = s.size; actions = Some x; default = s.default; fixed = s.fixed }

abbrev pub with_default : Props → Bool → List ℕ × List Expr → Props
with_default s f x = record { keys = s.keys; size = s.size; actions = s.actions; default = Some x; fixed = f }

-- the items, or none
abbrev pub items_or_none : {A : Type 0} → Option (List A) → List A
items_or_none None = []
items_or_none (Some xs) = xs

-- the table with these properties
abbrev pub table_with : (p : ℕ) → List ℕ → Props → Table
table_with p x s = record { at = p; name = x; keys = items_or_none s.keys; actions = items_or_none s.actions; default = s.default; fixed = s.fixed; size = s.size }

-- h: how high an expression may be. b: how many more round brackets may be open.
module _ (ws : List Lexeme) (n b h : ℕ) where
  -- ---- what stands behind the name of a property

  -- expr ":" NAME ";"
  unfoldable pub key_at : ℕ → Read (Expr × List ℕ)
  key_at i = do
    e ← expr_at ws n h b top i
    c ← expect_at ws k.Colon e.1
    x ← named_at ws n c.1
    s ← expect_at ws k.Semicolon x.1
    Ok ((e.0, x.0), s.1)

  -- "=" "{" { key } "}"
  unfoldable pub table_keys_at : ℕ → Read (List (Expr × List ℕ))
  table_keys_at i = do
    q ← expect_at ws k.Assign i
    o ← expect_at ws k.BraceOpen q.1
    ks ← each_at ws closes_brace key_at n o.1
    c ← expect_at ws k.BraceClose ks.1
    Ok (ks.0, c.1)

  -- "=" NUMBER ";"
  unfoldable pub table_size_at : ℕ → Read ℕ
  table_size_at i = do
    q ← expect_at ws k.Assign i
    v ← numbered_at ws n q.1
    s ← expect_at ws k.Semicolon v.1
    Ok (v.0.value, s.1)

  -- [ "(" ")" ] ";" behind the name x
  unfoldable pub action_end_at : List ℕ → ℕ → Read (List ℕ)
  action_end_at x i =
      if at_key k.Open (slice_get ws i) then (expect_at ws k.Close (i + 1) >>= λ c. expect_at ws k.Semicolon c.1 >>= λ s. Ok (x, s.1))
      else (expect_at ws k.Semicolon i >>= λ s. Ok (x, s.1))

  -- NAME [ "(" ")" ] ";"
  unfoldable pub action_name_at : ℕ → Read (List ℕ)
  action_name_at i = do
    x ← named_at ws n i
    action_end_at x.0 x.1

  -- "=" "{" { NAME [ "(" ")" ] ";" } "}"
  unfoldable pub table_actions_at : ℕ → Read (List (List ℕ))
  table_actions_at i = do
    q ← expect_at ws k.Assign i
    o ← expect_at ws k.BraceOpen q.1
    xs ← each_at ws closes_brace action_name_at n o.1
    c ← expect_at ws k.BraceClose xs.1
    Ok (xs.0, c.1)

  -- [ "(" [ expr { "," expr } ] ")" ]
  unfoldable pub arguments_at : ℕ → Read (List Expr)
  arguments_at i =
      if at_key k.Open (slice_get ws i) then (some_at ws (expr_at ws n h (b - 1) top) n (i + 1) >>= λ es. expect_at ws k.Close es.1 >>= λ c. Ok (es.0, c.1))
      else Ok ([], i)

  -- "=" NAME arguments ";"
  unfoldable pub default_at : ℕ → Read (List ℕ × List Expr)
  default_at i = do
    q ← expect_at ws k.Assign i
    x ← named_at ws n q.1
    es ← arguments_at x.1
    s ← expect_at ws k.Semicolon es.1
    Ok ((x.0, es.0), s.1)

  -- ---- properties, with those that were read before; a second one of a kind is wrong where it begins

  -- "const" and the default
  unfoldable pub fixed_prop_at : Props → ℕ → Read Props
  fixed_prop_at s i =
      if is_some s.default then Err (wrong i)
      else (expect_at ws k.Const i >>= λ a. this_name_at ws n default_name a.1 >>= λ x. default_at x.1 >>= λ y. Ok (with_default s true y.0, y.1))

  -- behind a property's name, which stands at p
  unfoldable pub keys_prop_at : Props → (p i : ℕ) → Read Props
  keys_prop_at s p i = if is_some s.keys then Err (wrong p) else (table_keys_at i >>= λ y. Ok (with_keys s y.0, y.1))

  unfoldable pub size_prop_at : Props → (p i : ℕ) → Read Props
  size_prop_at s p i = if is_some s.size then Err (wrong p) else (table_size_at i >>= λ y. Ok (with_size s y.0, y.1))

  unfoldable pub actions_prop_at : Props → (p i : ℕ) → Read Props
  actions_prop_at s p i = if is_some s.actions then Err (wrong p) else (table_actions_at i >>= λ y. Ok (with_actions s y.0, y.1))

  unfoldable pub default_prop_at : Props → (p i : ℕ) → Read Props
  default_prop_at s p i = if is_some s.default then Err (wrong p) else (default_at i >>= λ y. Ok (with_default s false y.0, y.1))

  -- behind the name x, which stands at p
  unfoldable pub named_prop_at : Props → (p : ℕ) → List ℕ → ℕ → Read Props
  named_prop_at s p x i =
      if same_text x key_name then keys_prop_at s p i
      else if same_text x size_name then size_prop_at s p i
      else if same_text x actions_name then actions_prop_at s p i
      else if same_text x default_name then default_prop_at s p i
      else Err (wrong p)

  unfoldable pub prop_at : Props → ℕ → Read Props
  prop_at s i =
      if at_key k.Const (slice_get ws i) then fixed_prop_at s i
      else (named_at ws n i >>= λ x. named_prop_at s i x.0 x.1)

  -- in at most j turns
  unfoldable pub props_at : (j : ℕ) → Props → ℕ → Read Props
  props_at zero s i = Err spent
  props_at (suc j) s i = if at_key k.BraceClose (slice_get ws i) then Ok (s, i) else (prop_at s i >>= λ x. props_at j x.0 x.1)

  -- "table" NAME "{" { property } "}"
  unfoldable pub table_at : ℕ → Read Table
  table_at i = do
    a ← expect_at ws k.Table i
    x ← named_at ws n a.1
    o ← expect_at ws k.BraceOpen x.1
    s ← props_at n no_props o.1
    c ← expect_at ws k.BraceClose s.1
    Ok (table_with i x.0 s.0, c.1)

-- Reading actions, the declarations of controls, and controls from left to right.
use Rattle.std.specs.Prelude.{ℕ, zero, suc, ◌-◌, List, [], ◌∷◌, ◌++◌, Option, Some, None, is_some, Ok, Err, if◌then◌else◌, slice_get}
use Rattle.lex_text.specs.Names.{same_text}
use Rattle.lex_words.specs.declared.key.Key.TheVariants as k
use Rattle.lex_words.specs.Seen.{Lexeme, name_in, at_key}
use Rattle.lex_words.specs.Reading.{spent, Read, ◌>>=◌, expect_at, named_at}
use Rattle.p4_tree.specs.Tree.{stmts_from, Action, Local, local_action, local_table, local_register, local_const, local_var, Control}
use Rattle.p4_tree.specs.declared.statement.PTy.{PTy}
use Rattle.p4_tree.specs.declared.statement.PTy.TheVariants as type
use Rattle.p4_spelling.specs.Words.{apply_name}
use Rattle.p4_expressions.specs.Reading.{scalar_at}
use Rattle.p4_reader.specs.Reading.{body_at}
use Rattle.p4_reader.specs.Declaring.{var_from, const_at}
use Rattle.p4_decls.specs.Repeating.{list_at, some_at}
use Rattle.p4_decls.specs.Declaring.{register_at, param_at, argument_at}
use Rattle.p4_decls.specs.Tables.{table_at}

-- h: how high what stands inside a control may be. b: how many more round brackets may be open.
module _ (ws : List Lexeme) (n b h : ℕ) where
  -- "action" NAME "(" [ type NAME { "," type NAME } ] ")" block
  unfoldable pub action_at : ℕ → Read Action
  action_at i = do
    a ← expect_at ws k.Action i
    x ← named_at ws n a.1
    o ← expect_at ws k.Open x.1
    ps ← some_at ws (argument_at ws n) n o.1
    c ← expect_at ws k.Close ps.1
    ss ← body_at ws n b (h - 2) c.1
    Ok (record { at = i; name = x.0; params = ps.0; body = stmts_from ss.0 }, ss.1)

  -- the rest of a variable behind its type, which begins at p
  unfoldable pub variable_at : (p : ℕ) → PTy → ℕ → Read Local
  variable_at p t i = do
    x ← var_from ws n b h t i
    Ok (local_var p x.0.ty x.0.name x.0.start, x.1)

  -- a variable behind the name of its type, which begins at p; or nothing behind "apply"
  unfoldable pub behind_name_at : (p : ℕ) → List ℕ → ℕ → Read (Option Local)
  behind_name_at p x i = if same_text x apply_name then Ok (None, i) else (variable_at p (type.Named x) i >>= λ d. Ok (Some d.0, d.1))

  -- a variable, or nothing behind "apply"
  unfoldable pub variable_or_apply_at : ℕ → Read (Option Local)
  variable_or_apply_at i =
      if is_some (name_in (slice_get ws i)) then (named_at ws n i >>= λ x. behind_name_at i x.0 x.1)
      else (scalar_at ws n i >>= λ t. variable_at i t.0 t.1 >>= λ d. Ok (Some d.0, d.1))

  -- a declaration, or nothing behind "apply"
  unfoldable pub local_at : ℕ → Read (Option Local)
  local_at i =
      if at_key k.Action (slice_get ws i) then (action_at i >>= λ d. Ok (Some (local_action i d.0), d.1))
      else if at_key k.Table (slice_get ws i) then (table_at ws n b (h - 2) i >>= λ d. Ok (Some (local_table i d.0), d.1))
      else if at_key k.Register (slice_get ws i) then (register_at ws n i >>= λ d. Ok (Some (local_register i d.0), d.1))
      else if at_key k.Const (slice_get ws i) then (const_at ws n b h i >>= λ d. Ok (Some (local_const i d.0.ty d.0.name d.0.value), d.1))
      else variable_or_apply_at i

  -- the end behind "apply", or what goes on behind a declaration
  abbrev pub goes_on : List Local → ℕ → Option Local → (List Local → Read (List Local)) → Read (List Local)
  goes_on ds i None f = Ok (ds, i)
  goes_on ds i (Some d) f = f (ds ++ d ∷ [])

  -- the declarations up to "apply", behind those of ds, in at most j turns
  unfoldable pub locals_at : (j : ℕ) → List Local → ℕ → Read (List Local)
  locals_at zero ds i = Err spent
  locals_at (suc j) ds i = local_at i >>= λ d. goes_on ds d.1 d.0 (λ es. locals_at j es d.1)

  -- "control" NAME "(" param { "," param } ")" "{" { local } "apply" block "}"
  unfoldable pub control_at : ℕ → Read Control
  control_at i = do
    a ← expect_at ws k.Control i
    x ← named_at ws n a.1
    o ← expect_at ws k.Open x.1
    ps ← list_at ws (param_at ws n) n o.1
    c ← expect_at ws k.Close ps.1
    d ← expect_at ws k.BraceOpen c.1
    ds ← locals_at n [] d.1
    ss ← body_at ws n b h ds.1
    e ← expect_at ws k.BraceClose ss.1
    Ok (record { at = i; name = x.0; params = ps.0; locals = ds.0; apply = stmts_from ss.0 }, e.1)

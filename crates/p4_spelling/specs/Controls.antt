-- Which lexemes spell a control, with its actions and tables.
use Rattle.std.specs.Prelude.{◌≡◌, ◌≢◌, ℕ, ◌+◌, Bool, true, false, List, [], ◌∷◌, ◌++◌, length, Option, Some, None}
use Rattle.lex_text.specs.Names.{same_text}
use Rattle.lex_text.specs.declared.literal.Literal.{Literal}
use Rattle.lex_words.specs.Seen.{Lexeme, name, number, key}
use Rattle.lex_words.specs.declared.key.Key.TheVariants as k
use Rattle.p4_tree.specs.Tree.{Expr, Stmts, Action, Table, Local, local_action, local_table, local_register, local_const, local_var, Control}
use Rattle.p4_tree.specs.declared.statement.PTy.{PTy}
use Rattle.p4_tree.specs.declared.statement.PTy.TheVariants as type
use Rattle.p4_tree.specs.declared.program.Param.{Param}
use Rattle.p4_tree.specs.declared.program.Register.{Register}
use Rattle.p4_spelling.specs.Words.{apply_name, key_name, size_name, actions_name, default_name}
use Rattle.p4_spelling.specs.Operators.{top}
use Rattle.p4_spelling.specs.Lists.{SpellsList, SpellsSome, SpellsEach}
use Rattle.p4_spelling.specs.Types.{SpellsParam, SpellsArgument, SpellsRegister}
use Rattle.p4_spelling.specs.Expressions.{Spells}
use Rattle.p4_spelling.specs.Statements.{SpellsVar, SpellsConst, SpellsBlock}

-- ---- actions

-- an action: its parameters and its block
pub data SpellsAction : (p : ℕ) → Action → List Lexeme → Type 0 where
  an_action : {p : ℕ} {ps : List (PTy × List ℕ)} {ss : Stmts} {u v : List Lexeme} (x : List ℕ) → SpellsSome SpellsArgument (p + 1 + 1 + 1) ps u
      → SpellsBlock (p + 1 + 1 + 1 + length u + 1) ss v
      → SpellsAction p (record { at = p; name = x; params = ps; body = ss }) (key k.Action ∷ name x ∷ key k.Open ∷ (u ++ key k.Close ∷ v))

-- ---- tables

-- a property of a table
pub data TableProp : Type 0 where
  keys : List (Expr × List ℕ) → TableProp
  size : ℕ → TableProp
  actions : List (List ℕ) → TableProp
  default : (fixed : Bool) → List ℕ × List Expr → TableProp

-- a key and the name of its kind
pub data SpellsKey : (p : ℕ) → Expr × List ℕ → List Lexeme → Type 0 where
  a_key : {p : ℕ} {e : Expr} {u : List Lexeme} (x : List ℕ) → Spells top p e u → SpellsKey p (e, x) (u ++ key k.Colon ∷ name x ∷ key k.Semicolon ∷ [])

-- the name of an action, perhaps with brackets
pub data SpellsActionName : (p : ℕ) → List ℕ → List Lexeme → Type 0 where
  a_name : {p : ℕ} (x : List ℕ) → SpellsActionName p x (name x ∷ key k.Semicolon ∷ [])
  with_brackets : {p : ℕ} (x : List ℕ) → SpellsActionName p x (name x ∷ key k.Open ∷ key k.Close ∷ key k.Semicolon ∷ [])

-- the arguments of a default action, perhaps without brackets
pub data SpellsArguments : (p : ℕ) → List Expr → List Lexeme → Type 0 where
  no_brackets : {p : ℕ} → SpellsArguments p [] []
  in_brackets : {p : ℕ} {es : List Expr} {u : List Lexeme} → SpellsSome (Spells top) (p + 1) es u → SpellsArguments p es (key k.Open ∷ (u ++ key k.Close ∷ []))

-- whether `const` stands there
pub data SpellsFixed : Bool → List Lexeme → Type 0 where
  fixed : SpellsFixed true (key k.Const ∷ [])
  free : SpellsFixed false []

-- a property of a table, with the name that begins it
pub data SpellsTableProp : (p : ℕ) → TableProp → List Lexeme → Type 0 where
  the_keys : {p : ℕ} {es : List (Expr × List ℕ)} {u : List Lexeme} → SpellsEach SpellsKey (p + 1 + 1 + 1) es u
      → SpellsTableProp p (keys es) (name key_name ∷ key k.Assign ∷ key k.BraceOpen ∷ (u ++ key k.BraceClose ∷ []))
  -- any number
  the_size : {p : ℕ} (n : Literal) → SpellsTableProp p (size n.value) (name size_name ∷ key k.Assign ∷ number n ∷ key k.Semicolon ∷ [])
  the_actions : {p : ℕ} {xs : List (List ℕ)} {u : List Lexeme} → SpellsEach SpellsActionName (p + 1 + 1 + 1) xs u
      → SpellsTableProp p (actions xs) (name actions_name ∷ key k.Assign ∷ key k.BraceOpen ∷ (u ++ key k.BraceClose ∷ []))
  the_default : {p : ℕ} {f : Bool} {es : List Expr} {u v : List Lexeme} (x : List ℕ) → SpellsFixed f u → SpellsArguments (p + length u + 1 + 1 + 1) es v
      → SpellsTableProp p (default f (x, es)) (u ++ name default_name ∷ key k.Assign ∷ name x ∷ (v ++ key k.Semicolon ∷ []))

-- the kind of a property
abbrev pub kind_of : TableProp → ℕ
kind_of (keys es) = 0
kind_of (size n) = 1
kind_of (actions xs) = 2
kind_of (default f d) = 3

-- no property is of this kind
abbrev pub Lacks : ℕ → List TableProp → Type 0
Lacks kind [] = Unit {0}
Lacks kind (a ∷ ps) = (kind_of a ≢ kind) × Lacks kind ps

-- no two properties are of one kind
abbrev pub AreOnce : List TableProp → Type 0
AreOnce [] = Unit {0}
AreOnce (a ∷ ps) = Lacks (kind_of a) ps × AreOnce ps

-- what the properties say; where none says it, nothing
abbrev pub keys_in : List TableProp → List (Expr × List ℕ)
keys_in [] = []
keys_in (keys es ∷ ps) = es
keys_in (a ∷ ps) = keys_in ps

abbrev pub actions_in : List TableProp → List (List ℕ)
actions_in [] = []
actions_in (actions xs ∷ ps) = xs
actions_in (a ∷ ps) = actions_in ps

abbrev pub default_in : List TableProp → Option (List ℕ × List Expr)
default_in [] = None
default_in (default f d ∷ ps) = Some d
default_in (a ∷ ps) = default_in ps

abbrev pub fixed_in : List TableProp → Bool
fixed_in [] = false
fixed_in (default f d ∷ ps) = f
fixed_in (a ∷ ps) = fixed_in ps

abbrev pub size_in : List TableProp → Option ℕ
size_in [] = None
size_in (size n ∷ ps) = Some n
size_in (a ∷ ps) = size_in ps

-- the table with these properties
abbrev pub table_of : (p : ℕ) → List ℕ → List TableProp → Table
table_of p x ps = record { at = p; name = x; keys = keys_in ps; actions = actions_in ps; default = default_in ps; fixed = fixed_in ps; size = size_in ps }

-- a table; its properties stand in any order, each kind at most once
pub data SpellsTable : (p : ℕ) → Table → List Lexeme → Type 0 where
  a_table : {p : ℕ} {ps : List TableProp} {u : List Lexeme} (x : List ℕ) → SpellsEach SpellsTableProp (p + 1 + 1 + 1) ps u → AreOnce ps
      → SpellsTable p (table_of p x ps) (key k.Table ∷ name x ∷ key k.BraceOpen ∷ (u ++ key k.BraceClose ∷ []))

-- ---- controls

-- the type is a name that begins the statements of a control
abbrev pub is_apply : PTy → Bool
is_apply (type.Bit w) = false
is_apply type.Bool = false
is_apply (type.Named x) = same_text x apply_name

-- a declaration inside a control; none begins with `apply`, which begins the statements there
pub data SpellsLocal : (p : ℕ) → Local → List Lexeme → Type 0 where
  an_action : {p : ℕ} {d : Action} {u : List Lexeme} → SpellsAction p d u → SpellsLocal p (local_action p d) u
  a_table : {p : ℕ} {d : Table} {u : List Lexeme} → SpellsTable p d u → SpellsLocal p (local_table p d) u
  a_register : {p : ℕ} {d : Register} {u : List Lexeme} → SpellsRegister p d u → SpellsLocal p (local_register p d) u
  a_const : {p : ℕ} {t : PTy} {x : List ℕ} {e : Expr} {u : List Lexeme} → SpellsConst p t x e u → SpellsLocal p (local_const p t x e) u
  a_var : {p : ℕ} {t : PTy} {x : List ℕ} {e : Option Expr} {u : List Lexeme} → is_apply t ≡ false → SpellsVar p t x e u → SpellsLocal p (local_var p t x e) u

-- a control: its parameters, its declarations, and the block behind `apply`
pub data SpellsControl : (p : ℕ) → Control → List Lexeme → Type 0 where
  a_control : {p : ℕ} {ps : List Param} {ds : List Local} {ss : Stmts} {u v w : List Lexeme} (x : List ℕ) → SpellsList SpellsParam (p + 1 + 1 + 1) ps u
      → SpellsEach SpellsLocal (p + 1 + 1 + 1 + length u + 1 + 1) ds v → SpellsBlock (p + 1 + 1 + 1 + length u + 1 + 1 + length v + 1) ss w
      → SpellsControl p (record { at = p; name = x; params = ps; locals = ds; apply = ss })
      (key k.Control ∷ name x ∷ key k.Open ∷ (u ++ key k.Close ∷ key k.BraceOpen ∷ (v ++ name apply_name ∷ (w ++ key k.BraceClose ∷ []))))

-- Which lexemes spell a declaration. Types, keys and paths have no places.
use Rattle.std.specs.Prelude.{ℕ, ◌+◌, Bool, true, false, List, [], ◌∷◌, ◌++◌, length, Option, Some, None}
use Rattle.lex_text.specs.declared.literal.Literal.{Literal}
use Rattle.lex_words.specs.Seen.{Lexeme, name, number, key}
use Rattle.lex_words.specs.declared.key.Key.TheVariants as k
use Rattle.indus_tree.specs.Tree.{Shape, one, list, set, dict, Expr, num, flag, Decl}
use Rattle.indus_tree.specs.declared.tree.DeclKind.{DeclKind}
use Rattle.indus_tree.specs.declared.tree.DeclKind.TheVariants as kind
use Rattle.indus_tree.specs.declared.tree.Ty.{Ty}
use Rattle.indus_tree.specs.declared.tree.Ty.TheVariants as ty
use Rattle.indus_spelling.specs.Operators.{IsSize}

-- ---- types and keys

-- `bool`, or `bit` with a width
pub data SpellsType : Ty → List Lexeme → Type 0 where
  a_bool : SpellsType ty.Bool (key k.Bool ∷ [])
  a_bit : (n : Literal) → IsSize n → SpellsType (ty.Bit n.value) (key k.Bit ∷ key k.Less ∷ number n ∷ key k.More ∷ [])

-- one type or more, with commas between them
pub data SpellsTypes : List Ty → List Lexeme → Type 0 where
  last_type : {t : Ty} {u : List Lexeme} → SpellsType t u → SpellsTypes (t ∷ []) u
  then_types : {t : Ty} {ts : List Ty} {u v : List Lexeme} → SpellsType t u → SpellsTypes ts v → SpellsTypes (t ∷ ts) (u ++ key k.Comma ∷ v)

-- a key: one type, or several in brackets
pub data SpellsKey : List Ty → List Lexeme → Type 0 where
  one_part : {t : Ty} {u : List Lexeme} → SpellsType t u → SpellsKey (t ∷ []) u
  parts : {s t : Ty} {ts : List Ty} {u : List Lexeme} → SpellsTypes (s ∷ t ∷ ts) u → SpellsKey (s ∷ t ∷ ts) (key k.Open ∷ (u ++ key k.Close ∷ []))

-- a type and the `>` behind it; the mark `>>` closes the type's own `<` too
pub data SpellsClosed : Ty → List Lexeme → Type 0 where
  closed : {t : Ty} {u : List Lexeme} → SpellsType t u → SpellsClosed t (u ++ key k.More ∷ [])
  both_closed : (n : Literal) → IsSize n → SpellsClosed (ty.Bit n.value) (key k.Bit ∷ key k.Less ∷ number n ∷ key k.ShiftRight ∷ [])

-- ---- what a variable holds

-- of a tele or sensor variable: a type, perhaps with a size
pub data SpellsSized : Shape → List Lexeme → Type 0 where
  no_size : {t : Ty} {u : List Lexeme} → SpellsType t u → SpellsSized (one t) u
  a_size : {t : Ty} {u : List Lexeme} (n : Literal) → SpellsType t u → IsSize n → SpellsSized (list t n.value) (u ++ key k.SquareOpen ∷ number n ∷ key k.SquareClose ∷ [])

-- of a control variable
pub data SpellsHeld : Shape → List Lexeme → Type 0 where
  a_scalar : {t : Ty} {u : List Lexeme} → SpellsType t u → SpellsHeld (one t) u
  a_set : {t : Ty} {u : List Lexeme} → SpellsClosed t u → SpellsHeld (set (t ∷ [])) (key k.Set ∷ key k.Less ∷ u)
  a_set_of_parts : {s t : Ty} {ts : List Ty} {u : List Lexeme} → SpellsTypes (s ∷ t ∷ ts) u
      → SpellsHeld (set (s ∷ t ∷ ts)) (key k.Set ∷ key k.Less ∷ key k.Open ∷ (u ++ key k.Close ∷ key k.More ∷ []))
  a_dict : {ks : List Ty} {t : Ty} {u v : List Lexeme} → SpellsKey ks u → SpellsClosed t v → SpellsHeld (dict ks t) (key k.Dict ∷ key k.Less ∷ (u ++ key k.Comma ∷ v))

-- ---- initial values and paths

-- a number or a truth value
pub data SpellsValue : (p : ℕ) → Expr → List Lexeme → Type 0 where
  a_number : {p : ℕ} (n : Literal) → SpellsValue p (num p n) (number n ∷ [])
  a_true : {p : ℕ} → SpellsValue p (flag p true) (key k.True ∷ [])
  a_false : {p : ℕ} → SpellsValue p (flag p false) (key k.False ∷ [])

-- `=` and a value, or nothing
pub data SpellsStart : (p : ℕ) → Option Expr → List Lexeme → Type 0 where
  no_start : {p : ℕ} → SpellsStart p None []
  a_start : {p : ℕ} {e : Expr} {u : List Lexeme} → SpellsValue (p + 1) e u → SpellsStart p (Some e) (key k.Assign ∷ u)

-- the path of a header variable, and whether it asks if the header is valid
pub data SpellsPath : List (List ℕ) → Bool → List Lexeme → Type 0 where
  two_names : (a b : List ℕ) → SpellsPath (a ∷ b ∷ []) false (name a ∷ key k.Dot ∷ name b ∷ [])
  three_names : (a b c : List ℕ) → SpellsPath (a ∷ b ∷ c ∷ []) false (name a ∷ key k.Dot ∷ name b ∷ key k.Dot ∷ name c ∷ [])
  a_call : (a b c : List ℕ) → SpellsPath (a ∷ b ∷ c ∷ []) true (name a ∷ key k.Dot ∷ name b ∷ key k.Dot ∷ name c ∷ key k.Open ∷ key k.Close ∷ [])

-- ---- declarations

-- a declaration that begins at lexeme p
abbrev pub decl : (p : ℕ) → DeclKind → List ℕ → Shape → Option Expr → List (List ℕ) → Bool → Decl
decl p k x s e path valid = record { at = p; kind = k; name = x; shape = s; start = e; path = path; valid = valid }

pub data SpellsDecl : (p : ℕ) → Decl → List Lexeme → Type 0 where
  a_tele : {p : ℕ} (x : List ℕ) {s : Shape} {u : List Lexeme} → SpellsSized s u → SpellsDecl p (decl p kind.Tele x s None [] false) (key k.Tele ∷ (u ++ name x ∷ key k.Semicolon ∷ []))
  a_sensor : {p : ℕ} (x : List ℕ) {s : Shape} {e : Option Expr} {u v : List Lexeme} → SpellsSized s u → SpellsStart (p + 1 + length u + 1) e v
      → SpellsDecl p (decl p kind.Sensor x s e [] false) (key k.Sensor ∷ (u ++ name x ∷ (v ++ key k.Semicolon ∷ [])))
  a_header : {p : ℕ} (x : List ℕ) {t : Ty} {path : List (List ℕ)} {valid : Bool} {u v : List Lexeme} → SpellsType t u → SpellsPath path valid v
      → SpellsDecl p (decl p kind.Header x (one t) None path valid) (key k.Header ∷ (u ++ name x ∷ key k.Assign ∷ (v ++ key k.Semicolon ∷ [])))
  a_control : {p : ℕ} (x : List ℕ) {s : Shape} {u : List Lexeme} → SpellsHeld s u → SpellsDecl p (decl p kind.Control x s None [] false) (key k.Control ∷ (u ++ name x ∷ key k.Semicolon ∷ []))

-- declarations one behind the other
pub data SpellsDecls : (p : ℕ) → List Decl → List Lexeme → Type 0 where
  no_decl : {p : ℕ} → SpellsDecls p [] []
  a_decl : {p : ℕ} {d : Decl} {ds : List Decl} {u v : List Lexeme} → SpellsDecl p d u → SpellsDecls (p + length u) ds v → SpellsDecls p (d ∷ ds) (u ++ v)

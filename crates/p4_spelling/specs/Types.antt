-- Which lexemes spell a type, and what is declared with a type alone. Types have no places. A number's written width has no effect.
use Rattle.std.specs.Prelude.{ℕ, ◌≤◌, List, [], ◌∷◌, ◌++◌}
use Rattle.lex_text.specs.declared.literal.Literal.{Literal}
use Rattle.lex_words.specs.Seen.{Lexeme, name, number, key}
use Rattle.lex_words.specs.declared.key.Key.TheVariants as k
use Rattle.p4_tree.specs.declared.statement.PTy.{PTy}
use Rattle.p4_tree.specs.declared.statement.PTy.TheVariants as type
use Rattle.p4_tree.specs.declared.program.Way.{Way}
use Rattle.p4_tree.specs.declared.program.Way.TheVariants as way
use Rattle.p4_tree.specs.declared.program.Param.{Param}
use Rattle.p4_tree.specs.declared.program.Register.{Register}

-- a type of numbers or of truth values; `bit` alone is `bit<1>`, and a width is at most 255
pub data SpellsScalar : PTy → List Lexeme → Type 0 where
  a_bool : SpellsScalar type.Bool (key k.Bool ∷ [])
  a_bit : SpellsScalar (type.Bit 1) (key k.Bit ∷ [])
  bits : (n : Literal) → n.value ≤ 255 → SpellsScalar (type.Bit n.value) (key k.Bit ∷ key k.Less ∷ number n ∷ key k.More ∷ [])

-- a type
pub data SpellsType : PTy → List Lexeme → Type 0 where
  a_scalar : {t : PTy} {u : List Lexeme} → SpellsScalar t u → SpellsType t u
  a_name : (x : List ℕ) → SpellsType (type.Named x) (name x ∷ [])

-- a type and the `>` behind it; the mark `>>` closes the type's own `<` too
pub data SpellsClosed : PTy → List Lexeme → Type 0 where
  closed : {t : PTy} {u : List Lexeme} → SpellsType t u → SpellsClosed t (u ++ key k.More ∷ [])
  both_closed : (n : Literal) → n.value ≤ 255 → SpellsClosed (type.Bit n.value) (key k.Bit ∷ key k.Less ∷ number n ∷ key k.ShiftRight ∷ [])

-- a register; it may have any number of cells
pub data SpellsRegister : (p : ℕ) → Register → List Lexeme → Type 0 where
  a_register : {p : ℕ} {t : PTy} {u : List Lexeme} (n : Literal) (x : List ℕ) → SpellsClosed t u
      → SpellsRegister p (record { at = p; ty = t; count = n.value; name = x }) (key k.Register ∷ key k.Less ∷ (u ++ key k.Open ∷ number n ∷ key k.Close ∷ name x ∷ key k.Semicolon ∷ []))

-- how a parameter passes its value
pub data SpellsWay : Way → List Lexeme → Type 0 where
  plain : SpellsWay way.Plain []
  into : SpellsWay way.Into (key k.In ∷ [])
  out : SpellsWay way.Out (key k.Out ∷ [])
  both : SpellsWay way.Both (key k.Inout ∷ [])

-- a parameter of a parser or a control
pub data SpellsParam : (p : ℕ) → Param → List Lexeme → Type 0 where
  a_param : {p : ℕ} {w : Way} {t : PTy} {u v : List Lexeme} (x : List ℕ) → SpellsWay w u → SpellsType t v
      → SpellsParam p (record { at = p; way = w; ty = t; name = x }) (u ++ (v ++ name x ∷ []))

-- a parameter of an action: its type and its name
pub data SpellsArgument : (p : ℕ) → PTy × List ℕ → List Lexeme → Type 0 where
  an_argument : {p : ℕ} {t : PTy} {u : List Lexeme} (x : List ℕ) → SpellsType t u → SpellsArgument p (t, x) (u ++ name x ∷ [])

-- a field of a header or a struct
pub data SpellsField : (p : ℕ) → PTy × List ℕ → List Lexeme → Type 0 where
  a_field : {p : ℕ} {t : PTy} {u : List Lexeme} (x : List ℕ) → SpellsType t u → SpellsField p (t, x) (u ++ name x ∷ key k.Semicolon ∷ [])

-- Which lexemes spell a program.
use Rattle.std.specs.Prelude.{ℕ, List, [], ◌∷◌, ◌++◌, length, ◌+◌}
use Rattle.lex_words.specs.Seen.{Lexeme, name, key, include}
use Rattle.lex_words.specs.declared.key.Key.TheVariants as k
use Rattle.p4_tree.specs.Tree.{Expr, Parser, Control, Top, constant, typedef, header_type, struct_type, register, parser, control, Program}
use Rattle.p4_tree.specs.declared.statement.PTy.{PTy}
use Rattle.p4_tree.specs.declared.program.Register.{Register}
use Rattle.p4_spelling.specs.Words.{main_name}
use Rattle.p4_spelling.specs.Lists.{SpellsList, SpellsEach}
use Rattle.p4_spelling.specs.Types.{SpellsType, SpellsField, SpellsRegister}
use Rattle.p4_spelling.specs.Statements.{SpellsConst}
use Rattle.p4_spelling.specs.Parsers.{SpellsParser}
use Rattle.p4_spelling.specs.Controls.{SpellsControl}

-- a declaration at top level
pub data SpellsTop : (p : ℕ) → Top → List Lexeme → Type 0 where
  a_const : {p : ℕ} {t : PTy} {x : List ℕ} {e : Expr} {u : List Lexeme} → SpellsConst p t x e u → SpellsTop p (constant p t x e) u
  a_typedef : {p : ℕ} {t : PTy} {u : List Lexeme} (x : List ℕ) → SpellsType t u → SpellsTop p (typedef p t x) (key k.Typedef ∷ (u ++ name x ∷ key k.Semicolon ∷ []))
  a_register : {p : ℕ} {d : Register} {u : List Lexeme} → SpellsRegister p d u → SpellsTop p (register p d) u
  a_parser : {p : ℕ} {d : Parser} {u : List Lexeme} → SpellsParser p d u → SpellsTop p (parser p d) u
  a_control : {p : ℕ} {d : Control} {u : List Lexeme} → SpellsControl p d u → SpellsTop p (control p d) u
  a_header : {p : ℕ} {fs : List (PTy × List ℕ)} {u : List Lexeme} (x : List ℕ) → SpellsEach SpellsField (p + 1 + 1 + 1) fs u
      → SpellsTop p (header_type p x fs) (key k.Header ∷ name x ∷ key k.BraceOpen ∷ (u ++ key k.BraceClose ∷ []))
  a_struct : {p : ℕ} {fs : List (PTy × List ℕ)} {u : List Lexeme} (x : List ℕ) → SpellsEach SpellsField (p + 1 + 1 + 1) fs u
      → SpellsTop p (struct_type p x fs) (key k.Struct ∷ name x ∷ key k.BraceOpen ∷ (u ++ key k.BraceClose ∷ []))

-- inclusions, which are no part of the tree
pub data SpellsIncludes : List Lexeme → Type 0 where
  no_include : SpellsIncludes []
  an_include : (s : List ℕ) {u : List Lexeme} → SpellsIncludes u → SpellsIncludes (include s ∷ u)

-- a parser or control that `main` names
pub data SpellsPart : (p : ℕ) → List ℕ → List Lexeme → Type 0 where
  a_part : {p : ℕ} (x : List ℕ) → SpellsPart p x (name x ∷ key k.Open ∷ key k.Close ∷ [])

-- The lexemes spell the program: inclusions, declarations, and `main`.
pub data SpellsProgram : Program → List Lexeme → Type 0 where
  a_program : {ts : List Top} {xs : List (List ℕ)} {s u v : List Lexeme} → SpellsIncludes s → SpellsEach SpellsTop (length s) ts u → SpellsList SpellsPart (length s + length u + 1 + 1) xs v
      → SpellsProgram (record { at = 0; tops = ts; main = xs })
      (s ++ (u ++ key k.V1Switch ∷ key k.Open ∷ (v ++ key k.Close ∷ name main_name ∷ key k.Semicolon ∷ [])))

-- Small texts as lexemes, and the trees that they spell.
use Rattle.std.specs.Prelude.{ℕ, true, false, List, [], ◌∷◌, Some, codes}
use Rattle.lex_text.specs.declared.literal.Literal.{Literal}
use Rattle.lex_words.specs.Seen.{Lexeme, name, number, key}
use Rattle.lex_words.specs.declared.key.Key.TheVariants as k
use Rattle.p4_tree.specs.Tree.{Expr, num, path, valid, applied, negation, opposite, binary, conditional, slice, cast, Stmt, nothing, choice, without, otherwise, Table}
use Rattle.p4_tree.specs.declared.statement.Op.TheVariants as op
use Rattle.p4_tree.specs.declared.statement.PTy.TheVariants as type
use Rattle.p4_tree.specs.declared.program.Register.{Register}

abbrev pub a_name : List ℕ
a_name = codes "a"

abbrev pub b_name : List ℕ
b_name = codes "b"

abbrev pub c_name : List ℕ
c_name = codes "c"

-- a number without a written width
abbrev pub bare : ℕ → Literal
bare n = record { width = 0; value = n }

-- a name alone
abbrev pub named : (p : ℕ) → List ℕ → Expr
named p x = path p (x ∷ [])

-- `(bit<8>) a + 1`
abbrev pub cast_lexemes : List Lexeme
cast_lexemes = key k.Open ∷ key k.Bit ∷ key k.Less ∷ number (bare 8) ∷ key k.More ∷ key k.Close ∷ name a_name ∷ key k.Plus ∷ number (bare 1) ∷ []

abbrev pub cast_tree : Expr
cast_tree = binary 0 op.Add (cast 0 (type.Bit 8) (named 6 a_name)) (num 8 (bare 1))

-- `a ? b : b ? c : a`
abbrev pub conditional_lexemes : List Lexeme
conditional_lexemes = name a_name ∷ key k.Question ∷ name b_name ∷ key k.Colon ∷ name b_name ∷ key k.Question ∷ name c_name ∷ key k.Colon ∷ name a_name ∷ []

abbrev pub conditional_tree : Expr
conditional_tree = conditional 0 (named 0 a_name) (named 2 b_name) (conditional 4 (named 4 b_name) (named 6 c_name) (named 8 a_name))

-- `a + b ++ c`
abbrev pub concat_lexemes : List Lexeme
concat_lexemes = name a_name ∷ key k.Plus ∷ name b_name ∷ key k.Concat ∷ name c_name ∷ []

abbrev pub concat_tree : Expr
concat_tree = binary 0 op.Concat (binary 0 op.Add (named 0 a_name) (named 2 b_name)) (named 4 c_name)

-- `-a[7:8w4]`
abbrev pub slice_lexemes : List Lexeme
slice_lexemes = key k.Minus ∷ name a_name ∷ key k.SquareOpen ∷ number (bare 7) ∷ key k.Colon ∷ number (record { width = 8; value = 4 }) ∷ key k.SquareClose ∷ []

abbrev pub slice_tree : Expr
slice_tree = opposite 0 (slice 1 (named 1 a_name) 7 4)

-- `a.b.isValid()`
abbrev pub valid_lexemes : List Lexeme
valid_lexemes = name a_name ∷ key k.Dot ∷ name b_name ∷ key k.Dot ∷ name (codes "isValid") ∷ key k.Open ∷ key k.Close ∷ []

abbrev pub valid_tree : Expr
valid_tree = valid 0 (a_name ∷ b_name ∷ [])

-- `!a.apply().miss`
abbrev pub applied_lexemes : List Lexeme
applied_lexemes = key k.Not ∷ name a_name ∷ key k.Dot ∷ name (codes "apply") ∷ key k.Open ∷ key k.Close ∷ key k.Dot ∷ name (codes "miss") ∷ []

abbrev pub applied_tree : Expr
applied_tree = negation 0 (applied 1 a_name false)

-- `if (a) if (b) ; else ;`
abbrev pub else_lexemes : List Lexeme
else_lexemes = key k.If ∷ key k.Open ∷ name a_name ∷ key k.Close ∷ key k.If ∷ key k.Open ∷ name b_name ∷ key k.Close ∷ key k.Semicolon ∷ key k.Else ∷ key k.Semicolon ∷ []

-- the `else` belongs to the inner `if`
abbrev pub else_tree : Stmt
else_tree = choice 0 (named 2 a_name) (choice 4 (named 6 b_name) (nothing 8) (otherwise (nothing 10))) without

-- `register<bit<8>>(300) a;`
abbrev pub register_lexemes : List Lexeme
register_lexemes = key k.Register ∷ key k.Less ∷ key k.Bit ∷ key k.Less ∷ number (bare 8) ∷ key k.ShiftRight ∷ key k.Open ∷ number (bare 300) ∷ key k.Close ∷ name a_name ∷ key k.Semicolon ∷ []

abbrev pub register_tree : Register
register_tree = record { at = 0; ty = type.Bit 8; count = 300; name = a_name }

-- `table a { const default_action = b; key = { c : exact; } size = 8; }`
abbrev pub table_lexemes : List Lexeme
table_lexemes =
    key k.Table ∷ name a_name ∷ key k.BraceOpen
    ∷ key k.Const ∷ name (codes "default_action") ∷ key k.Assign ∷ name b_name ∷ key k.Semicolon
    ∷ name (codes "key") ∷ key k.Assign ∷ key k.BraceOpen ∷ name c_name ∷ key k.Colon ∷ name (codes "exact") ∷ key k.Semicolon ∷ key k.BraceClose
    ∷ name (codes "size") ∷ key k.Assign ∷ number (bare 8) ∷ key k.Semicolon ∷ key k.BraceClose ∷ []

abbrev pub table_tree : Table
table_tree = record { at = 0; name = a_name; keys = (named 11 c_name, codes "exact") ∷ []; actions = []; default = Some (b_name, []); fixed = true; size = Some 8 }

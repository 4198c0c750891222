-- The lexemes of types, paths and expressions, each operator's expression in round brackets but for a slice.
use Rattle.std.specs.Prelude.{ℕ, List, [], ◌∷◌, ◌++◌, map, Bool, true, false}
use Rattle.lex_words.specs.Seen.{Lexeme, name, number, key}
use Rattle.lex_words.specs.declared.key.Key.{Key}
use Rattle.lex_words.specs.declared.key.Key.TheVariants as k
use Rattle.p4_tree.specs.Tree.{Expr, num, flag, path, valid, applied, error_name, negation, inversion, opposite, binary, conditional, slice, cast, Arg, one, many}
use Rattle.p4_tree.specs.declared.statement.Op.{Op}
use Rattle.p4_tree.specs.declared.statement.Op.TheVariants as op
use Rattle.p4_tree.specs.declared.statement.PTy.{PTy}
use Rattle.p4_tree.specs.declared.statement.PTy.TheVariants as type
use Rattle.p4_spelling.specs.Words.{valid_name, apply_name, outcome_name}
use Rattle.p4_printer.specs.Layout.{bare, separated, bracketed, braced}

-- the mark of a binary operator
abbrev pub key_of_op : Op → Key
key_of_op op.Mul = k.Times
key_of_op op.Add = k.Plus
key_of_op op.Sub = k.Minus
key_of_op op.Concat = k.Concat
key_of_op op.Shl = k.ShiftLeft
key_of_op op.Shr = k.ShiftRight
key_of_op op.BitAnd = k.And
key_of_op op.BitXor = k.Caret
key_of_op op.BitOr = k.Or
key_of_op op.Less = k.Less
key_of_op op.LessEq = k.LessEq
key_of_op op.More = k.More
key_of_op op.MoreEq = k.MoreEq
key_of_op op.Equal = k.Equal
key_of_op op.Differ = k.Differ
key_of_op op.Both = k.Both
key_of_op op.Either = k.Either

-- the key of a truth value
abbrev pub key_of_flag : Bool → Key
key_of_flag true = k.True
key_of_flag false = k.False

-- the lexemes of a type
abbrev pub lexemes_of_type : PTy → List Lexeme
lexemes_of_type (type.Bit w) = key k.Bit ∷ key k.Less ∷ number (bare w) ∷ key k.More ∷ []
lexemes_of_type type.Bool = key k.Bool ∷ []
lexemes_of_type (type.Named x) = name x ∷ []

-- a name as a list of lexemes: the one lexeme
abbrev pub lexemes_of_name : List ℕ → List Lexeme
lexemes_of_name x = name x ∷ []

-- the lexemes of a path
abbrev pub lexemes_of_path : List (List ℕ) → List Lexeme
lexemes_of_path names = separated (key k.Dot) (map lexemes_of_name names)

-- the lexemes of a header's test
abbrev pub lexemes_of_valid : List (List ℕ) → List Lexeme
lexemes_of_valid header = lexemes_of_path header ++ key k.Dot ∷ name valid_name ∷ key k.Open ∷ key k.Close ∷ []

-- the lexemes of a table's application
abbrev pub lexemes_of_applied : List ℕ → (hit : Bool) → List Lexeme
lexemes_of_applied x hit = name x ∷ key k.Dot ∷ name apply_name ∷ key k.Open ∷ key k.Close ∷ key k.Dot ∷ name (outcome_name hit) ∷ []

-- the lexemes of an error's name
abbrev pub lexemes_of_error : List ℕ → List Lexeme
lexemes_of_error x = key k.Error ∷ key k.Dot ∷ name x ∷ []

-- the lexemes of a slice's bounds
abbrev pub lexemes_of_bounds : (high low : ℕ) → List Lexeme
lexemes_of_bounds high low = key k.SquareOpen ∷ number (bare high) ∷ key k.Colon ∷ number (bare low) ∷ key k.SquareClose ∷ []

-- the lexemes of an expression
abbrev pub lexemes_of_expr : Expr → List Lexeme
lexemes_of_expr (num p n) = number n ∷ []
lexemes_of_expr (flag p b) = key (key_of_flag b) ∷ []
lexemes_of_expr (path p names) = lexemes_of_path names
lexemes_of_expr (valid p header) = lexemes_of_valid header
lexemes_of_expr (applied p x hit) = lexemes_of_applied x hit
lexemes_of_expr (error_name p x) = lexemes_of_error x
lexemes_of_expr (negation p a) = bracketed (key k.Not ∷ lexemes_of_expr a)
lexemes_of_expr (inversion p a) = bracketed (key k.Tilde ∷ lexemes_of_expr a)
lexemes_of_expr (opposite p a) = bracketed (key k.Minus ∷ lexemes_of_expr a)
lexemes_of_expr (binary p o a b) = bracketed (lexemes_of_expr a ++ key (key_of_op o) ∷ lexemes_of_expr b)
lexemes_of_expr (conditional p t a b) = bracketed (lexemes_of_expr t ++ key k.Question ∷ (lexemes_of_expr a ++ key k.Colon ∷ lexemes_of_expr b))
lexemes_of_expr (slice p a high low) = lexemes_of_expr a ++ lexemes_of_bounds high low
lexemes_of_expr (cast p ty a) = bracketed (key k.Open ∷ (lexemes_of_type ty ++ key k.Close ∷ lexemes_of_expr a))

-- the lexemes of expressions with commas between
abbrev pub lexemes_of_exprs : List Expr → List Lexeme
lexemes_of_exprs es = separated (key k.Comma) (map lexemes_of_expr es)

-- the lexemes of an argument
abbrev pub lexemes_of_arg : Arg → List Lexeme
lexemes_of_arg (one p e) = lexemes_of_expr e
lexemes_of_arg (many p es) = braced (lexemes_of_exprs es)

-- the lexemes of arguments with commas between
abbrev pub lexemes_of_args : List Arg → List Lexeme
lexemes_of_args args = separated (key k.Comma) (map lexemes_of_arg args)

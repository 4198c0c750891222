-- Which lexemes spell an expression: one case for each production, on whole lists of lexemes.
use Rattle.std.specs.Prelude.{◌≡◌, ℕ, suc, ◌+◌, ◌≤◌, Bool, true, false, List, [], ◌∷◌, ◌++◌, length, Some}
use Rattle.lex_text.specs.declared.literal.Literal.{Literal}
use Rattle.lex_words.specs.Seen.{Lexeme, name, number, key}
use Rattle.lex_words.specs.declared.key.Key.{Key}
use Rattle.lex_words.specs.declared.key.Key.TheVariants.{True, False, Error, Not, Tilde, Minus, Question, Colon, Dot, Open, Close, SquareOpen, SquareClose}
use Rattle.p4_tree.specs.Tree.{Expr, num, flag, path, valid, applied, error_name, negation, inversion, opposite, binary, conditional, slice, cast}
use Rattle.p4_tree.specs.declared.statement.Op.{Op}
use Rattle.p4_tree.specs.declared.statement.PTy.{PTy}
use Rattle.p4_spelling.specs.Words.{valid_name, apply_name, outcome_name}
use Rattle.p4_spelling.specs.Operators.{top, op_at}
use Rattle.p4_spelling.specs.Types.{SpellsScalar}

-- a name, or several with points between them
pub data SpellsPath : List (List ℕ) → List Lexeme → Type 0 where
  last_name : (x : List ℕ) → SpellsPath (x ∷ []) (name x ∷ [])
  then_names : (x : List ℕ) {xs : List (List ℕ)} {u : List Lexeme} → SpellsPath xs u → SpellsPath (x ∷ xs) (name x ∷ key Dot ∷ u)

mutual
  -- From lexeme p on, the lexemes spell an operand without signs and casts, perhaps with slices behind it. A node's
  -- place is the number of its first lexeme, and brackets are no node.
  pub data SpellsPostfix : (p : ℕ) → Expr → List Lexeme → Type 0 where
    a_number : {p : ℕ} (n : Literal) → SpellsPostfix p (num p n) (number n ∷ [])
    a_true : {p : ℕ} → SpellsPostfix p (flag p true) (key True ∷ [])
    a_false : {p : ℕ} → SpellsPostfix p (flag p false) (key False ∷ [])
    an_error : {p : ℕ} (x : List ℕ) → SpellsPostfix p (error_name p x) (key Error ∷ key Dot ∷ name x ∷ [])
    a_path : {p : ℕ} {xs : List (List ℕ)} {u : List Lexeme} → SpellsPath xs u → SpellsPostfix p (path p xs) u
    -- `header.isValid()`
    a_validity : {p : ℕ} {xs : List (List ℕ)} {u : List Lexeme} → SpellsPath xs u
        → SpellsPostfix p (valid p xs) (u ++ key Dot ∷ name valid_name ∷ key Open ∷ key Close ∷ [])
    -- `table.apply().hit` or `table.apply().miss`
    an_application : {p : ℕ} (t : List ℕ) (hit : Bool)
        → SpellsPostfix p (applied p t hit) (name t ∷ key Dot ∷ name apply_name ∷ key Open ∷ key Close ∷ key Dot ∷ name (outcome_name hit) ∷ [])
    in_brackets : {p : ℕ} {a : Expr} {u : List Lexeme} → Spells top (p + 1) a u → SpellsPostfix p a (key Open ∷ (u ++ key Close ∷ []))
    -- a slice's bounds are at most 255
    a_slice : {p : ℕ} {a : Expr} {u : List Lexeme} (high low : Literal) → high.value ≤ 255 → low.value ≤ 255 → SpellsPostfix p a u
        → SpellsPostfix p (slice p a high.value low.value) (u ++ key SquareOpen ∷ number high ∷ key Colon ∷ number low ∷ key SquareClose ∷ [])

  -- From lexeme p on, the lexemes spell the tree, and what is joined in it outside brackets is of level l at most.
  pub data Spells : (l p : ℕ) → Expr → List Lexeme → Type 0 where
    a_postfix : {p : ℕ} {a : Expr} {u : List Lexeme} → SpellsPostfix p a u → Spells 0 p a u
    a_not : {p : ℕ} {a : Expr} {u : List Lexeme} → Spells 0 (p + 1) a u → Spells 0 p (negation p a) (key Not ∷ u)
    an_inversion : {p : ℕ} {a : Expr} {u : List Lexeme} → Spells 0 (p + 1) a u → Spells 0 p (inversion p a) (key Tilde ∷ u)
    an_opposite : {p : ℕ} {a : Expr} {u : List Lexeme} → Spells 0 (p + 1) a u → Spells 0 p (opposite p a) (key Minus ∷ u)
    a_cast : {p : ℕ} {t : PTy} {a : Expr} {u v : List Lexeme} → SpellsScalar t u → Spells 0 (p + 1 + length u + 1) a v → Spells 0 p (cast p t a) (key Open ∷ (u ++ key Close ∷ v))
    tighter : {l p : ℕ} {a : Expr} {u : List Lexeme} → Spells l p a u → Spells (suc l) p a u
    -- a binary operator groups to the left: its right side has tighter operators alone
    joined : {l p : ℕ} {a b : Expr} {u v : List Lexeme} (k : Key) (op : Op) → op_at k ≡ Some (suc l, op) → Spells (suc l) p a u → Spells l (p + length u + 1) b v
        → Spells (suc l) p (binary p op a b) (u ++ key k ∷ v)
    -- `? :` groups to the right: its test has no other outside brackets
    a_conditional : {p : ℕ} {a b c : Expr} {u v w : List Lexeme} → Spells 10 p a u → Spells top (p + length u + 1) b v → Spells top (p + length u + 1 + length v + 1) c w
        → Spells top p (conditional p a b c) (u ++ key Question ∷ (v ++ key Colon ∷ w))

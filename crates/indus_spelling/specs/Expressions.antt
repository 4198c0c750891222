-- Which lexemes spell an expression: one case for each production, on whole lists of lexemes.
use Rattle.std.specs.Prelude.{◌≡◌, ℕ, suc, ◌+◌, true, false, List, [], ◌∷◌, ◌++◌, length, Some}
use Rattle.lex_text.specs.declared.literal.Literal.{Literal}
use Rattle.lex_words.specs.Seen.{Lexeme, name, number, key}
use Rattle.lex_words.specs.declared.key.Key.{Key}
use Rattle.lex_words.specs.declared.key.Key.TheVariants.{True, False, Bit, In, Length, Not, Tilde, Open, Close, SquareOpen, SquareClose, Less, More, Comma}
use Rattle.indus_tree.specs.Tree.{Expr, Exprs, num, flag, read, count, index, member, negation, inversion, binary, cast, none, more}
use Rattle.indus_tree.specs.declared.tree.Op.{Op}
use Rattle.indus_spelling.specs.Operators.{top, join_at, IsSize}
use Rattle.indus_spelling.specs.declared.operator.Join.TheVariants.{Binary}

mutual
  -- From lexeme p on, the lexemes spell the tree, and what is joined in it outside brackets is of level l at most. A
  -- node's place is the number of its first lexeme, and brackets around one expression are no node.
  pub data Spells : (l p : ℕ) → Expr → List Lexeme → Type 0 where
    a_number : {p : ℕ} (n : Literal) → Spells 0 p (num p n) (number n ∷ [])
    a_true : {p : ℕ} → Spells 0 p (flag p true) (key True ∷ [])
    a_false : {p : ℕ} → Spells 0 p (flag p false) (key False ∷ [])
    a_name : {p : ℕ} (s : List ℕ) → Spells 0 p (read p s) (name s ∷ [])
    an_index : {p : ℕ} (s : List ℕ) {ks : Exprs} {u : List Lexeme} → SpellsAll (p + 1 + 1) ks u → Spells 0 p (index p s ks) (name s ∷ key SquareOpen ∷ (u ++ key SquareClose ∷ []))
    a_length : {p : ℕ} (s : List ℕ) → Spells 0 p (count p s) (key Length ∷ key Open ∷ name s ∷ key Close ∷ [])
    a_not : {p : ℕ} {a : Expr} {u : List Lexeme} → Spells 0 (p + 1) a u → Spells 0 p (negation p a) (key Not ∷ u)
    an_inversion : {p : ℕ} {a : Expr} {u : List Lexeme} → Spells 0 (p + 1) a u → Spells 0 p (inversion p a) (key Tilde ∷ u)
    a_cast : {p : ℕ} (n : Literal) {a : Expr} {u : List Lexeme} → IsSize n → Spells 0 (p + 1 + 1 + 1 + 1 + 1 + 1) a u
        → Spells 0 p (cast p n.value a) (key Open ∷ key Bit ∷ key Less ∷ number n ∷ key More ∷ key Close ∷ u)
    in_brackets : {p : ℕ} {a : Expr} {u : List Lexeme} → Spells top (p + 1) a u → Spells 0 p a (key Open ∷ (u ++ key Close ∷ []))
    tighter : {l p : ℕ} {a : Expr} {u : List Lexeme} → Spells l p a u → Spells (suc l) p a u
    -- a binary operator groups to the left: its right side has tighter operators alone
    joined : {l p : ℕ} {a b : Expr} {u v : List Lexeme} (k : Key) (op : Op) → join_at k ≡ Some (suc l, Binary op) → Spells (suc l) p a u → Spells l (p + length u + 1) b v
        → Spells (suc l) p (binary p op a b) (u ++ key k ∷ v)
    -- the right side of `in` is a name, and its left side one value
    a_member : {p : ℕ} (s : List ℕ) {a : Expr} {u : List Lexeme} → Spells 7 p a u → Spells 7 p (member p (more a none) s) (u ++ key In ∷ name s ∷ [])
    -- or several values in brackets, which stand nowhere else
    a_tuple : {p : ℕ} (s : List ℕ) {a b : Expr} {ks : Exprs} {u : List Lexeme} → SpellsAll (p + 1) (more a (more b ks)) u
        → Spells 7 p (member p (more a (more b ks)) s) (key Open ∷ (u ++ key Close ∷ key In ∷ name s ∷ []))

  -- one expression or more, with commas between them
  pub data SpellsAll : (p : ℕ) → Exprs → List Lexeme → Type 0 where
    last : {p : ℕ} {a : Expr} {u : List Lexeme} → Spells top p a u → SpellsAll p (more a none) u
    then : {p : ℕ} {a : Expr} {rest : Exprs} {u v : List Lexeme} → Spells top p a u → SpellsAll (p + length u + 1) rest v → SpellsAll p (more a rest) (u ++ key Comma ∷ v)

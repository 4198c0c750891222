-- Reading expressions from left to right, with one lexeme of choice. A reader gets the lexemes, how many turns each loop may make, how high a tree may be and how many more round brackets may be open.
use Rattle.std.specs.Prelude.{◌≡◌, ℕ, zero, suc, ◌+◌, ◌≤◌, Bool, true, false, ◌&&◌, ◌==◌, nat_le, List, ◌∷◌, map, Option, Some, None, is_some, Ok, Err, if◌then◌else◌, slice_get}
use Rattle.lex_text.specs.declared.literal.Literal.{Literal}
use Rattle.lex_words.specs.declared.key.Key.{Key}
use Rattle.lex_words.specs.declared.key.Key.TheVariants.{True, False, Bit, In, Length, Not, Tilde, Open, Close, SquareOpen, SquareClose, Less, More, Comma}
use Rattle.lex_words.specs.Seen.{Lexeme, name_in, number_in, at_key}
use Rattle.lex_words.specs.Reading.{wrong, spent, Read, ◌>>=◌, expect_at, more_of, room_at, named_at, numbered_at, open_at}
use Rattle.lex_words.specs.Joins as joins
use Rattle.indus_tree.specs.Tree.{Expr, num, flag, read, count, index, member, negation, inversion, binary, cast, none, more, exprs_from}
use Rattle.indus_tree.specs.Height.{expr_height, exprs_height}
use Rattle.indus_tree.specs.View.{expr_of, exprs_of}
use Rattle.indus_spelling.specs.Operators.{top, join_at}
use Rattle.indus_spelling.specs.declared.operator.Join.{Join}
use Rattle.indus_spelling.specs.declared.operator.Join.TheVariants.{Binary, Member}
use Rattle.indus_expressions.specs.declared.found.Found.{Found}
use Rattle.indus_expressions.specs.declared.found.FoundAll.{FoundAll}

-- a reader of expressions, by level and place
abbrev pub Reader : Type 0
Reader = ℕ → ℕ → Read Expr

-- a number of a type, a size or a cast
abbrev pub is_size : Literal → Bool
is_size v = v.width == 0 && nat_le v.value 255

-- ---- sizes

abbrev pub sized : ℕ → Option Literal → Read ℕ
sized i None = Err (wrong i)
sized i (Some v) = if is_size v then Ok (v.value, i + 1) else Err (wrong i)

-- what joins on this level
abbrev pub join_in : ℕ → Option Key → Option Join
join_in l o = joins.join_in join_at l o

module _ (ws : List Lexeme) (n : ℕ) where
  unfoldable pub sized_at : ℕ → Read ℕ
  sized_at i = sized i (number_in (slice_get ws i))

  -- ---- operands

  -- { "," expr } behind the expression a
  unfoldable pub rest_of : Reader → Expr → ℕ → Read (List Expr)
  rest_of below a i = do
    y ← more_of ws Comma (below top) n i
    Ok (a ∷ y.0, y.1)

  -- expr { "," expr }
  unfoldable pub all_of : Reader → ℕ → Read (List Expr)
  all_of below i = do
    x ← below top i
    rest_of below x.0 x.1

  -- "true", "false"
  unfoldable pub flag_at : Bool → (h i : ℕ) → Read Expr
  flag_at v h i = do
    z ← room_at 1 h i
    Ok (flag i v, z.1 + 1)

  -- NUMBER
  unfoldable pub numeral_at : (h i : ℕ) → Read Expr
  numeral_at h i = do
    v ← numbered_at ws n i
    Ok (num i v.0, v.1)

  -- "[" expr { "," expr } "]" behind the name s at p
  unfoldable pub index_at : Reader → (p : ℕ) → List ℕ → ℕ → Read Expr
  index_at below p s i = do
    q ← expect_at ws SquareOpen i
    x ← all_of below q.1
    r ← expect_at ws SquareClose x.1
    Ok (index p s (exprs_from x.0), r.1)

  -- NAME, perhaps with an index
  unfoldable pub variable_at : Reader → (h i : ℕ) → Read Expr
  variable_at below h i = do
    s ← named_at ws n i
    (if at_key SquareOpen (slice_get ws s.1) then (room_at 2 h s.1 >>= λ z. index_at below i s.0 z.1) else Ok (read i s.0, s.1))

  -- "length" "(" NAME ")"
  unfoldable pub count_at : (b i : ℕ) → Read Expr
  count_at b i = do
    a ← expect_at ws Length i
    c ← open_at ws n b a.1
    s ← named_at ws n c.1
    d ← expect_at ws Close s.1
    Ok (count i s.0, d.1)

  -- "!" unary
  unfoldable pub negation_at : Reader → ℕ → Read Expr
  negation_at below i = do
    a ← expect_at ws Not i
    x ← below 0 a.1
    Ok (negation i x.0, x.1)

  -- "~" unary
  unfoldable pub inversion_at : Reader → ℕ → Read Expr
  inversion_at below i = do
    a ← expect_at ws Tilde i
    x ← below 0 a.1
    Ok (inversion i x.0, x.1)

  -- "bit" "<" NUMBER ">" ")" unary, behind the "(" at p
  unfoldable pub cast_at : Reader → (p i : ℕ) → Read Expr
  cast_at below p i = do
    c ← expect_at ws Bit i
    d ← expect_at ws Less c.1
    w ← sized_at d.1
    e ← expect_at ws More w.1
    f ← expect_at ws Close e.1
    x ← below 0 f.1
    Ok (cast p w.0 x.0, x.1)

  -- expr ")", behind "("
  unfoldable pub bracket_at : Reader → ℕ → Read Expr
  bracket_at inside i = do
    x ← inside top i
    r ← expect_at ws Close x.1
    Ok (x.0, r.1)

  -- a cast, or an expression in brackets
  unfoldable pub opened_at : (inside below : Reader) → (h b i : ℕ) → Read Expr
  opened_at inside below h b i = do
    a ← open_at ws n b i
    (if at_key Bit (slice_get ws a.1) then (room_at 2 h a.1 >>= λ z. cast_at below i z.1) else bracket_at inside a.1)

  unfoldable pub leaf_at : Reader → (h i : ℕ) → Read Expr
  leaf_at below h i = if is_some (name_in (slice_get ws i)) then (room_at 1 h i >>= λ z. variable_at below h z.1) else (if is_some (number_in (slice_get ws i)) then (room_at 1 h i >>= λ z. numeral_at h z.1) else Err (wrong i))

  unfoldable pub operand_at : (inside below : Reader) → (h b i : ℕ) → Read Expr
  operand_at inside below h b i =
      if at_key True (slice_get ws i) then flag_at true h i
      else if at_key False (slice_get ws i) then flag_at false h i
      else if at_key Not (slice_get ws i) then (room_at 2 h i >>= λ z. negation_at below z.1)
      else if at_key Tilde (slice_get ws i) then (room_at 2 h i >>= λ z. inversion_at below z.1)
      else if at_key Length (slice_get ws i) then (room_at 1 h i >>= λ z. count_at b z.1)
      else if at_key Open (slice_get ws i) then (room_at 1 h i >>= λ z. opened_at inside below h b z.1)
      else leaf_at below h i

  -- ---- operators

  -- behind the left side a, which begins at p: a name for `in`, else a right side of level l
  unfoldable pub right_at : Reader → (l p : ℕ) → Expr → Join → ℕ → Read Expr
  right_at below l p a (Binary op) i = do
    x ← below l i
    Ok (binary p op a x.0, x.1)
  right_at below l p a Member i = do
    s ← named_at ws n i
    Ok (member p (more a none) s.0, s.1)

  -- what is joined on level l + 1, behind the left side a, which begins at p
  abbrev pub chain : Reader → (h l p k : ℕ) → Expr → ℕ → Read Expr
  chain below h l p k a i = joins.chain join_at expr_height (right_at below) ws h l p k a i

  -- what is joined on the levels from 1 to l
  unfoldable pub climb : Reader → (h p l : ℕ) → Expr → ℕ → Read Expr
  climb below h p zero a i = Ok (a, i)
  climb below h p (suc l) a i = climb below h p l a i >>= λ x. chain below h l p n x.0 x.1

  -- { "," expr } ")" "in" NAME, behind "(" at p and the first of them, which is a
  unfoldable pub listed_at : Reader → (p : ℕ) → Expr → ℕ → Read Expr
  listed_at below p a i = do
    y ← rest_of below a i
    r ← expect_at ws Close y.1
    q ← expect_at ws In r.1
    s ← named_at ws n q.1
    Ok (member p (exprs_from y.0) s.0, s.1)

  -- the same, where the whole may be h high
  unfoldable pub tuple_at : Reader → (h p : ℕ) → Expr → ℕ → Read Expr
  tuple_at under h p a i = do
    z ← room_at (expr_height a + 1) h i
    listed_at under p a z.1

  -- an expression in brackets and what is joined behind it, or several and `in`
  unfoldable pub group_at : (inside below under : Reader) → (h b i : ℕ) → Read Expr
  group_at inside below under h b i = do
    z ← room_at 1 h i
    a ← open_at ws n b z.1
    x ← inside top a.1
    (if at_key Comma (slice_get ws x.1) then tuple_at under h i x.0 x.1 else (expect_at ws Close x.1 >>= λ r. climb below h i 6 x.0 r.1))

  -- the left side of level 7, where `other` reads one of level 6
  unfoldable pub head_at : (inside below under : Reader) → (h b : ℕ) → Read Expr → ℕ → Read Expr
  head_at inside below under h b other i =
      if at_key Open (slice_get ws i) then (if at_key Bit (slice_get ws (i + 1)) then other else group_at inside below under h b i) else other

  abbrev pub left_at : (inside below under : Reader) → (h b l : ℕ) → Read Expr → ℕ → Read Expr
  left_at inside below under h b l other i = if l == 6 then head_at inside below under h b other i else other

  -- one level of height and of brackets. inside: with one bracket less; below: one node lower; under: both
  unfoldable pub layer : (inside below under : Reader) → (h b : ℕ) → Reader
  layer inside below under h b zero i = operand_at inside below h b i
  layer inside below under h b (suc l) i = left_at inside below under h b l (layer inside below under h b l i) i >>= λ x. chain below h l i n x.0 x.1

  abbrev pub idle : Reader
  idle l i = Err spent

  -- with each number of brackets, given the readers of what is one node lower
  unfoldable pub with_brackets : (ℕ → Reader) → (h b : ℕ) → Reader
  with_brackets below h zero = layer idle (below 0) idle h 0
  with_brackets below h (suc b) = layer (with_brackets below h b) (below (suc b)) (below b) h (suc b)

  -- an expression of level l at most from place i on, which may be h high, where b more brackets may be opened
  unfoldable pub expr_at : (h b : ℕ) → Reader
  expr_at zero = with_brackets (λ b. idle) 0
  expr_at (suc h) = with_brackets (expr_at h) (suc h)

  -- the readers of the parts
  unfoldable pub inside_of : (h b : ℕ) → Reader
  inside_of h zero = idle
  inside_of h (suc b) = expr_at h b

  unfoldable pub below_of : (h b : ℕ) → Reader
  below_of zero b = idle
  below_of (suc h) b = expr_at h b

  unfoldable pub under_of : (h b : ℕ) → Reader
  under_of h zero = idle
  under_of h (suc b) = below_of h b

-- ---- what the code finds

abbrev pub tree_of : Found → Expr
tree_of x = expr_of x.tree

abbrev pub trees_of : FoundAll → List Expr
trees_of x = map expr_of x.trees.items

-- the height is the tree's, and at most h
pub record IsLow (h : ℕ) (x : Found) : Type 0 where
  pub tall : x.height ≡ expr_height (expr_of x.tree)
  pub low : x.height ≤ h

pub record AreLow (h : ℕ) (x : FoundAll) : Type 0 where
  pub tall : x.height ≡ exprs_height (exprs_of x.trees.items)
  pub low : x.height ≤ h

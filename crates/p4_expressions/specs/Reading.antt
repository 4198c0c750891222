-- Reading expressions from left to right, with one lexeme of choice. A reader gets the lexemes, how many turns each loop may make, how high a tree may be and how many more round brackets may be open.
use Rattle.std.specs.Prelude.{◌≡◌, ℕ, zero, suc, ◌+◌, ◌≤◌, Bool, true, false, ◌||◌, ◌==◌, nat_le, nat_lt, List, [], ◌∷◌, length, Option, Some, None, is_some, Ok, Err, if◌then◌else◌, slice_get}
use Rattle.lex_text.specs.Names.{same_text, parent}
use Rattle.lex_text.specs.declared.literal.Literal.{Literal}
use Rattle.lex_words.specs.declared.key.Key.{Key}
use Rattle.lex_words.specs.declared.key.Key.TheVariants.{True, False, Bit, Error, Not, Tilde, Minus, Question, Colon, Dot, Open, Close, SquareOpen, SquareClose, Less, More}
use Rattle.lex_words.specs.declared.key.Key.TheVariants as k
use Rattle.lex_words.specs.Seen.{Lexeme, name_in, number_in, at_key}
use Rattle.lex_words.specs.Reading.{wrong, spent, Read, ◌>>=◌, expect_at, more_of, room_at, named_at, numbered_at, open_at}
use Rattle.lex_words.specs.Joins as joins
use Rattle.p4_tree.specs.Tree.{Expr, num, flag, path, valid, applied, error_name, negation, inversion, opposite, binary, conditional, slice, cast}
use Rattle.p4_tree.specs.Height.{expr_height}
use Rattle.p4_tree.specs.View.{expr_of}
use Rattle.p4_tree.specs.declared.statement.Op.{Op}
use Rattle.p4_tree.specs.declared.statement.PTy.{PTy}
use Rattle.p4_tree.specs.declared.statement.PTy.TheVariants as type
use Rattle.p4_spelling.specs.Words.{valid_name, apply_name, outcome_name}
use Rattle.p4_spelling.specs.Operators.{top, op_at}
use Rattle.p4_expressions.specs.declared.found.Found.{Found}

-- a reader of expressions, by level and place
abbrev pub Reader : Type 0
Reader = ℕ → ℕ → Read Expr

-- ---- numbers of types and slices

abbrev pub small : ℕ → Option Literal → Read ℕ
small i None = Err (wrong i)
small i (Some v) = if nat_le v.value 255 then Ok (v.value, i + 1) else Err (wrong i)

-- ---- what joins

-- `[` begins a slice of what stands before it
abbrev pub square_at : Key → Option (ℕ × Unit {0})
square_at SquareOpen = Some (1, tt)
square_at _ = None

-- the operator on this level
abbrev pub op_in : ℕ → Option Key → Option Op
op_in l o = joins.join_in op_at l o

-- ---- calls

-- the last name of a path
abbrev pub last_of : List (List ℕ) → Option (List ℕ)
last_of [] = None
last_of (x ∷ []) = Some x
last_of (x ∷ y ∷ rest) = last_of (y ∷ rest)

-- what n names, of which this is the last, are called with: `isValid` behind a header, `apply` behind the one name of a table
abbrev pub calls : ℕ → Option (List ℕ) → Bool
calls n None = false
calls n (Some x) = if same_text x valid_name then true else (if same_text x apply_name then n == 2 else false)

-- `(` goes on behind these names
abbrev pub is_called : List (List ℕ) → Bool
is_called xs = if nat_lt (length xs) 2 then false else calls (length xs) (last_of xs)

-- what the name at i asks of a table
abbrev pub outcome : ℕ → Option (List ℕ) → Read Bool
outcome i None = Err (wrong i)
outcome i (Some x) = if same_text x (outcome_name true) then Ok (true, i + 1) else if same_text x (outcome_name false) then Ok (false, i + 1) else Err (wrong i)

-- a type of numbers or of truth values begins here
abbrev pub is_scalar : Option Lexeme → Bool
is_scalar o = at_key Bit o || at_key k.Bool o

module _ (ws : List Lexeme) (n : ℕ) where
  -- ---- types

  unfoldable pub small_at : ℕ → Read ℕ
  small_at i = small i (number_in (slice_get ws i))

  -- "<" NUMBER ">"
  unfoldable pub width_at : ℕ → Read PTy
  width_at i = do
    a ← expect_at ws Less i
    w ← small_at a.1
    c ← expect_at ws More w.1
    Ok (type.Bit w.0, c.1)

  -- "bit", perhaps with a width
  unfoldable pub bits_at : ℕ → Read PTy
  bits_at i = do
    a ← expect_at ws Bit i
    (if at_key Less (slice_get ws a.1) then width_at a.1 else Ok (type.Bit 1, a.1))

  -- "bool"
  unfoldable pub truth_at : ℕ → Read PTy
  truth_at i = do
    a ← expect_at ws k.Bool i
    Ok (type.Bool, a.1)

  -- a type of numbers or of truth values
  unfoldable pub scalar_at : ℕ → Read PTy
  scalar_at i = if at_key k.Bool (slice_get ws i) then truth_at i else bits_at i

  -- ---- paths and calls

  -- { "." NAME } behind the name x
  unfoldable pub more_names_at : List ℕ → ℕ → Read (List (List ℕ))
  more_names_at x i = do
    xs ← more_of ws Dot (named_at ws n) n i
    Ok (x ∷ xs.0, xs.1)

  -- NAME { "." NAME }
  unfoldable pub names_at : ℕ → Read (List (List ℕ))
  names_at i = do
    x ← named_at ws n i
    more_names_at x.0 x.1

  -- "(" ")" behind the path of a header, which begins at p
  unfoldable pub validity_at : (b p : ℕ) → List (List ℕ) → ℕ → Read Expr
  validity_at b p xs i = do
    a ← open_at ws n b i
    c ← expect_at ws Close a.1
    Ok (valid p xs, c.1)

  -- "hit" or "miss"
  unfoldable pub outcome_at : ℕ → Read Bool
  outcome_at i = outcome i (name_in (slice_get ws i))

  -- "(" ")" "." ( "hit" | "miss" ) behind the name of a table and "apply"
  unfoldable pub application_at : (b p : ℕ) → List ℕ → ℕ → Read Expr
  application_at b p t i = do
    a ← open_at ws n b i
    c ← expect_at ws Close a.1
    d ← expect_at ws Dot c.1
    o ← outcome_at d.1
    Ok (applied p t o.0, o.1)

  -- the same, where one name stands before "apply"
  unfoldable pub applied_at : (b p : ℕ) → Option (List ℕ) → ℕ → Read Expr
  applied_at b p None i = Err (wrong i)
  applied_at b p (Some t) i = application_at b p t i

  -- a call of the name x behind the path xs, which begins at p
  unfoldable pub called_at : (b p : ℕ) → List (List ℕ) → List ℕ → ℕ → Read Expr
  called_at b p xs x i = if same_text x valid_name then validity_at b p xs i else applied_at b p (last_of xs) i

  unfoldable pub call_of : (b p : ℕ) → List (List ℕ) → Option (List ℕ) → ℕ → Read Expr
  call_of b p xs None i = Err (wrong i)
  call_of b p xs (Some x) i = called_at b p xs x i

  -- a path, perhaps with a call
  unfoldable pub path_at : (b i : ℕ) → Read Expr
  path_at b i = do
    xs ← names_at i
    (if at_key Open (slice_get ws xs.1) then (if is_called xs.0 then call_of b i (parent xs.0) (last_of xs.0) xs.1 else Ok (path i xs.0, xs.1)) else Ok (path i xs.0, xs.1))

  -- ---- operands

  -- "true", "false"
  unfoldable pub flag_at : Bool → (h i : ℕ) → Read Expr
  flag_at v h i = do
    z ← room_at 1 h i
    Ok (flag i v, z.1 + 1)

  -- NUMBER
  unfoldable pub numeral_at : ℕ → Read Expr
  numeral_at i = do
    v ← numbered_at ws n i
    Ok (num i v.0, v.1)

  -- "error" "." NAME
  unfoldable pub error_at : ℕ → Read Expr
  error_at i = do
    a ← expect_at ws Error i
    c ← expect_at ws Dot a.1
    x ← named_at ws n c.1
    Ok (error_name i x.0, x.1)

  unfoldable pub leaf_at : (h b i : ℕ) → Read Expr
  leaf_at h b i =
      if at_key True (slice_get ws i) then flag_at true h i
      else if at_key False (slice_get ws i) then flag_at false h i
      else if at_key Error (slice_get ws i) then (room_at 1 h i >>= λ z. error_at z.1)
      else if is_some (name_in (slice_get ws i)) then (room_at 1 h i >>= λ z. path_at b z.1)
      else if is_some (number_in (slice_get ws i)) then (room_at 1 h i >>= λ z. numeral_at z.1)
      else Err (wrong i)

  -- NUMBER ":" NUMBER "]" behind the operand a, which begins at p, and "["
  unfoldable pub bounds_at : (p : ℕ) → Expr → ℕ → Read Expr
  bounds_at p a i = do
    x ← small_at i
    c ← expect_at ws Colon x.1
    y ← small_at c.1
    d ← expect_at ws SquareClose y.1
    Ok (slice p a x.0 y.0, d.1)

  -- { "[" NUMBER ":" NUMBER "]" } behind the operand a, which begins at p
  abbrev pub slices_at : (h p k : ℕ) → Expr → ℕ → Read Expr
  slices_at h p k a i = joins.chain square_at expr_height (λ l r c x q. bounds_at r c q) ws h 0 p k a i

  -- an operand that begins with no bracket, perhaps with slices
  unfoldable pub postfix_at : (h b i : ℕ) → Read Expr
  postfix_at h b i = do
    x ← leaf_at h b i
    slices_at h i n x.0 x.1

  -- "!" unary
  unfoldable pub negation_at : Reader → ℕ → Read Expr
  negation_at below i = do
    a ← expect_at ws Not i
    x ← below 0 a.1
    Ok (negation i x.0, x.1)

  -- "~" unary
  unfoldable pub inversion_at : Reader → ℕ → Read Expr
  inversion_at below i = do
    a ← expect_at ws Tilde i
    x ← below 0 a.1
    Ok (inversion i x.0, x.1)

  -- "-" unary
  unfoldable pub opposite_at : Reader → ℕ → Read Expr
  opposite_at below i = do
    a ← expect_at ws Minus i
    x ← below 0 a.1
    Ok (opposite i x.0, x.1)

  -- castty ")" unary, behind the "(" at p
  unfoldable pub cast_at : Reader → (p i : ℕ) → Read Expr
  cast_at below p i = do
    t ← scalar_at i
    c ← expect_at ws Close t.1
    x ← below 0 c.1
    Ok (cast p t.0 x.0, x.1)

  -- expr ")", perhaps with slices, behind the "(" at p
  unfoldable pub bracket_at : Reader → (h p i : ℕ) → Read Expr
  bracket_at inside h p i = do
    x ← inside top i
    c ← expect_at ws Close x.1
    slices_at h p n x.0 c.1

  -- a cast, or an expression in brackets
  unfoldable pub opened_at : (inside below : Reader) → (h b i : ℕ) → Read Expr
  opened_at inside below h b i = do
    a ← open_at ws n b i
    (if is_scalar (slice_get ws a.1) then (room_at 2 h a.1 >>= λ z. cast_at below i z.1) else bracket_at inside h i a.1)

  unfoldable pub operand_at : (inside below : Reader) → (h b i : ℕ) → Read Expr
  operand_at inside below h b i =
      if at_key Not (slice_get ws i) then (room_at 2 h i >>= λ z. negation_at below z.1)
      else if at_key Tilde (slice_get ws i) then (room_at 2 h i >>= λ z. inversion_at below z.1)
      else if at_key Minus (slice_get ws i) then (room_at 2 h i >>= λ z. opposite_at below z.1)
      else if at_key Open (slice_get ws i) then (room_at 1 h i >>= λ z. opened_at inside below h b z.1)
      else postfix_at h b i

  -- ---- operators

  -- behind the left side a, which begins at p: a right side of level l
  unfoldable pub right_at : Reader → (l p : ℕ) → Expr → Op → ℕ → Read Expr
  right_at below l p a op i = do
    x ← below l i
    Ok (binary p op a x.0, x.1)

  -- what is joined on level l + 1, behind the left side a, which begins at p
  abbrev pub chain : Reader → (h l p k : ℕ) → Expr → ℕ → Read Expr
  chain below h l p k a i = joins.chain op_at expr_height (right_at below) ws h l p k a i

  -- "?" expr ":" expr behind the test a, which begins at p
  unfoldable pub branches_at : Reader → (p : ℕ) → Expr → ℕ → Read Expr
  branches_at below p a i = do
    q ← expect_at ws Question i
    x ← below top q.1
    c ← expect_at ws Colon x.1
    y ← below top c.1
    Ok (conditional p a x.0 y.0, y.1)

  -- the same or nothing, where the whole may be h high
  unfoldable pub conditional_at : Reader → (h p : ℕ) → Expr → ℕ → Read Expr
  conditional_at below h p a i = if at_key Question (slice_get ws i) then (room_at (expr_height a + 1) h i >>= λ z. branches_at below p a z.1) else Ok (a, i)

  -- what is joined on level l + 1
  abbrev pub behind_at : Reader → (h l p k : ℕ) → Expr → ℕ → Read Expr
  behind_at below h l p k a i = if l == 10 then conditional_at below h p a i else chain below h l p k a i

  -- ---- heights and brackets

  -- one level of height and of brackets. inside: with one bracket less; below: one node lower
  unfoldable pub layer : (inside below : Reader) → (h b : ℕ) → Reader
  layer inside below h b zero i = operand_at inside below h b i
  layer inside below h b (suc l) i = layer inside below h b l i >>= λ x. behind_at below h l i n x.0 x.1

  abbrev pub idle : Reader
  idle l i = Err spent

  -- with each number of brackets, given the readers of what is one node lower
  unfoldable pub with_brackets : (ℕ → Reader) → (h b : ℕ) → Reader
  with_brackets below h zero = layer idle (below 0) h 0
  with_brackets below h (suc b) = layer (with_brackets below h b) (below (suc b)) h (suc b)

  -- an expression of level l at most from place i on, which may be h high, where b more brackets may be opened
  unfoldable pub expr_at : (h b : ℕ) → Reader
  expr_at zero = with_brackets (λ b. idle) 0
  expr_at (suc h) = with_brackets (expr_at h) (suc h)

  -- the readers of the parts
  unfoldable pub inside_of : (h b : ℕ) → Reader
  inside_of h zero = idle
  inside_of h (suc b) = expr_at h b

  unfoldable pub below_of : (h b : ℕ) → Reader
  below_of zero b = idle
  below_of (suc h) b = expr_at h b

-- ---- what the code finds

abbrev pub tree_of : Found → Expr
tree_of x = expr_of x.tree

-- the height is the tree's, and at most h
pub record IsLow (h : ℕ) (x : Found) : Type 0 where
  pub tall : x.height ≡ expr_height (expr_of x.tree)
  pub low : x.height ≤ h

-- The value of an expression. An expression takes numbers of any width: each operand is cast to the width
-- that its place gives, which changes nothing in a well-typed property. Read `Operators` and `Keys` before it
-- and `Meaning` after it.
use Rattle.std.specs.Prelude.{ℕ, List, [], ◌∷◌, length, not}
use Rattle.bit_values.specs.Bits.{Word, word, invert, cast as cast_number}
use Rattle.bit_values.specs.Widths.{bit, holds, either_width, sound_width, cast_word}
use Rattle.indus_tree.specs.Tree.{Expr, Exprs, num, flag, read, count, index, member, negation, inversion, binary, cast, none, more}
use Rattle.indus_tree.specs.State.{lookup, held_width}
use Rattle.bit_values.specs.Operators.{own_of, left_place, right_place}
use Rattle.indus_tree.specs.Operators.{class_of, operate}
use Rattle.indus_tree.specs.Reads.{Seen, name_word}
use Rattle.indus_tree.specs.Keys.{at_key, has, index_widths, member_widths, widths_for, first_width, other_widths}

-- the width that an expression has of its own, or 0
abbrev pub own_width : Seen → Expr → ℕ
own_width s (num p n) = n.width
own_width s (flag p b) = 1
own_width s (read p x) = (name_word s x).width
own_width s (count p x) = 8
own_width s (index p x es) = held_width (lookup s.hop.decls x)
own_width s (member p es x) = 1
own_width s (negation p a) = 1
own_width s (inversion p a) = own_width s a
own_width s (binary p op a b) = own_of (class_of op) (own_width s a) (own_width s b)
own_width s (cast p w a) = w

-- each bit turned round
abbrev pub inverted : Word → Word
inverted a = word a.width (invert a.width a.value)

abbrev mutual
  -- the value of an expression, where its place gives the width w, or 0 where it gives none
  pub value_of : Seen → Expr → (w : ℕ) → Word
  value_of s (num p n) w = word (sound_width (either_width n.width w)) (cast_number (sound_width (either_width n.width w)) n.value)
  value_of s (flag p b) w = bit b
  value_of s (read p x) w = name_word s x
  value_of s (count p x) w = word 8 (cast_number 8 (length (s.tele x)))
  value_of s (index p x es) w = at_key s x (lookup s.hop.decls x) (key_of s es (widths_for index_widths (lookup s.hop.decls x)))
  value_of s (member p es x) w = bit (has s x (lookup s.hop.decls x) (key_of s es (widths_for member_widths (lookup s.hop.decls x))))
  value_of s (negation p a) w = bit (not (holds (value_of s a 1)))
  value_of s (inversion p a) w = inverted (value_of s a w)
  value_of s (binary p op a b) w =
      operate op
      (cast_word (sound_width (left_place (class_of op) (own_width s a) (own_width s b) w)) (value_of s a (left_place (class_of op) (own_width s a) (own_width s b) w)))
      (cast_word (sound_width (right_place (class_of op) (own_width s a) (own_width s b) w)) (value_of s b (right_place (class_of op) (own_width s a) (own_width s b) w)))
  value_of s (cast p v a) w = cast_word (sound_width v) (value_of s a 0)

  -- the parts of a key, each in the width that its place gives
  pub key_of : Seen → Exprs → (widths : List ℕ) → List Word
  key_of s none ws = []
  key_of s (more e es) ws = cast_word (sound_width (first_width ws (own_width s e))) (value_of s e (first_width ws (own_width s e))) ∷ key_of s es (other_widths ws)

-- the values of some expressions, whose places give no width
abbrev pub values_of : Seen → Exprs → List Word
values_of s none = []
values_of s (more e es) = value_of s e 0 ∷ values_of s es

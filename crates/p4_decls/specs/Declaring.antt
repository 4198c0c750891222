-- Reading registers, parameters and fields from left to right.
use Rattle.std.specs.Prelude.{ℕ, ◌+◌, List, Ok, if◌then◌else◌, slice_get}
use Rattle.lex_words.specs.declared.key.Key.TheVariants as k
use Rattle.lex_words.specs.Seen.{Lexeme, at_key}
use Rattle.lex_words.specs.Reading.{Read, ◌>>=◌, expect_at, named_at, numbered_at}
use Rattle.p4_tree.specs.declared.statement.PTy.{PTy}
use Rattle.p4_tree.specs.declared.statement.PTy.TheVariants as type
use Rattle.p4_tree.specs.declared.program.Way.{Way}
use Rattle.p4_tree.specs.declared.program.Way.TheVariants as way
use Rattle.p4_tree.specs.declared.program.Param.{Param}
use Rattle.p4_tree.specs.declared.program.Register.{Register}
use Rattle.p4_expressions.specs.Reading.{small_at}
use Rattle.p4_reader.specs.Declaring.{type_at}

module _ (ws : List Lexeme) (n : ℕ) where
  -- ---- registers

  -- "<" NUMBER, and ">" ">" or ">>", behind "bit"
  unfoldable pub closed_width_at : ℕ → Read PTy
  closed_width_at i = do
    a ← expect_at ws k.Less i
    w ← small_at ws n a.1
    (if at_key k.ShiftRight (slice_get ws w.1) then Ok (type.Bit w.0, w.1 + 1) else (expect_at ws k.More w.1 >>= λ c. expect_at ws k.More c.1 >>= λ d. Ok (type.Bit w.0, d.1)))

  -- "bit", perhaps with a width, and ">"
  unfoldable pub closed_bits_at : ℕ → Read PTy
  closed_bits_at i = do
    a ← expect_at ws k.Bit i
    (if at_key k.Less (slice_get ws a.1) then closed_width_at a.1 else (expect_at ws k.More a.1 >>= λ c. Ok (type.Bit 1, c.1)))

  -- a type and ">"; the mark ">>" closes the type's own "<" too
  unfoldable pub closed_at : ℕ → Read PTy
  closed_at i = if at_key k.Bit (slice_get ws i) then closed_bits_at i else (type_at ws n i >>= λ t. expect_at ws k.More t.1 >>= λ c. Ok (t.0, c.1))

  -- "register" "<" type ">" "(" NUMBER ")" NAME ";"
  unfoldable pub register_at : ℕ → Read Register
  register_at i = do
    a ← expect_at ws k.Register i
    l ← expect_at ws k.Less a.1
    t ← closed_at l.1
    o ← expect_at ws k.Open t.1
    v ← numbered_at ws n o.1
    c ← expect_at ws k.Close v.1
    x ← named_at ws n c.1
    s ← expect_at ws k.Semicolon x.1
    Ok (record { at = i; ty = t.0; count = v.0.value; name = x.0 }, s.1)

  -- ---- parameters and fields

  -- [ "in" | "out" | "inout" ]
  unfoldable pub way_at : ℕ → Read Way
  way_at i =
      if at_key k.In (slice_get ws i) then Ok (way.Into, i + 1)
      else if at_key k.Out (slice_get ws i) then Ok (way.Out, i + 1)
      else if at_key k.Inout (slice_get ws i) then Ok (way.Both, i + 1)
      else Ok (way.Plain, i)

  -- [ "in" | "out" | "inout" ] type NAME
  unfoldable pub param_at : ℕ → Read Param
  param_at i = do
    w ← way_at i
    t ← type_at ws n w.1
    x ← named_at ws n t.1
    Ok (record { at = i; way = w.0; ty = t.0; name = x.0 }, x.1)

  -- type NAME
  unfoldable pub argument_at : ℕ → Read (PTy × List ℕ)
  argument_at i = do
    t ← type_at ws n i
    x ← named_at ws n t.1
    Ok ((t.0, x.0), x.1)

  -- type NAME ";"
  unfoldable pub field_at : ℕ → Read (PTy × List ℕ)
  field_at i = do
    t ← argument_at i
    s ← expect_at ws k.Semicolon t.1
    Ok (t.0, s.1)

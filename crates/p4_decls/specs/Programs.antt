-- Reading programs from left to right.
use Rattle.std.specs.Prelude.{ℕ, zero, suc, ◌+◌, ◌-◌, Bool, List, Option, Result, Ok, Err, if◌then◌else◌, slice_get, length}
use Rattle.lex_words.specs.declared.key.Key.TheVariants as k
use Rattle.lex_words.specs.Seen.{Lexeme, at_key, at_include}
use Rattle.lex_words.specs.Reading.{Fault, spent, Read, ◌>>=◌, expect_at, all_read, named_at, this_name_at}
use Rattle.p4_tree.specs.Tree.{Top, constant, typedef, header_type, struct_type, register, parser, control, Program}
use Rattle.p4_spelling.specs.Words.{main_name}
use Rattle.p4_reader.specs.Declaring.{const_at}
use Rattle.p4_decls.specs.Repeating.{each_at, list_at}
use Rattle.p4_decls.specs.Declaring.{register_at, field_at}
use Rattle.p4_decls.specs.Parsing.{closes_brace, parser_at}
use Rattle.p4_decls.specs.Controls.{control_at}

-- the declarations of a program end here
abbrev pub ends_tops : Option Lexeme → Bool
ends_tops o = at_key k.V1Switch o

-- h: how high a declaration may be. b: how many round brackets may be open.
module _ (ws : List Lexeme) (n b h : ℕ) where
  -- ---- declarations

  -- "typedef" type NAME ";"
  unfoldable pub typedef_at : ℕ → Read Top
  typedef_at i = do
    a ← expect_at ws k.Typedef i
    d ← field_at ws n a.1
    Ok (typedef i d.0.0 d.0.1, d.1)

  -- "header" NAME "{" { field } "}"
  unfoldable pub header_at : ℕ → Read Top
  header_at i = do
    a ← expect_at ws k.Header i
    x ← named_at ws n a.1
    o ← expect_at ws k.BraceOpen x.1
    fs ← each_at ws closes_brace (field_at ws n) n o.1
    c ← expect_at ws k.BraceClose fs.1
    Ok (header_type i x.0 fs.0, c.1)

  -- "struct" NAME "{" { field } "}"
  unfoldable pub struct_at : ℕ → Read Top
  struct_at i = do
    a ← expect_at ws k.Struct i
    x ← named_at ws n a.1
    o ← expect_at ws k.BraceOpen x.1
    fs ← each_at ws closes_brace (field_at ws n) n o.1
    c ← expect_at ws k.BraceClose fs.1
    Ok (struct_type i x.0 fs.0, c.1)

  unfoldable pub top_at : ℕ → Read Top
  top_at i =
      if at_key k.Const (slice_get ws i) then (const_at ws n b h i >>= λ d. Ok (constant i d.0.ty d.0.name d.0.value, d.1))
      else if at_key k.Typedef (slice_get ws i) then typedef_at i
      else if at_key k.Register (slice_get ws i) then (register_at ws n i >>= λ d. Ok (register i d.0, d.1))
      else if at_key k.Parser (slice_get ws i) then (parser_at ws n b (h - 4) i >>= λ d. Ok (parser i d.0, d.1))
      else if at_key k.Control (slice_get ws i) then (control_at ws n b (h - 2) i >>= λ d. Ok (control i d.0, d.1))
      else if at_key k.Header (slice_get ws i) then header_at i
      else struct_at i

  -- ---- programs

  -- as many inclusions as there are, in at most j turns
  unfoldable pub includes_at : (j i : ℕ) → Read (Unit {0})
  includes_at zero i = Err spent
  includes_at (suc j) i = if at_include (slice_get ws i) then includes_at j (i + 1) else Ok (tt, i)

  -- NAME "(" ")"
  unfoldable pub part_at : ℕ → Read (List ℕ)
  part_at i = do
    x ← named_at ws n i
    o ← expect_at ws k.Open x.1
    c ← expect_at ws k.Close o.1
    Ok (x.0, c.1)

  -- "V1Switch" "(" part { "," part } ")"
  unfoldable pub parts_at : ℕ → Read (List (List ℕ))
  parts_at i = do
    a ← expect_at ws k.V1Switch i
    o ← expect_at ws k.Open a.1
    xs ← list_at ws part_at n o.1
    c ← expect_at ws k.Close xs.1
    Ok (xs.0, c.1)

  -- the same, and "main" ";"
  unfoldable pub main_at : ℕ → Read (List (List ℕ))
  main_at i = do
    xs ← parts_at i
    m ← this_name_at ws n main_name xs.1
    s ← expect_at ws k.Semicolon m.1
    Ok (xs.0, s.1)

  -- inclusions, declarations, and what names the parts; the program may be h + 1 high
  unfoldable pub whole_at : Read Program
  whole_at = do
    s ← includes_at n 0
    ts ← each_at ws ends_tops top_at n s.1
    xs ← main_at ts.1
    Ok (record { at = 0; tops = ts.0; main = xs.0 }, xs.1)

  -- the program that all lexemes spell
  unfoldable pub program_at : Result Program Fault
  program_at = all_read ws whole_at

-- the program of at most 256 nodes and brackets that all lexemes spell
abbrev pub program_read : List Lexeme → Result Program Fault
program_read ws = program_at ws (length ws + 1) 256 255

-- The turns of the code's loops.
use Rattle.std.proofs.Common.{◌≡◌, ℕ, List, [], ◌∷◌, refl}
use Rattle.lex_words.specs.declared.key.Key.TheVariants.{Comma}
use Rattle.lex_words.specs.Seen.{Lexeme}
use Rattle.lex_words.specs.Reading.{more_of}
use Rattle.lex_words.proofs.Loops.{Front}
use Rattle.p4_tree.specs.Tree.{Expr, Arg}
use Rattle.p4_spelling.specs.Operators.{top}
use Rattle.p4_expressions.specs.Reading.{expr_at}
use Rattle.p4_reader.specs.Declaring.{exprs_from}
use Rattle.p4_reader.specs.Reading.{arg_at, args_from}

module _ (ws : List Lexeme) (n b h : ℕ) where
  pub exprs_front : (x : Expr) (i : ℕ) → exprs_from ws n b h x i ≡ Front (x ∷ []) (more_of ws Comma (expr_at ws n h b top) n i)
  unfolding exprs_from
  exprs_front x i = refl

  pub args_front : (x : Arg) (i : ℕ) → args_from ws n b h x i ≡ Front (x ∷ []) (more_of ws Comma (arg_at ws n b h) n i)
  unfolding args_from
  args_front x i = refl

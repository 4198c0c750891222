-- Laws of expressions. Each is proved, as the contract of a function of `laws`.
use Rattle.std.specs.Prelude.{◌≡◌, ℕ, ◌+◌, ◌≤◌, List, length, Ok}
use Rattle.lex_words.specs.Seen.{Lexeme}
use Rattle.p4_tree.specs.Tree.{Expr}
use Rattle.p4_tree.specs.Height.{expr_height}
use Rattle.p4_spelling.specs.Operators.{top}
use Rattle.p4_spelling.specs.Expressions.{Spells}
use Rattle.p4_expressions.specs.Reading.{expr_at}

-- lexemes spell one expression of a level at most, from a place on
abbrev pub OneExpression : Type 0
OneExpression = (l p : ℕ) (s t : Expr) (u : List Lexeme) → Spells l p s u → Spells l p t u → s ≡ t

-- the expression that lexemes spell is read, where it is not too high and as many brackets may be opened as there are lexemes
abbrev pub SpelledIsRead : Type 0
SpelledIsRead = (ws : List Lexeme) (t : Expr) (h b : ℕ) → Spells top 0 t ws → expr_height t ≤ h → length ws ≤ b → expr_at ws (length ws + 1) h b top 0 ≡ Ok (t, length ws)

-- what is read up to the end of the lexemes is spelled by them, and not too high
abbrev pub ReadIsSpelled : Type 0
ReadIsSpelled = (ws : List Lexeme) (t : Expr) (h b : ℕ) → expr_at ws (length ws + 1) h b top 0 ≡ Ok (t, length ws) → Spells top 0 t ws × (expr_height t ≤ h)

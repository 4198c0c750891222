-- The piece of a closed text, seen by its inside alone.
use Rattle.std.proofs.Common.{◌≡◌, ◌-◌, ℕ, List, true, length, sym, ap, ◌∙◌, arith}
use Rattle.std.proofs.lemmas.Bool.{cond-true, cond-false, lt-ltb, le-ltb}
use Rattle.std.proofs.lemmas.Grind.{common_steps}
use Rattle.std.specs.Prelude.{nat_lt, drop, take}
use Rattle.std.specs.List.{prefix_len}
use Rattle.lex_text.specs.Tokens.{is_ascii, is_in_text}
use Rattle.lex_text.specs.Pieces.{is_quote_next, text_piece}
use Rattle.lex_text.proofs.TextFronts.{inside_piece, closed_piece}
use Rattle.lex_text.proofs.piece.quoted.Goals as goal

piece_here : (rest : List ℕ) (n a : ℕ) → n ≡ prefix_len is_in_text rest → a ≡ prefix_len is_ascii (take n rest) → true ≡ is_quote_next (take (length rest - n) (drop n rest)) → inside_piece n a ≡ text_piece rest
piece_here rest n a is ascii closed =
    let whole : take (length rest - n) (drop n rest) ≡ drop n rest = grind (arith, common_steps) in
    ap (inside_piece n) ascii ∙ closed_piece rest n is (ap is_quote_next (sym whole) ∙ sym closed)

pub returns-then-ascii-n-clause-value : goal.returns-then-ascii-n-clause-value
returns-then-ascii-n-clause-value c =
    let rest = c.args.rest.now in
    let n = c.quoted_len-n.result in
    let a = c.ascii_len-ascii.result in
    sym (cond-true (nat_lt a n) _ _ (lt-ltb a n c.if-ascii-n.true))
    ∙ piece_here rest n a c.quoted_len-n.ensures c.ascii_len-ascii.ensures (sym c.if-not-quote_next.false ∙ c.quote_next.ensures)

pub returns-else-ascii-n-clause-value : goal.returns-else-ascii-n-clause-value
returns-else-ascii-n-clause-value c =
    let rest = c.args.rest.now in
    let n = c.quoted_len-n.result in
    let a = c.ascii_len-ascii.result in
    sym (cond-false (nat_lt a n) _ _ (le-ltb a n c.if-ascii-n.false))
    ∙ piece_here rest n a c.quoted_len-n.ensures c.ascii_len-ascii.ensures (sym c.if-not-quote_next.false ∙ c.quote_next.ensures)

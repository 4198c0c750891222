-- Lexemes that are an expression as a whole: what is spelled is read, what is read is spelled, and there is one at most.
use Rattle.std.proofs.Common.{◌≡◌, ℕ, zero, suc, ◌+◌, ◌≤◌, max, List, [], ◌∷◌, ◌++◌, length, Option, None, Ok, Err, refl, sym, ap, subst, ◌∙◌, arith}
use Rattle.std.specs.Prelude.{slice_get}
use Rattle.lex_words.specs.declared.key.Key.TheVariants.{Dot, Open}
use Rattle.lex_words.specs.Seen.{Lexeme, name, at_key}
use Rattle.lex_words.specs.Reading.{Read}
use Rattle.lex_words.proofs.Standing.{Stands, Stands-split, Stands-whole, same_list}
use Rattle.lex_words.proofs.Spelled.{Reads, Spelled}
use Rattle.p4_tree.specs.Tree.{Expr}
use Rattle.p4_tree.specs.Height.{expr_height}
use Rattle.p4_spelling.specs.Operators.{top}
use Rattle.p4_spelling.specs.Expressions.{Spells}
use Rattle.p4_expressions.specs.Reading.{expr_at}
use Rattle.p4_expressions.specs.Laws.{OneExpression, SpelledIsRead, ReadIsSpelled}
use Rattle.p4_expressions.proofs.Behind.{Ends, nothing_ends}
use Rattle.p4_expressions.proofs.Tails.{last_path, Quiet, quiet_by}
use Rattle.p4_expressions.proofs.Balanced.{roomy}
use Rattle.p4_expressions.proofs.Complete.{expr_is_read}
use Rattle.p4_expressions.proofs.Sound.{Reads-expr}

-- nothing stands behind the last lexeme
end_is : (ws : List Lexeme) → slice_get ws (length ws) ≡ None
end_is [] = refl
end_is (w ∷ ws) = end_is ws

at_end : (l : ℕ) (ws : List Lexeme) → Ends l (slice_get ws (length ws))
at_end l ws = subst (Ends l) (sym (end_is ws)) (nothing_ends l)

quiet_end : (x : Option (List (List ℕ))) (ws : List Lexeme) → Quiet x (slice_get ws (length ws))
quiet_end x ws = quiet_by x (slice_get ws (length ws)) (ap (at_key Dot) (end_is ws)) (ap (at_key Open) (end_is ws))

pub spelled_is_read : SpelledIsRead
spelled_is_read ws t h b s low room = expr_is_read ws (length ws + 1) s h b (length ws) (Stands-whole ws) low (roomy s b room) (omega arith) (at_end top ws) (quiet_end (last_path s) ws)

-- of what is read
spelled_of : (ws : List Lexeme) (t : Expr) (h b : ℕ) → Spelled ws (Spells top 0) (λ x. expr_height x ≤ h) b b 0 (t, length ws) → Spells top 0 t ws × (expr_height t ≤ h)
spelled_of ws t h b r = (subst (Spells top 0 t) (same_list ws r.lexemes r.stands) r.spells, r.bound)

pub read_is_spelled : ReadIsSpelled
read_is_spelled ws t h b e =
    let R : Read Expr → Type 0 = λ r. Reads ws (Spells top 0) (λ x. expr_height x ≤ h) b b 0 r in
    let r : R (Ok (t, length ws)) = subst R e (Reads-expr ws (length ws + 1) h b top 0) in
    spelled_of ws t h b r.sound

-- ---- one at most

-- lexemes before those of an expression
pad : ℕ → List Lexeme
pad zero = []
pad (suc p) = name [] ∷ pad p

length-pad : (p : ℕ) → length (pad p) ≡ p
unfolding pad
length-pad zero = refl
length-pad (suc p) = ap suc (length-pad p)

tree_or : Expr → Read Expr → Expr
tree_or s (Ok x) = x.0
tree_or s (Err f) = s

same_tree : (s t : Expr) (q : ℕ) (r : Read Expr) → r ≡ Ok (s, q) → r ≡ Ok (t, q) → s ≡ t
unfolding tree_or
same_tree s t q r e f = ap (tree_or s) (sym e) ∙ ap (tree_or s) f

pub one_expression : OneExpression
one_expression l p s t u x y =
    let ws = pad p ++ u in
    let q = length ws in
    let h = max (expr_height s) (expr_height t) in
    let from : 0 + length (pad p) ≡ p = omega (arith, length-pad p) in
    let st : Stands ws p u q = subst (λ i. Stands ws i u q) from (Stands-split ws 0 q (pad p) u (Stands-whole ws)).1 in
    let e = expr_is_read ws (length u + 1) x h (length u) q st (omega arith) (roomy x (length u) (omega arith)) (omega arith) (at_end l ws) (quiet_end (last_path x) ws) in
    let f = expr_is_read ws (length u + 1) y h (length u) q st (omega arith) (roomy y (length u) (omega arith)) (omega arith) (at_end l ws) (quiet_end (last_path y) ws) in
    same_tree s t q (expr_at ws (length u + 1) h (length u) l p) e f

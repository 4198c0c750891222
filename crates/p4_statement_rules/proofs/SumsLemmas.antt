-- Bits of a list of values, from left to right.
use Rattle.std.proofs.Common.{◌≡◌, ℕ, suc, ◌+◌, ◌<◌, ◌%◌, List, [], ◌∷◌, map, length, drop, drop-cons, get_or, refl, sym, ap, ◌∙◌, arith}
use Rattle.p4_tree.specs.Tree.{Expr}
use Rattle.p4_tree.specs.View.{expr_of}
use Rattle.p4_tree.specs.declared.statement.Expr as code
use Rattle.p4_scopes.specs.Kinds.{bits_in}
use Rattle.p4_scopes.specs.Scopes.{Scope, own}
use Rattle.p4_statement_rules.specs.Calls.{bits_over}

twice : (n : ℕ) → (0 + n % 16) % 16 ≡ n % 16
twice n = omega arith

pub bits_at_first : (s : Scope) (es : List Expr) → (0 + bits_over s es) % 16 ≡ bits_over s es
bits_at_first s [] = refl
bits_at_first s (e ∷ es) = twice (bits_in (own s e) + bits_over s es)

regroup : (b k r : ℕ) → ((b + k) % 16 + r) % 16 ≡ (b + (k + r) % 16) % 16
regroup b k r = omega arith

-- one value more
pub bits_next : (s : Scope) (es : List code.Expr) (i b : ℕ) (e : code.Expr) → i < length es → e ≡ get_or es i e
    → ((b + bits_in (own s (expr_of e))) % 16 + bits_over s (map expr_of (drop (i + 1) es))) % 16 ≡ (b + bits_over s (map expr_of (drop i es))) % 16
bits_next s es i b e lt is =
    let more : i + 1 ≡ suc i = omega arith in
    let rest : drop i es ≡ e ∷ drop (i + 1) es = drop-cons es i e lt ∙ ap (λ (x : code.Expr). x ∷ drop (suc i) es) (sym is) ∙ ap (λ (m : ℕ). e ∷ drop m es) (sym more) in
    regroup b (bits_in (own s (expr_of e))) (bits_over s (map expr_of (drop (i + 1) es))) ∙ ap (λ (xs : List code.Expr). (b + bits_over s (map expr_of xs)) % 16) (sym rest)

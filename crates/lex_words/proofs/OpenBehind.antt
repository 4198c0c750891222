-- How many round brackets are open behind lexemes that readers count down.
use Rattle.std.proofs.Common.{◌≡◌, ℕ, zero, suc, ◌+◌, ◌<◌, List, [], ◌∷◌, ◌++◌, take, drop, Some, None, refl, sym, subst, arith}
use Rattle.std.proofs.lemmas.List.{take-append-drop}
use Rattle.lex_words.specs.declared.key.Key.TheVariants.{Open, Close}
use Rattle.lex_words.specs.Seen.{Lexeme, key}
use Rattle.lex_words.specs.Brackets.{opens, closes, opened, closed, open_behind, left_by, left}
use Rattle.lex_words.specs.Faults.{HasFewOpen}
use Rattle.lex_words.proofs.Spelled.{left-split, some_of}

counts_lexeme : (w : Lexeme) (b d : ℕ) → left_by w b ≡ Some d → opens w + d ≡ b + closes w
counts_lexeme (key Open) zero d e = absurd cc
counts_lexeme (key Open) (suc b) d e = let s : b ≡ d = cc in omega (arith, s)
counts_lexeme (key Close) b d e = let s : suc b ≡ d = cc in omega (arith, s)
counts_lexeme _ b d e = let s : b ≡ d = cc in omega (arith, s)

-- b may be opened before the lexemes, c behind them
pub counts : (b c : ℕ) (u : List Lexeme) → left b u ≡ Some c → opened u + c ≡ b + closed u
counts b c [] e = let s : b ≡ c = cc in omega (arith, s)
counts b c (w ∷ u) e =
    let r = some_of (λ d. left d u) (left_by w b) c e in
    omega (arith, counts_lexeme w b r.0 r.1, counts r.0 c u r.2)

pub few_open : (b c : ℕ) (u : List Lexeme) → left b u ≡ Some c → HasFewOpen b u
few_open b c u e q =
    let same : take q u ++ drop q u ≡ u = take-append-drop q u in
    let r = left-split b c (take q u) (drop q u) (subst (λ v. left b v ≡ Some c) (sym same) e) in
    omega (arith, counts b r.0 (take q u) r.1)

-- ---- one bracket too many

pub opened-append : (u v : List Lexeme) → opened (u ++ v) ≡ opened u + opened v
opened-append [] v = omega arith
opened-append (w ∷ u) v = omega (arith, opened-append u v)

pub closed-append : (u v : List Lexeme) → closed (u ++ v) ≡ closed u + closed v
closed-append [] v = omega arith
closed-append (w ∷ u) v = omega (arith, closed-append u v)

one_over : (w : Lexeme) (b : ℕ) → left_by w b ≡ None → (b ≡ 0) × (opens w ≡ 1) × (closes w ≡ 0)
one_over (key Open) zero e = (refl, refl, refl)
one_over (key Open) (suc b) e = absurd cc
one_over (key Close) b e = absurd cc
one_over _ b e = absurd cc

pub too_many : (b c : ℕ) (u : List Lexeme) (w : Lexeme) → left b u ≡ Some c → left_by w c ≡ None → b < open_behind (u ++ w ∷ [])
too_many b c u w e f =
    let o = one_over w c f in
    omega (arith, counts b c u e, o.0, o.1, o.2, opened-append u (w ∷ []), closed-append u (w ∷ []))

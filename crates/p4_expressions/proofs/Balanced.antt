-- The lexemes of an expression close each round bracket that they open.
use Rattle.std.proofs.Common.{◌≡◌, ℕ, zero, suc, ◌≤◌, Bool, List, [], ◌∷◌, ◌++◌, length, Some, None, refl, ap, ◌∙◌, arith}
use Rattle.std.proofs.lemmas.List.{length-append}
use Rattle.std.specs.Prelude.{option_and_then}
use Rattle.lex_text.specs.declared.literal.Literal.{Literal}
use Rattle.lex_words.specs.declared.key.Key.TheVariants.{Question, Colon, Dot, Open, Close, SquareOpen, SquareClose}
use Rattle.lex_words.specs.Seen.{Lexeme, key, name, number}
use Rattle.lex_words.specs.Brackets.{left, left_by}
use Rattle.lex_words.proofs.Spelled.{plain_step, left-some, left-split}
use Rattle.p4_tree.specs.Tree.{Expr}
use Rattle.p4_tree.specs.declared.statement.PTy.{PTy}
use Rattle.p4_spelling.specs.Words.{valid_name, apply_name, outcome_name}
use Rattle.p4_spelling.specs.Types.{SpellsScalar, a_bool, a_bit, bits}
use Rattle.p4_spelling.specs.Expressions.{SpellsPath, last_name, then_names, SpellsPostfix, a_number, a_true, a_false, an_error, a_path, a_validity, an_application, in_brackets, a_slice, Spells, a_postfix, a_not, an_inversion, an_opposite, a_cast, tighter, joined, a_conditional}
use Rattle.p4_expressions.proofs.Behind.{op-plain}

-- ---- types and paths have none

pub scalar_left : {t : PTy} {u : List Lexeme} → SpellsScalar t u → (b : ℕ) → left b u ≡ Some b
scalar_left a_bool b = refl
scalar_left a_bit b = refl
scalar_left (bits n low) b = refl

pub path_left : {xs : List (List ℕ)} {u : List Lexeme} → SpellsPath xs u → (b : ℕ) → left b u ≡ Some b
path_left (last_name x) b = refl
path_left (then_names x s) b = path_left s b

-- ---- the ends of calls and slices

abbrev pub valid_end : List Lexeme
valid_end = key Dot ∷ name valid_name ∷ key Open ∷ key Close ∷ []

abbrev pub apply_end : Bool → List Lexeme
apply_end hit = key Dot ∷ name apply_name ∷ key Open ∷ key Close ∷ key Dot ∷ name (outcome_name hit) ∷ []

abbrev pub slice_end : (high low : Literal) → List Lexeme
slice_end high low = key SquareOpen ∷ number high ∷ key Colon ∷ number low ∷ key SquareClose ∷ []

valid_left : (b c : ℕ) → left b valid_end ≡ Some c → c ≡ b
valid_left zero c e = absurd (let x : None ≡ Some c = e in cc)
valid_left (suc b) c e = let x : Some (suc b) ≡ Some c = e in cc

apply_left : (hit : Bool) (b c : ℕ) → left b (apply_end hit) ≡ Some c → c ≡ b
apply_left hit zero c e = absurd (let x : None ≡ Some c = e in cc)
apply_left hit (suc b) c e = let x : Some (suc b) ≡ Some c = e in cc

-- ---- expressions

mutual
  pub balanced_postfix : {p : ℕ} {t : Expr} {u : List Lexeme} → SpellsPostfix p t u → (b c : ℕ) → left b u ≡ Some c → c ≡ b
  balanced_postfix (a_number n) b c e = let x : Some b ≡ Some c = e in cc
  balanced_postfix a_true b c e = let x : Some b ≡ Some c = e in cc
  balanced_postfix a_false b c e = let x : Some b ≡ Some c = e in cc
  balanced_postfix (an_error x) b c e = let x : Some b ≡ Some c = e in cc
  balanced_postfix (a_path s) b c e = let x = path_left s b in cc
  balanced_postfix (a_validity {u = u} s) b c e =
      let r = left-split b c u valid_end e in
      let d = path_left s b in
      let z = valid_left r.0 c r.2 in
      let y = r.1 in cc
  balanced_postfix (an_application t hit) b c e = apply_left hit b c e
  balanced_postfix (in_brackets {u = u} s) zero c e = absurd (let x : None ≡ Some c = e in cc)
  balanced_postfix (in_brackets {u = u} s) (suc b) c e =
      let r = left-split b c u (key Close ∷ []) e in
      let d = balanced s b r.0 r.1 in
      let x : Some (suc r.0) ≡ Some c = r.2 in cc
  balanced_postfix (a_slice {u = u} high low h l s) b c e =
      let r = left-split b c u (slice_end high low) e in
      let d = balanced_postfix s b r.0 r.1 in
      let x : Some r.0 ≡ Some c = r.2 in cc

  -- as many may be opened behind them as before them
  pub balanced : {l p : ℕ} {t : Expr} {u : List Lexeme} → Spells l p t u → (b c : ℕ) → left b u ≡ Some c → c ≡ b
  balanced (a_postfix s) b c e = balanced_postfix s b c e
  balanced (a_not s) b c e = balanced s b c e
  balanced (an_inversion s) b c e = balanced s b c e
  balanced (an_opposite s) b c e = balanced s b c e
  balanced (a_cast t s) zero c e = absurd (let x : None ≡ Some c = e in cc)
  balanced (a_cast {u = u} {v = v} t s) (suc b) c e =
      let r = left-split b c u (key Close ∷ v) e in
      let d = scalar_left t b in
      let y = r.1 in
      let z = balanced s (suc r.0) c r.2 in cc
  balanced (tighter s) b c e = balanced s b c e
  balanced (joined {u = u} {v = v} k op o s t) b c e =
      let r = left-split b c u (key k ∷ v) e in
      let d = balanced s b r.0 r.1 in
      let z = balanced t r.0 c (plain_step r.0 c (left_by (key k) r.0) v (op-plain k _ r.0 o) r.2) in cc
  balanced (a_conditional {u = u} {v = v} {w = w} s t r) b c e =
      let x = left-split b c u (key Question ∷ (v ++ key Colon ∷ w)) e in
      let d = balanced s b x.0 x.1 in
      let y = left-split x.0 c v (key Colon ∷ w) x.2 in
      let f = balanced t x.0 y.0 y.1 in
      let z = balanced r y.0 c y.2 in cc

mutual
  pub roomy_postfix : {p : ℕ} {t : Expr} {u : List Lexeme} → SpellsPostfix p t u → (b : ℕ) → length u ≤ b → left b u ≡ Some b
  roomy_postfix (a_number n) b le = refl
  roomy_postfix a_true b le = refl
  roomy_postfix a_false b le = refl
  roomy_postfix (an_error x) b le = refl
  roomy_postfix (a_path s) b le = path_left s b
  roomy_postfix (a_validity {u = u} s) zero le = absurd (omega (arith, length-append u valid_end))
  roomy_postfix (a_validity {u = u} s) (suc b) le = left-some (suc b) (suc b) u valid_end (path_left s (suc b))
  roomy_postfix (an_application t hit) zero le = absurd (omega arith)
  roomy_postfix (an_application t hit) (suc b) le = refl
  roomy_postfix (in_brackets {u = u} s) zero le = absurd (omega arith)
  roomy_postfix (in_brackets {u = u} s) (suc b) le = left-some b b u (key Close ∷ []) (roomy s b (omega (arith, length-append u (key Close ∷ []))))
  roomy_postfix (a_slice {u = u} high low h l s) b le = left-some b b u (slice_end high low) (roomy_postfix s b (omega (arith, length-append u (slice_end high low))))

  -- no more are opened than there are lexemes
  pub roomy : {l p : ℕ} {t : Expr} {u : List Lexeme} → Spells l p t u → (b : ℕ) → length u ≤ b → left b u ≡ Some b
  roomy (a_postfix s) b le = roomy_postfix s b le
  roomy (a_not s) b le = roomy s b (omega arith)
  roomy (an_inversion s) b le = roomy s b (omega arith)
  roomy (an_opposite s) b le = roomy s b (omega arith)
  roomy (a_cast t s) zero le = absurd (omega arith)
  roomy (a_cast {u = u} {v = v} t s) (suc b) le = left-some b b u (key Close ∷ v) (scalar_left t b) ∙ roomy s (suc b) (omega (arith, length-append u (key Close ∷ v)))
  roomy (tighter s) b le = roomy s b le
  roomy (joined {u = u} {v = v} k op o s t) b le =
      let len = length-append u (key k ∷ v) in
      left-some b b u (key k ∷ v) (roomy s b (omega (arith, len))) ∙ ap (option_and_then (λ c. left c v)) (op-plain k _ b o) ∙ roomy t b (omega (arith, len))
  roomy (a_conditional {u = u} {v = v} {w = w} s t r) b le =
      let len = length-append u (key Question ∷ (v ++ key Colon ∷ w)) in
      let len' = length-append v (key Colon ∷ w) in
      left-some b b u (key Question ∷ (v ++ key Colon ∷ w)) (roomy s b (omega (arith, len))) ∙ left-some b b v (key Colon ∷ w) (roomy t b (omega (arith, len, len'))) ∙ roomy r b (omega (arith, len, len'))

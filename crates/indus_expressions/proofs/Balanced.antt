-- The lexemes of an expression close each round bracket that they open.
use Rattle.std.proofs.Common.{◌≡◌, ℕ, zero, suc, ◌≤◌, List, [], ◌∷◌, length, Some, None, refl, ap, ◌∙◌, arith}
use Rattle.std.proofs.lemmas.List.{length-append}
use Rattle.std.specs.Prelude.{option_and_then}
use Rattle.lex_words.specs.declared.key.Key.TheVariants.{Close, SquareClose, Comma, In}
use Rattle.lex_words.specs.Seen.{Lexeme, key, name}
use Rattle.lex_words.specs.Brackets.{left, left_by}
use Rattle.lex_words.proofs.Spelled.{plain_step, left-some, left-split}
use Rattle.indus_tree.specs.Tree.{Expr, Exprs}
use Rattle.indus_spelling.specs.Expressions.{Spells, SpellsAll, a_number, a_true, a_false, a_name, an_index, a_length, a_not, an_inversion, a_cast, in_brackets, tighter, joined, a_member, a_tuple, last, then}
use Rattle.indus_expressions.proofs.Behind.{join-plain}

-- behind a lexeme that is no round bracket
mutual
  -- as many may be opened behind them as before them
  pub balanced : {l p : ℕ} {t : Expr} {u : List Lexeme} → Spells l p t u → (b c : ℕ) → left b u ≡ Some c → c ≡ b
  balanced (a_number n) b c e = let x : Some b ≡ Some c = e in cc
  balanced a_true b c e = let x : Some b ≡ Some c = e in cc
  balanced a_false b c e = let x : Some b ≡ Some c = e in cc
  balanced (a_name s) b c e = let x : Some b ≡ Some c = e in cc
  balanced (an_index s {u = u} all) b c e =
      let r = left-split b c u (key SquareClose ∷ []) e in
      let d = balanced_all all b r.0 r.1 in
      let x : Some r.0 ≡ Some c = r.2 in cc
  balanced (a_length s) zero c e = absurd (let x : None ≡ Some c = e in cc)
  balanced (a_length s) (suc b) c e = let x : Some (suc b) ≡ Some c = e in cc
  balanced (a_not s) b c e = balanced s b c e
  balanced (an_inversion s) b c e = balanced s b c e
  balanced (a_cast n size s) zero c e = absurd (let x : None ≡ Some c = e in cc)
  balanced (a_cast n size s) (suc b) c e = balanced s (suc b) c e
  balanced (in_brackets {u = u} s) zero c e = absurd (let x : None ≡ Some c = e in cc)
  balanced (in_brackets {u = u} s) (suc b) c e =
      let r = left-split b c u (key Close ∷ []) e in
      let d = balanced s b r.0 r.1 in
      let x : Some (suc r.0) ≡ Some c = r.2 in cc
  balanced (tighter s) b c e = balanced s b c e
  balanced (joined {u = u} {v = v} k op o s t) b c e =
      let r = left-split b c u (key k ∷ v) e in
      let d = balanced s b r.0 r.1 in
      let z = balanced t r.0 c (plain_step r.0 c (left_by (key k) r.0) v (join-plain k _ r.0 o) r.2) in cc
  balanced (a_member s {u = u} t) b c e =
      let r = left-split b c u (key In ∷ name s ∷ []) e in
      let d = balanced t b r.0 r.1 in
      let x : Some r.0 ≡ Some c = r.2 in cc
  balanced (a_tuple s {u = u} all) zero c e = absurd (let x : None ≡ Some c = e in cc)
  balanced (a_tuple s {u = u} all) (suc b) c e =
      let r = left-split b c u (key Close ∷ key In ∷ name s ∷ []) e in
      let d = balanced_all all b r.0 r.1 in
      let x : Some (suc r.0) ≡ Some c = r.2 in cc

  pub balanced_all : {p : ℕ} {ts : Exprs} {u : List Lexeme} → SpellsAll p ts u → (b c : ℕ) → left b u ≡ Some c → c ≡ b
  balanced_all (last s) b c e = balanced s b c e
  balanced_all (then {u = u} {v = v} s t) b c e =
      let r = left-split b c u (key Comma ∷ v) e in
      let d = balanced s b r.0 r.1 in
      let z = balanced_all t r.0 c r.2 in cc

mutual
  -- no more are opened than there are lexemes
  pub roomy : {l p : ℕ} {t : Expr} {u : List Lexeme} → Spells l p t u → (b : ℕ) → length u ≤ b → left b u ≡ Some b
  roomy (a_number n) b le = refl
  roomy a_true b le = refl
  roomy a_false b le = refl
  roomy (a_name s) b le = refl
  roomy (an_index s {u = u} all) b le = left-some b b u (key SquareClose ∷ []) (roomy_all all b (omega (arith, length-append u (key SquareClose ∷ []))))
  roomy (a_length s) zero le = absurd (omega arith)
  roomy (a_length s) (suc b) le = refl
  roomy (a_not s) b le = roomy s b (omega arith)
  roomy (an_inversion s) b le = roomy s b (omega arith)
  roomy (a_cast n size s) zero le = absurd (omega arith)
  roomy (a_cast n size s) (suc b) le = roomy s (suc b) (omega arith)
  roomy (in_brackets {u = u} s) zero le = absurd (omega arith)
  roomy (in_brackets {u = u} s) (suc b) le = left-some b b u (key Close ∷ []) (roomy s b (omega (arith, length-append u (key Close ∷ []))))
  roomy (tighter s) b le = roomy s b le
  roomy (joined {u = u} {v = v} k op o s t) b le =
      let len = length-append u (key k ∷ v) in
      left-some b b u (key k ∷ v) (roomy s b (omega (arith, len))) ∙ ap (option_and_then (λ c. left c v)) (join-plain k _ b o) ∙ roomy t b (omega (arith, len))
  roomy (a_member s {u = u} t) b le = left-some b b u (key In ∷ name s ∷ []) (roomy t b (omega (arith, length-append u (key In ∷ name s ∷ []))))
  roomy (a_tuple s {u = u} all) zero le = absurd (omega arith)
  roomy (a_tuple s {u = u} all) (suc b) le =
      left-some b b u (key Close ∷ key In ∷ name s ∷ []) (roomy_all all b (omega (arith, length-append u (key Close ∷ key In ∷ name s ∷ []))))

  pub roomy_all : {p : ℕ} {ts : Exprs} {u : List Lexeme} → SpellsAll p ts u → (b : ℕ) → length u ≤ b → left b u ≡ Some b
  roomy_all (last s) b le = roomy s b le
  roomy_all (then {u = u} {v = v} s t) b le =
      let len = length-append u (key Comma ∷ v) in
      left-some b b u (key Comma ∷ v) (roomy s b (omega (arith, len))) ∙ roomy_all t b (omega (arith, len))

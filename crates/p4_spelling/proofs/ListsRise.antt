-- Lists of what rises rise.
use Rattle.std.proofs.Common.{ℕ, ◌+◌, List, ◌∷◌, ◌++◌, length, arith}
use Rattle.std.proofs.lemmas.List.{length-append}
use Rattle.lex_words.specs.Seen.{Lexeme, key}
use Rattle.lex_words.specs.declared.key.Key.TheVariants.{Comma}
use Rattle.p4_spelling.specs.Lists.{SpellsList, last, then, SpellsSome, no_item, items, SpellsEach, no_more, one_more}
use Rattle.p4_spelling.specs.Rising.{EachRises}
use Rattle.p4_spelling.proofs.Wider.{Wide, wide_each}

module _ {A : Type 0} (S : (p : ℕ) → A → List Lexeme → Type 0) (R : (p q : ℕ) → A → Type 0) (wide : Wide R) (rises : (p : ℕ) (a : A) (u : List Lexeme) → S p a u → R p (p + length u) a) where
  pub list_rises : {p : ℕ} {list : List A} {u : List Lexeme} → SpellsList S p list u → EachRises R p (p + length u) list
  list_rises {p = p} (last {a = a} {u = u} s) = (p + length u, rises p a u s, omega arith)
  list_rises {p = p} (then {a = a} {rest = rest} {u = u} {v = v} s t) = (
    p + length u,
    rises p a u s,
    wide_each R wide rest (p + length u + 1) (p + length u + 1 + length v) (p + length u) (p + length (u ++ key Comma ∷ v)) (omega arith) (omega (arith, length-append u (key Comma ∷ v))) (list_rises t),
  )

  pub some_rise : {p : ℕ} {list : List A} {u : List Lexeme} → SpellsSome S p list u → EachRises R p (p + length u) list
  some_rise no_item = omega arith
  some_rise (items s) = list_rises s

  pub each_rises : {p : ℕ} {list : List A} {u : List Lexeme} → SpellsEach S p list u → EachRises R p (p + length u) list
  each_rises no_more = omega arith
  each_rises {p = p} (one_more {a = a} {rest = rest} {u = u} {v = v} s t) = (
    p + length u,
    rises p a u s,
    wide_each R wide rest (p + length u) (p + length u + length v) (p + length u) (p + length (u ++ v)) (omega arith) (omega (arith, length-append u v)) (each_rises t),
  )

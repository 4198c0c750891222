-- The turns of code that reads with a cursor: what was read before, and what is still read.
use Rattle.std.proofs.Common.{◌≡◌, ℕ, ◌+◌, ◌-◌, ◌≤◌, ◌<◌, Bool, true, false, List, [], ◌∷◌, ◌++◌, length, Ok, Err, refl, sym, ap, subst, ◌∙◌, arith}
use Rattle.std.specs.Prelude.{slice_get}
use Rattle.lex_words.specs.Seen.{Lexeme, at_key}
use Rattle.lex_words.specs.Reading.{Read, ◌>>=◌, Fails, more_of, until}
use Rattle.lex_words.specs.Moving.{Place, Reader, Moves, behind, Eats}
use Rattle.lex_words.specs.declared.halt.Halt.{Halt}
use Rattle.lex_words.specs.declared.key.Key.{Key}
use Rattle.lex_words.proofs.Loops.{Fails-bind, Fails-along, Front, then_ok, more_ends, more_goes_on, until_ends, until_goes_on}

-- ---- one turn, in which the reader is called at q; whole: what the loop reads

module _ {A B X : Type 0} (ws : List Lexeme) (reader : Reader A) (view : X → A) (whole : Read B) where
  pub turn_fails : (q r : Place) (i : ℕ) (e : Halt) (f : A × ℕ → Read B) → q.lexemes ≡ ws → q.at ≡ i → whole ≡ (reader ws (length ws + 1) i >>= f) → Moves view reader q (Err e) r → Fails e whole
  turn_fails q r i e f w a step m =
      let here : Fails e (reader ws (length ws + 1) i) = subst (λ j. Fails e (reader ws (length ws + 1) j)) a (subst (λ v. Fails e (reader v (length v + 1) q.at)) w m.gives) in
      Fails-along e _ _ step (Fails-bind e (reader ws (length ws + 1) i) f here)

  pub turn_gives : (q r : Place) (i : ℕ) (x : X) (f : A × ℕ → Read B) → q.lexemes ≡ ws → q.at ≡ i → whole ≡ (reader ws (length ws + 1) i >>= f) → Moves view reader q (Ok x) r → whole ≡ f (view x, r.at)
  turn_gives q r i x f w a step m =
      let T : Read A → Type 0 = λ y. y ≡ Ok (view x, r.at) in
      let here : T (reader ws (length ws + 1) i) = subst (λ j. T (reader ws (length ws + 1) j)) a (subst (λ v. T (reader v (length v + 1) q.at)) w m.gives) in
      step ∙ then_ok (reader ws (length ws + 1) i) f (view x, r.at) here

-- ---- loops over lists

-- The loop has read front, and still reads `rest k i` from place i on in at most k turns.
pub record Turn {A : Type 0} (ws : List Lexeme) (rest : ℕ → ℕ → Read (List A)) (whole : Read (List A)) (from : ℕ) (front : List A) (p : Place) : Type 0 where
  pub turns : ℕ
  pub enough : length ws + 1 ≤ turns + p.at
  pub reads : whole ≡ Front front (rest turns p.at)
  pub same : p.lexemes ≡ ws
  pub onward : from ≤ p.at

-- The loop is done: this was read, up to here.
pub record Done {A : Type 0} (ws : List Lexeme) (whole : Read (List A)) (from : ℕ) (front : List A) (q : Place) : Type 0 where
  pub gives : whole ≡ Ok (front, q.at)
  pub same : q.lexemes ≡ ws
  pub within : (q.at ≤ length ws) × (from ≤ q.at)

module _ {A X : Type 0} (ws : List Lexeme) (reader : Reader A) (view : X → A) (k : Key) (whole : Read (List A)) (from : ℕ) where
  abbrev item : ℕ → Read A
  item = reader ws (length ws + 1)

  -- ---- `while tokens.eat(key)`: the key and an item, as often as the key stands there

  abbrev pub MoreTurn : List A → Place → Type 0
  MoreTurn = Turn ws (λ j i. more_of ws k item j i) whole from

  -- b: whether the key was passed over
  module _ (front : List A) (p q : Place) (b : Bool) (t : MoreTurn front p) (x : Eats k p b q) where
    lexemes_are : q.lexemes ≡ ws
    lexemes_are = x.same ∙ t.same

    key_is : at_key k (slice_get ws p.at) ≡ b
    key_is = ap (λ v. at_key k (slice_get v p.at)) (sym t.same) ∙ sym x.value

    at_is : (c : Bool) → b ≡ c → q.at ≡ behind c p.at
    at_is c is = x.after ∙ ap (λ z. behind z p.at) is

    module _ (is : b ≡ true) where
      step : whole ≡ (item (p.at + 1) >>= λ y. Front (front ++ y.0 ∷ []) (more_of ws k item (t.turns - 1) y.1))
      step =
          let a : q.at ≡ p.at + 1 = at_is true is in
          t.reads ∙ more_goes_on ws item front k t.turns p.at (omega (arith, t.enough, x.inside, ap length t.same, a)) (key_is ∙ is)

      pub more_fails : (r : Place) (e : Halt) → Moves view reader q (Err e) r → Fails e whole
      more_fails r e m = turn_fails ws reader view whole q r (p.at + 1) e _ lexemes_are (at_is true is) step m

      pub more_next : (r : Place) (y : X) (others : List A) → Moves view reader q (Ok y) r → others ≡ front ++ view y ∷ [] → MoreTurn others r
      more_next r y others m e =
          let a : q.at ≡ p.at + 1 = at_is true is in
          let g = turn_gives ws reader view whole q r (p.at + 1) y _ lexemes_are a step m in
          record {
            turns = t.turns - 1;
            enough = omega (arith, t.enough, m.within.1, a);
            reads = g ∙ ap (λ z. Front z (more_of ws k item (t.turns - 1) r.at)) (sym e);
            same = m.same ∙ lexemes_are;
            onward = omega (arith, t.onward, m.within.1, a);
          }

    pub more_done : b ≡ false → Done ws whole from front q
    more_done is =
        let a : q.at ≡ p.at = at_is false is in
        record {
          gives = t.reads ∙ more_ends ws item front k t.turns p.at (omega (arith, t.enough, x.inside, ap length t.same, a)) (key_is ∙ is) ∙ ap (λ i. Ok (front, i)) (sym a);
          same = lexemes_are;
          within = (omega (arith, x.inside, ap length t.same), omega (arith, t.onward, a));
        }

  -- ---- `while !tokens.is(key)`: items up to the key

  abbrev pub UntilTurn : List A → Place → Type 0
  UntilTurn = Turn ws (λ j i. until ws k item j i) whole from

  -- b: whether the key stands there
  module _ (front : List A) (p : Place) (b : Bool) (t : UntilTurn front p) (value : b ≡ at_key k (slice_get p.lexemes p.at)) (inside : p.at ≤ length p.lexemes) where
    key_was : at_key k (slice_get ws p.at) ≡ b
    key_was = ap (λ v. at_key k (slice_get v p.at)) (sym t.same) ∙ sym value

    some : 0 < t.turns
    some = omega (arith, t.enough, inside, ap length t.same)

    module _ (is : b ≡ false) where
      until_step : whole ≡ (item p.at >>= λ y. Front (front ++ y.0 ∷ []) (until ws k item (t.turns - 1) y.1))
      until_step = t.reads ∙ until_goes_on ws item front k t.turns p.at some (key_was ∙ is)

      pub until_fails : (r : Place) (e : Halt) → Moves view reader p (Err e) r → Fails e whole
      until_fails r e m = turn_fails ws reader view whole p r p.at e _ t.same refl until_step m

      pub until_next : (r : Place) (y : X) (others : List A) → Moves view reader p (Ok y) r → others ≡ front ++ view y ∷ [] → UntilTurn others r
      until_next r y others m e =
          let g = turn_gives ws reader view whole p r p.at y _ t.same refl until_step m in
          record {
            turns = t.turns - 1;
            enough = omega (arith, t.enough, m.within.1);
            reads = g ∙ ap (λ z. Front z (until ws k item (t.turns - 1) r.at)) (sym e);
            same = m.same ∙ t.same;
            onward = omega (arith, t.onward, m.within.1);
          }

    pub until_done : b ≡ true → Done ws whole from front p
    until_done is = record {
      gives = t.reads ∙ until_ends ws item front k t.turns p.at some (key_was ∙ is);
      same = t.same;
      within = (omega (arith, inside, ap length t.same), t.onward);
    }

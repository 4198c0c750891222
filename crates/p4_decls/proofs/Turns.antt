-- The turns of the loops: what was read before, and what is still read.
use Rattle.std.proofs.Common.{◌≡◌, ℕ, zero, suc, ◌+◌, ◌-◌, ◌<◌, ◌≤◌, Bool, true, false, cond, List, [], ◌∷◌, ◌++◌, length, Option, Some, None, Ok, Err, refl, sym, ap, ◌∙◌, arith}
use Rattle.std.proofs.lemmas.List.{append-nil}
use Rattle.std.proofs.lemmas.Option.{slice_get_within}
use Rattle.std.specs.Prelude.{slice_get}
use Rattle.lex_words.specs.declared.key.Key.TheVariants.{BraceClose, Comma}
use Rattle.lex_words.specs.Seen.{Lexeme, at_key, at_include}
use Rattle.lex_words.specs.Reading.{Read, ◌>>=◌, Fails, look, more_of}
use Rattle.lex_words.specs.Moving.{Place, Reader, Moves}
use Rattle.lex_words.specs.declared.halt.Halt.{Halt}
use Rattle.lex_words.proofs.Loops.{Front, Front-bind, Front-cons, same_bind}
use Rattle.lex_words.proofs.Turns.{turn_fails, turn_gives, Turn, Done}
use Rattle.p4_tree.specs.Tree.{Local}
use Rattle.p4_decls.specs.Repeating.{each_at, more_at}
use Rattle.p4_decls.specs.Tables.{Props, prop_at, props_at}
use Rattle.p4_decls.specs.Controls.{local_at, goes_on, locals_at}
use Rattle.p4_decls.specs.Programs.{includes_at}

module _ (ws : List Lexeme) {A : Type 0} (stop : Option Lexeme → Bool) (item : ℕ → Read A) where
  each-suc : (n i : ℕ) → each_at ws stop item (suc n) i ≡ cond (stop (slice_get ws i)) (Ok ([], i)) (item i >>= λ x. each_at ws stop item n x.1 >>= λ y. Ok (x.0 ∷ y.0, y.1))
  unfolding each_at look
  each-suc n i = refl

  each_ends : (front : List A) (n i : ℕ) → 0 < n → stop (slice_get ws i) ≡ true → Front front (each_at ws stop item n i) ≡ Ok (front, i)
  each_ends front zero i lt e = absurd (omega arith)
  each_ends front (suc n) i lt e = ap (Front front) (each-suc n i) ∙ rw e (ap (λ (x : List A). Ok (x, i)) (append-nil front))

  each_goes_on : (front : List A) (n i : ℕ) → 0 < n → stop (slice_get ws i) ≡ false
      → Front front (each_at ws stop item n i) ≡ (item i >>= λ x. Front (front ++ x.0 ∷ []) (each_at ws stop item (n - 1) x.1))
  each_goes_on front zero i lt e = absurd (omega arith)
  each_goes_on front (suc n) i lt e =
      let j : suc n - 1 ≡ n = omega arith in
      ap (Front front) (each-suc n i)
      ∙ rw (e, j) (Front-bind front (item i) (λ x. each_at ws stop item n x.1 >>= λ y. Ok (x.0 ∷ y.0, y.1)) ∙ same_bind (item i) _ _ (λ x. Front-cons front x.0 (each_at ws stop item n x.1)))

module _ {A X : Type 0} (ws : List Lexeme) (reader : Reader A) (view : X → A) (stop : Option Lexeme → Bool) (whole : Read (List A)) (from : ℕ) where
  abbrev item : ℕ → Read A
  item = reader ws (length ws + 1)

  abbrev pub EachTurn : List A → Place → Type 0
  EachTurn = Turn ws (λ j i. each_at ws stop item j i) whole from

  -- b: whether the items end there
  module _ (front : List A) (p : Place) (b : Bool) (t : EachTurn front p) (value : b ≡ stop (slice_get p.lexemes p.at)) (inside : p.at ≤ length p.lexemes) where
    stop_was : stop (slice_get ws p.at) ≡ b
    stop_was = ap (λ v. stop (slice_get v p.at)) (sym t.same) ∙ sym value

    some : 0 < t.turns
    some = omega (arith, t.enough, inside, ap length t.same)

    module _ (is : b ≡ false) where
      step : whole ≡ (item p.at >>= λ y. Front (front ++ y.0 ∷ []) (each_at ws stop item (t.turns - 1) y.1))
      step = t.reads ∙ each_goes_on ws stop item front t.turns p.at some (stop_was ∙ is)

      pub each_fails : (r : Place) (e : Halt) → Moves view reader p (Err e) r → Fails e whole
      each_fails r e m = turn_fails ws reader view whole p r p.at e _ t.same refl step m

      pub each_next : (r : Place) (y : X) (others : List A) → Moves view reader p (Ok y) r → others ≡ front ++ view y ∷ [] → EachTurn others r
      each_next r y others m e =
          let g = turn_gives ws reader view whole p r p.at y _ t.same refl step m in
          record {
            turns = t.turns - 1;
            enough = omega (arith, t.enough, m.within.1);
            reads = g ∙ ap (λ z. Front z (each_at ws stop item (t.turns - 1) r.at)) (sym e);
            same = m.same ∙ t.same;
            onward = omega (arith, t.onward, m.within.1);
          }

    pub each_done : b ≡ true → Done ws whole from front p
    each_done is = record {
      gives = t.reads ∙ each_ends ws stop item front t.turns p.at some (stop_was ∙ is);
      same = t.same;
      within = (omega (arith, inside, ap length t.same), t.onward);
    }

pub more_front : (ws : List Lexeme) {A : Type 0} (item : ℕ → Read A) (n : ℕ) (a : A) (i : ℕ) → more_at ws item n a i ≡ Front (a ∷ []) (more_of ws Comma item n i)
unfolding more_at
more_front ws item n a i = refl

-- ---- the properties of a table

module _ (ws : List Lexeme) (n b h : ℕ) where
  pub props_end : (j : ℕ) (s : Props) (i : ℕ) → 0 < j → at_key BraceClose (slice_get ws i) ≡ true → props_at ws n b h j s i ≡ Ok (s, i)
  unfolding props_at
  props_end zero s i lt e = absurd (omega arith)
  props_end (suc j) s i lt e = rw e refl

  pub props_go_on : (j : ℕ) (s : Props) (i : ℕ) → 0 < j → at_key BraceClose (slice_get ws i) ≡ false → props_at ws n b h j s i ≡ (prop_at ws n b h s i >>= λ x. props_at ws n b h (j - 1) x.0 x.1)
  unfolding props_at
  props_go_on zero s i lt e = absurd (omega arith)
  props_go_on (suc j) s i lt e = let d : suc j - 1 ≡ j = omega arith in rw (e, d) refl

  -- ---- the declarations of a control

  pub locals_go_on : (j : ℕ) (ds : List Local) (i : ℕ) → 0 < j → locals_at ws n b h j ds i ≡ (local_at ws n b h i >>= λ d. goes_on ws n b h ds d.1 d.0 (λ es. locals_at ws n b h (j - 1) es d.1))
  unfolding locals_at
  locals_go_on zero ds i lt = absurd (omega arith)
  locals_go_on (suc j) ds i lt = let d : suc j - 1 ≡ j = omega arith in rw d refl

  -- ---- inclusions

  pub includes_end : (j i : ℕ) → 0 < j → at_include (slice_get ws i) ≡ false → includes_at ws n b h j i ≡ Ok (tt, i)
  unfolding includes_at
  includes_end zero i lt e = absurd (omega arith)
  includes_end (suc j) i lt e = rw e refl

  pub includes_go_on : (j i : ℕ) → 0 < j → at_include (slice_get ws i) ≡ true → includes_at ws n b h j i ≡ includes_at ws n b h (j - 1) (i + 1)
  unfolding includes_at
  includes_go_on zero i lt e = absurd (omega arith)
  includes_go_on (suc j) i lt e = let d : suc j - 1 ≡ j = omega arith in rw (e, d) refl

-- an inclusion stands at a place of the list
pub include_inside : (ws : List Lexeme) (i : ℕ) → at_include (slice_get ws i) ≡ true → i < length ws
include_inside ws i e = go (slice_get ws i) refl e
  where
    go : (o : Option Lexeme) → slice_get ws i ≡ o → at_include o ≡ true → i < length ws
    go None is f = absurd cc
    go (Some w) is f = slice_get_within ws i w is

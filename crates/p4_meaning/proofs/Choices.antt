-- One walk over the entries finds the choice, and two choices have one rank.
use Rattle.std.proofs.Common.{◌≡◌, zero, suc, ◌≤◌, List, [], ◌∷◌, Bool, true, false, cond, Option, Some, None, refl, subst, arith}
use Rattle.std.proofs.lemmas.Bool.Decides.{nat_tests}
use Rattle.std.specs.Prelude.{nat_lt}
use Rattle.std.specs.List.{AllByRecursion, Contains}
use Rattle.bit_values.specs.Bits.{Word}
use Rattle.p4_meaning.specs.Choice.{Entry, fits_keys, rank_of, IsChosen, IsChoice, higher, choice_of}

-- an entry is also one of more entries
behind : (e f : Entry) (es : List Entry) → Contains es f → Contains (e ∷ es) f
behind e f es (k, lt, is) = (suc k, omega arith, is)

first : (e : Entry) (es : List Entry) → Contains (e ∷ es) e
first e es = (0, omega arith, refl)

module _ (t : Bool) (ks : List Word) where
  -- what is no higher than one entry is no higher than a higher one
  lower : (e f : Entry) (es : List Entry) → rank_of t e ≤ rank_of t f → AllByRecursion (λ g. fits_keys g.keys ks ≡ true → rank_of t g ≤ rank_of t e) es → AllByRecursion (λ g. fits_keys g.keys ks ≡ true → rank_of t g ≤ rank_of t f) es
  lower e f [] le h = tt
  lower e f (g ∷ gs) le h = (λ fit. let here : rank_of t g ≤ rank_of t e = h.0 fit in omega arith, lower e f gs le h.1)

  -- where nothing fits
  none_fits : (e : Entry) (es : List Entry) → AllByRecursion (λ g. fits_keys g.keys ks ≡ false) es → AllByRecursion (λ g. fits_keys g.keys ks ≡ true → rank_of t g ≤ rank_of t e) es
  none_fits e [] h = tt
  none_fits e (g ∷ gs) h = (λ fit. absurd (cc (h.0, fit)), none_fits e gs h.1)

  -- the first entry fits, and so may one of the others
  with_first : (e : Entry) (es : List Entry) (o : Option Entry) → fits_keys e.keys ks ≡ true → IsChoice t es ks o → IsChosen t (e ∷ es) ks (higher t e o)
  with_first e es None fit h = record { listed = first e es; fits = fit; highest = (λ i. omega arith, none_fits e es h) }
  with_first e es (Some f) fit h = go (nat_lt (rank_of t e) (rank_of t f)) refl
    where
      go : (b : Bool) → nat_lt (rank_of t e) (rank_of t f) ≡ b → IsChosen t (e ∷ es) ks (cond b f e)
      go true lt =
          let le : rank_of t e ≤ rank_of t f = grind (arith, nat_tests, lt) in
          record { listed = behind e f es h.listed; fits = h.fits; highest = (λ i. le, h.highest) }
      go false lt =
          let le : rank_of t f ≤ rank_of t e = grind (arith, nat_tests, lt) in
          record { listed = first e es; fits = fit; highest = (λ i. omega arith, lower f e es le h.highest) }

  -- the first entry does not fit
  without_first : (e : Entry) (es : List Entry) (o : Option Entry) → fits_keys e.keys ks ≡ false → IsChoice t es ks o → IsChoice t (e ∷ es) ks o
  without_first e es None not_fit h = (not_fit, h)
  without_first e es (Some f) not_fit h = record { listed = behind e f es h.listed; fits = h.fits; highest = (λ i. absurd (cc (not_fit, i)), h.highest) }

  pub choice_is : (es : List Entry) → IsChoice t es ks (choice_of t es ks)
  choice_is [] = tt
  choice_is (e ∷ es) = go (choice_is es) (fits_keys e.keys ks) refl
    where
      go : IsChoice t es ks (choice_of t es ks) → (b : Bool) → fits_keys e.keys ks ≡ b → IsChoice t (e ∷ es) ks (cond b (Some (higher t e (choice_of t es ks))) (choice_of t es ks))
      go rest true fit = with_first e es (choice_of t es ks) fit rest
      go rest false not_fit = without_first e es (choice_of t es ks) not_fit rest

  -- what holds of all entries holds of one that is listed
  pub below : (P : Entry → Type 0) (es : List Entry) (f : Entry) → Contains es f → AllByRecursion P es → P f
  below P [] f (k, lt, is) h = absurd (omega arith)
  below P (e ∷ es) f (zero, lt, is) h = subst P is h.0
  below P (e ∷ es) f (suc k, lt, is) h = below P es f (k, omega arith, is) h.1

  pub one_rank : (es : List Entry) (e f : Entry) → IsChosen t es ks e → IsChosen t es ks f → rank_of t e ≡ rank_of t f
  one_rank es e f h k =
      let up : rank_of t e ≤ rank_of t f = below (λ g. fits_keys g.keys ks ≡ true → rank_of t g ≤ rank_of t f) es e h.listed k.highest h.fits in
      let down : rank_of t f ≤ rank_of t e = below (λ g. fits_keys g.keys ks ≡ true → rank_of t g ≤ rank_of t e) es f k.listed h.highest k.fits in
      omega arith

-- What is found by an index of signs or of priorities is what one walk over all entries finds.
use Rattle.std.proofs.Common.{◌≡◌, ℕ, zero, suc, ◌<◌, ◌≤◌, ◌⊎◌, inl, inr, List, [], ◌∷◌, get_or, length, Bool, true, false, Option, Some, None, refl, sym, ap, subst, ◌∙◌, arith}
use Rattle.std.specs.Prelude.{nat_eq, nat_lt, if◌then◌else◌}
use Rattle.std.specs.List.{Contains}
use Rattle.std.proofs.lemmas.Bool.{eqb-true}
use Rattle.bit_values.specs.Bits.{Word}
use Rattle.p4_meaning.specs.Choice.{fits_keys}
use Rattle.table_entries.specs.Entries.{Entry}
use Rattle.p4_tables.specs.Kept.{clash, AreApart}
use Rattle.table_entries.specs.Walk.{rank_in, higher_in, found_in}
use Rattle.p4_tables.proofs.Unique.{one_of}

contains_behind : (x : Entry) (xs : List Entry) (e : Entry) → Contains xs e → Contains (x ∷ xs) e
contains_behind x xs e (k, lt, is) = (suc k, omega arith, is)

contains_first : (x : Entry) (xs : List Entry) → Contains (x ∷ xs) x
contains_first x xs = (0, omega arith, refl)

-- an entry at a place is one of the list
pub contains_at : (xs : List Entry) (i : ℕ) (d : Entry) → i < length xs → Contains xs (get_or xs i d)
contains_at [] i d lt = absurd (omega arith)
contains_at (x ∷ xs) zero d lt = contains_first x xs
contains_at (x ∷ xs) (suc i) d lt = contains_behind x xs (get_or xs i d) (contains_at xs i d (omega arith))

module _ (t : Bool) (ws : List Word) where
  abbrev Fits : Entry → Type 0
  Fits e = fits_keys e.keys ws ≡ true

  -- what is found is one of the entries, and fits
  found_one : (es : List Entry) (e : Entry) → found_in t es ws ≡ Some e → Contains es e × Fits e
  found_one [] e is = absurd (cc is)
  found_one (x ∷ xs) e is = go (λ g at. found_one xs g at) (fits_keys x.keys ws) refl (found_in t xs ws) refl is
    where
      go : ((g : Entry) → found_in t xs ws ≡ Some g → Contains xs g × Fits g) → (b : Bool) → fits_keys x.keys ws ≡ b → (o : Option Entry) → found_in t xs ws ≡ o → (if b then Some (higher_in t x o) else o) ≡ Some e → Contains (x ∷ xs) e × Fits e
      go rest true fx None at eq = subst (λ g. Contains (x ∷ xs) g × Fits g) {x = x} (cc eq) (contains_first x xs, fx)
      go rest true fx (Some g) at eq = higher (nat_lt (rank_in t x) (rank_in t g)) (cc eq)
        where
          higher : (b : Bool) → (if b then g else x) ≡ e → Contains (x ∷ xs) e × Fits e
          higher true h = (let r = rest g at in subst (λ f. Contains (x ∷ xs) f × Fits f) h (contains_behind x xs g r.0, r.1))
          higher false h = subst (λ f. Contains (x ∷ xs) f × Fits f) h (contains_first x xs, fx)
      go rest false fx None at eq = absurd (cc eq)
      go rest false fx (Some g) at eq = (let r = rest g at in subst (λ f. Contains (x ∷ xs) f × Fits f) {x = g} (cc eq) (contains_behind x xs g r.0, r.1))

  -- none fits, and none is found
  pub no_found : (es : List Entry) → ((e : Entry) → Contains es e → Fits e → ⊥) → found_in t es ws ≡ None
  no_found [] none = refl
  no_found (x ∷ xs) none = go (fits_keys x.keys ws) refl (no_found xs (λ e c. none e (contains_behind x xs e c)))
    where
      go : (b : Bool) → fits_keys x.keys ws ≡ b → found_in t xs ws ≡ None → (if b then Some (higher_in t x (found_in t xs ws)) else found_in t xs ws) ≡ None
      go true fx rest = absurd (none x (contains_first x xs) fx)
      go false fx rest = rest

  abbrev IsBelow : Entry → Entry → Type 0
  IsBelow e f = (rank_in t f < rank_in t e) ⊎ (f ≡ e)

  not_lower : (e f : Entry) → IsBelow e f → nat_lt (rank_in t e) (rank_in t f) ≡ false
  not_lower e f (inl lt) = grind (arith, lt)
  not_lower e f (inr is) = subst (λ g. nat_lt (rank_in t e) (rank_in t g) ≡ false) (sym is) (grind arith)

  over_rest : (e : Entry) (o : Option Entry) → ((g : Entry) → o ≡ Some g → IsBelow e g) → Some (higher_in t e o) ≡ Some e
  over_rest e None h = refl
  over_rest e (Some g) h = ap (λ (b : Bool). Some (if b then g else e)) (not_lower e g (h g refl))

  under : (x e : Entry) → IsBelow e x → Some (higher_in t x (Some e)) ≡ Some e
  under x e (inl lt) = (let one : nat_lt (rank_in t x) (rank_in t e) ≡ true = grind (arith, lt) in ap (λ (b : Bool). Some (if b then e else x)) one)
  under x e (inr is) = go (nat_lt (rank_in t x) (rank_in t e))
    where
      go : (b : Bool) → Some (if b then e else x) ≡ Some e
      go true = refl
      go false = ap Some is

  -- an entry that fits is found where all others that fit have a lower rank
  top_found : (es : List Entry) (e : Entry) → Contains es e → Fits e → ((f : Entry) → Contains es f → Fits f → IsBelow e f) → found_in t es ws ≡ Some e
  top_found [] e (k, lt, is) fe top = absurd (omega arith)
  top_found (x ∷ xs) e (zero, lt, is) fe top =
      let here : fits_keys x.keys ws ≡ true = subst Fits (sym is) fe in
      ap (λ (b : Bool). if b then Some (higher_in t x (found_in t xs ws)) else found_in t xs ws) here
      ∙ subst (λ (g : Entry). Some (higher_in t g (found_in t xs ws)) ≡ Some e) (sym is) (over_rest e (found_in t xs ws) (λ g at. let r = found_one xs g at in top g (contains_behind x xs g r.0) r.1))
  top_found (x ∷ xs) e (suc k, lt, is) fe top = go (fits_keys x.keys ws) refl (top_found xs e (k, omega arith, is) fe (λ f c. top f (contains_behind x xs f c)))
    where
      go : (b : Bool) → fits_keys x.keys ws ≡ b → found_in t xs ws ≡ Some e → (if b then Some (higher_in t x (found_in t xs ws)) else found_in t xs ws) ≡ Some e
      go true fx rest = ap (λ o. Some (higher_in t x o)) rest ∙ under x e (top x (contains_first x xs) fx)
      go false fx rest = rest

  -- so is one of the highest rank, where entries that fit with one rank clash
  pub highest_found : (es : List Entry) (e : Entry) → AreApart t es → ((f g : Entry) → Contains es f → Contains es g → Fits f → Fits g → rank_in t f ≡ rank_in t g → clash t f g ≡ true) → Contains es e → Fits e → ((f : Entry) → Contains es f → Fits f → rank_in t f ≤ rank_in t e) → found_in t es ws ≡ Some e
  highest_found es e apart clashes c fe highest = top_found es e c fe below
    where
      below : (f : Entry) → Contains es f → Fits f → IsBelow e f
      below f cf ff = by (nat_eq (rank_in t f) (rank_in t e)) refl
        where
          by : (b : Bool) → nat_eq (rank_in t f) (rank_in t e) ≡ b → IsBelow e f
          by true h =
              let same : rank_in t f ≡ rank_in t e = eqb-true _ _ h in
              inr (one_of t es f e apart cf c (clashes f e cf c ff fe same) (clashes e f c cf fe ff (sym same)))
          by false h = (let le = highest f cf ff in inl (grind (arith, le, h)))

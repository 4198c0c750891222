-- What an index of priorities tells from the highest on is what one walk over all entries finds.
use Rattle.std.proofs.Common.{◌≡◌, ℕ, zero, suc, ◌<◌, ◌≤◌, ◌⊎◌, inl, inr, List, [], ◌∷◌, get_or, length, Bool, true, false, cond, Option, Some, None, refl, sym, ap, subst, ◌∙◌, arith}
use Rattle.std.specs.Prelude.{nat_eq, if◌then◌else◌, slice_get}
use Rattle.std.specs.List.{AllByRecursion, Contains}
use Rattle.std.specs.List.Sorted.{IsStrictlySortedBy}
use Rattle.std.specs.Map.{lookup, keys_of}
use Rattle.std.specs.Ordering.{nat_cmp, is_eq}
use Rattle.std.specs.declared.cmp.Ordering.{Ordering}
use Rattle.std.specs.declared.cmp.Ordering.TheVariants.{Less}
use Rattle.std.specs.BTreeMap as tree
use Rattle.std.specs.declared.cmp.Reverse.{Reverse}
use Rattle.std.proofs.lemmas.Bool.{eqb-true, eq-eqb}
use Rattle.std.proofs.lemmas.Cmp.{ranked}
use Rattle.std.proofs.lemmas.Map.Keys.{sorted_head, sorted_tail}
use Rattle.bit_values.specs.Bits.{Word}
use Rattle.p4_meaning.specs.Choice.{fits_keys}
use Rattle.table_entries.specs.Entries.{Entry}
use Rattle.p4_tables.specs.State.{Held}
use Rattle.p4_tables.specs.Kept.{AreApart, IsSound}
use Rattle.table_entries.specs.Walk.{found_in}
use Rattle.table_entries.specs.Index.{place_in, has_rank, priority_place, fit_or, first_fit}
use Rattle.table_entries.proofs.Noted.{stands, nowhere, equal_ranks}
use Rattle.p4_tables.proofs.Ranked.{contains_at, highest_found, no_found}
use Rattle.p4_tables.proofs.Unique.{no_mask, of_one, one_of}

abbrev cmp : Reverse ℕ → Reverse ℕ → Ordering
cmp x y = nat_cmp y.0 x.0

-- an entry of a map is one of them
abbrev IsOne : Reverse ℕ → ℕ → List (Reverse ℕ × ℕ) → Type 0
IsOne r i [] = ⊥
IsOne r i (x ∷ xs) = ((x.0 ≡ r) × (x.1 ≡ i)) ⊎ IsOne r i xs

keys_below : (r : Reverse ℕ) (xs : List (Reverse ℕ × ℕ)) (q : Reverse ℕ) (i : ℕ) → AllByRecursion (λ y. cmp r y ≡ Less) (keys_of xs) → IsOne q i xs → q.0 < r.0
keys_below r [] q i h one = absurd one
keys_below r (x ∷ xs) q i h (inl is) = subst (λ (k : Reverse ℕ). k.0 < r.0) is.0 (ranked x.0.0 r.0 Less (sym h.0))
keys_below r (x ∷ xs) q i h (inr one) = keys_below r xs q i h.1 one

-- what is looked up is there
lookup_one : (p : ℕ) (xs : List (Reverse ℕ × ℕ)) (i : ℕ) → lookup (λ k. is_eq (nat_cmp k.0 p)) xs ≡ Some i → IsOne (record { 0 = p }) i xs
lookup_one p [] i is = absurd (cc is)
lookup_one p (x ∷ xs) i is = go (λ h. lookup_one p xs i h) (is_eq (nat_cmp x.0.0 p)) refl is
  where
    go : (lookup (λ k. is_eq (nat_cmp k.0 p)) xs ≡ Some i → IsOne (record { 0 = p }) i xs) → (b : Bool) → is_eq (nat_cmp x.0.0 p) ≡ b → cond b (Some x.1) (lookup (λ k. is_eq (nat_cmp k.0 p)) xs) ≡ Some i → ((x.0 ≡ record { 0 = p }) × (x.1 ≡ i)) ⊎ IsOne (record { 0 = p }) i xs
    go rest true at eq = inl (ap (λ (n : ℕ). record { 0 = n }) (eqb-true x.0.0 p (sym (equal_ranks x.0.0 p) ∙ at)), cc eq)
    go rest false at eq = inr (rest eq)

-- what is there is looked up
one_lookup : (r : Reverse ℕ) (xs : List (Reverse ℕ × ℕ)) (i : ℕ) → IsStrictlySortedBy cmp (keys_of xs) → IsOne r i xs → lookup (λ k. is_eq (nat_cmp k.0 r.0)) xs ≡ Some i
one_lookup r [] i sorted one = absurd one
one_lookup r (x ∷ xs) i sorted (inl is) =
    let at : is_eq (nat_cmp x.0.0 r.0) ≡ true = equal_ranks x.0.0 r.0 ∙ eq-eqb x.0.0 r.0 (ap (λ (k : Reverse ℕ). k.0) is.0) in
    ap (λ (b : Bool). cond b (Some x.1) (lookup (λ k. is_eq (nat_cmp k.0 r.0)) xs)) at ∙ ap Some is.1
one_lookup r (x ∷ xs) i sorted (inr one) =
    let lt : r.0 < x.0.0 = keys_below x.0 xs r i (sorted_head cmp x.0 (keys_of xs) sorted) one in
    let other : nat_eq x.0.0 r.0 ≡ false = grind (arith, lt) in
    ap (λ (b : Bool). cond b (Some x.1) (lookup (λ k. is_eq (nat_cmp k.0 r.0)) xs)) (equal_ranks x.0.0 r.0 ∙ other)
    ∙ one_lookup r xs i (sorted_tail cmp x.0 (keys_of xs) sorted) one

some_same : (e f : Entry) → Some e ≡ Some f → e ≡ f
some_same e f is = cc is

-- an entry that is there is read
read_there : (es : List Entry) (i : ℕ) (d : Entry) → i < length es → slice_get es i ≡ Some (get_or es i d)
read_there [] i d lt = absurd (omega arith)
read_there (e ∷ es) zero d lt = refl
read_there (e ∷ es) (suc i) d lt = read_there es i d (omega arith)

read_one : (es : List Entry) (i : ℕ) (e : Entry) → slice_get es i ≡ Some e → Contains es e
read_one [] i e is = absurd (cc is)
read_one (x ∷ xs) zero e is = (0, omega arith, cc is)
read_one (x ∷ xs) (suc i) e is = behind (read_one xs i e is)
  where
    behind : Contains xs e → Contains (x ∷ xs) e
    behind (k, lt, at) = (suc k, omega arith, at)

module _ (es : List Entry) (ws : List Word) where
  abbrev Fits : Entry → Type 0
  Fits e = fits_keys e.keys ws ≡ true

  -- places of entries of these priorities
  abbrev ArePlaces : List (Reverse ℕ × ℕ) → Type 0
  ArePlaces xs = (r : Reverse ℕ) (i : ℕ) (g : Entry) → IsOne r i xs → slice_get es i ≡ Some g → g.priority ≡ r.0

  -- what is found is an entry that fits
  fit_one : (xs : List (Reverse ℕ × ℕ)) (e : Entry) → first_fit es ws xs ≡ Some e → Contains es e × Fits e
  fit_one [] e is = absurd (cc is)
  fit_one (x ∷ xs) e is = go (λ h. fit_one xs e h) (slice_get es x.1) refl is
    where
      go : (first_fit es ws xs ≡ Some e → Contains es e × Fits e) → (o : Option Entry) → slice_get es x.1 ≡ o → fit_or ws o (first_fit es ws xs) ≡ Some e → Contains es e × Fits e
      go rest None at eq = rest eq
      go rest (Some g) at eq = by (fits_keys g.keys ws) refl eq
        where
          by : (b : Bool) → fits_keys g.keys ws ≡ b → (if b then Some g else first_fit es ws xs) ≡ Some e → Contains es e × Fits e
          by true fg h = (subst (Contains es) (some_same g e h) (read_one es x.1 g at), subst Fits (some_same g e h) fg)
          by false fg h = rest h

  -- no entry that fits and is told of has a higher priority
  fit_highest : (xs : List (Reverse ℕ × ℕ)) (e : Entry) → IsStrictlySortedBy cmp (keys_of xs) → ArePlaces xs → first_fit es ws xs ≡ Some e → (f : Entry) (r : Reverse ℕ) (i : ℕ) → IsOne r i xs → slice_get es i ≡ Some f → Fits f → f.priority ≤ e.priority
  fit_highest [] e sorted places is f r i one at ff = absurd one
  fit_highest (x ∷ xs) e sorted places is f r i one at ff = go (λ h j k. fit_highest xs e (sorted_tail cmp x.0 (keys_of xs) sorted) (λ q n g o a. places q n g (inr o) a) h f r i k at ff) (slice_get es x.1) refl is one
    where
      go : (first_fit es ws xs ≡ Some e → ℕ → IsOne r i xs → f.priority ≤ e.priority) → (o : Option Entry) → slice_get es x.1 ≡ o → fit_or ws o (first_fit es ws xs) ≡ Some e → IsOne r i (x ∷ xs) → f.priority ≤ e.priority
      go rest None none eq (inl is) = absurd (cc (sym none ∙ ap (slice_get es) is.1 ∙ at))
      go rest None none eq (inr k) = rest eq 0 k
      go rest (Some g) there eq k = by (fits_keys g.keys ws) refl eq k
        where
          by : (b : Bool) → fits_keys g.keys ws ≡ b → (if b then Some g else first_fit es ws xs) ≡ Some e → IsOne r i (x ∷ xs) → f.priority ≤ e.priority
          by true fg h (inl is) =
              let same : Some g ≡ Some f = sym there ∙ ap (slice_get es) is.1 ∙ at in
              subst (λ (n : Entry). f.priority ≤ n.priority) (some_same g e h) (subst (λ (n : Entry). n.priority ≤ g.priority) (some_same g f same) (omega arith))
          by true fg h (inr j) =
              let lt : r.0 < x.0.0 = keys_below x.0 xs r i (sorted_head cmp x.0 (keys_of xs) sorted) j in
              let here : g.priority ≡ x.0.0 = places x.0 x.1 g (inl (refl, refl)) there in
              let other : f.priority ≡ r.0 = places r i f (inr j) at in
              let le : f.priority ≤ g.priority = omega (arith, lt, here, other) in
              subst (λ (n : Entry). f.priority ≤ n.priority) (some_same g e h) le
          by false fg h (inl is) =
              let same : Some g ≡ Some f = sym there ∙ ap (slice_get es) is.1 ∙ at in
              absurd (no_mask (fits_keys g.keys ws) (subst (λ (n : Entry). fits_keys n.keys ws ≡ true) (some_same f g (sym same)) ff) fg)
          by false fg h (inr j) = rest h 0 j

  -- where none is found, none that is told of fits
  fit_none : (xs : List (Reverse ℕ × ℕ)) → first_fit es ws xs ≡ None → (f : Entry) (r : Reverse ℕ) (i : ℕ) → IsOne r i xs → slice_get es i ≡ Some f → Fits f → ⊥
  fit_none [] is f r i one at ff = one
  fit_none (x ∷ xs) is f r i one at ff = go (λ h k. fit_none xs h f r i k at ff) (slice_get es x.1) refl is one
    where
      go : (first_fit es ws xs ≡ None → IsOne r i xs → ⊥) → (o : Option Entry) → slice_get es x.1 ≡ o → fit_or ws o (first_fit es ws xs) ≡ None → IsOne r i (x ∷ xs) → ⊥
      go rest None none eq (inl is) = cc (sym none ∙ ap (slice_get es) is.1 ∙ at)
      go rest None none eq (inr k) = rest eq k
      go rest (Some g) there eq k = by (fits_keys g.keys ws) refl eq k
        where
          by : (b : Bool) → fits_keys g.keys ws ≡ b → (if b then Some g else first_fit es ws xs) ≡ None → IsOne r i (x ∷ xs) → ⊥
          by true fg h j = cc h
          by false fg h (inl is) =
              let same : Some g ≡ Some f = sym there ∙ ap (slice_get es) is.1 ∙ at in
              no_mask (fits_keys g.keys ws) (subst (λ (n : Entry). fits_keys n.keys ws ≡ true) (some_same f g (sym same)) ff) fg
          by false fg h (inr j) = rest h j

-- ---- what is found

module _ (h : Held) (ws : List Word) (sound : IsSound h) (apart : AreApart true h.listed) (m : tree.BTreeMap (Reverse ℕ) ℕ) (sorted : tree.IsOrdered cmp m) (tells : (p : ℕ) → priority_place m p ≡ place_in (has_rank p) h.listed) where
  places : ArePlaces h.listed ws m.entries
  places r i g one at =
      let s = stands (has_rank r.0) h.listed i g (sym (tells r.0) ∙ one_lookup r m.entries i sorted one) in
      let same : Some (get_or h.listed i g) ≡ Some g = sym (read_there h.listed i g s.0) ∙ at in
      subst (λ (e : Entry). e.priority ≡ r.0) (some_same (get_or h.listed i g) g same) (sym (eqb-true r.0 _ s.1))

  -- an entry is told of by its priority
  pub record IsTold (f : Entry) : Type 0 where
    pub place : ℕ
    pub one : IsOne (record { 0 = f.priority }) place m.entries
    pub at : slice_get h.listed place ≡ Some f

  told : (f : Entry) → Contains h.listed f → IsTold f
  told f c = go (place_in (has_rank f.priority) h.listed) refl
    where
      itself : nat_eq f.priority f.priority ≡ true
      itself = eq-eqb f.priority f.priority refl

      go : (o : Option ℕ) → place_in (has_rank f.priority) h.listed ≡ o → IsTold f
      go None none = absurd (no_mask (nat_eq f.priority f.priority) itself (of_one (λ g. has_rank f.priority g ≡ false) h.listed f c (nowhere (has_rank f.priority) h.listed none)))
      go (Some i) at =
          let s = stands (has_rank f.priority) h.listed i f at in
          let g = get_or h.listed i f in
          let clash : nat_eq g.priority f.priority ≡ true = eq-eqb g.priority f.priority (sym (eqb-true f.priority g.priority s.1)) in
          let is : g ≡ f = one_of true h.listed g f apart (contains_at h.listed i f s.0) c clash s.1 in
          record {
            place = i;
            one = lookup_one f.priority m.entries i (tells f.priority ∙ at);
            at = read_there h.listed i f s.0 ∙ ap Some is;
          }

  pub fit_found : (o : Option Entry) → o ≡ first_fit h.listed ws m.entries → o ≡ found_in true h.listed ws
  fit_found None is = sym (no_found true ws h.listed (λ f cf ff. let r = told f cf in fit_none h.listed ws m.entries (sym is) f (record { 0 = f.priority }) r.place r.one r.at ff))
  fit_found (Some e) is =
      let one = fit_one h.listed ws m.entries e (sym is) in
      sym (highest_found true ws h.listed e apart (λ f g cf cg ff fg same. eq-eqb f.priority g.priority same) one.0 one.1 (λ f cf ff. let r = told f cf in fit_highest h.listed ws m.entries e sorted places (sym is) f (record { 0 = f.priority }) r.place r.one r.at ff))

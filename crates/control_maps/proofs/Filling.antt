-- A variable is set table by table.
use Rattle.std.proofs.Common.{◌≡◌, ◌≢◌, ℕ, zero, suc, ◌+◌, ◌<◌, ◌≤◌, List, [], ◌∷◌, length, Bool, true, false, cond, Some, None, refl, sym, ap, ◌∙◌, subst, arith, inl, inr, ◌⊎◌}
use Rattle.std.specs.Prelude.{nat_eq, drop, slice_get}
use Rattle.std.specs.List.{AllByRecursion}
use Rattle.std.proofs.lemmas.Bool.Decides.{eqb_tells}
use Rattle.p4_meaning.specs.Parts.{Parts}
use Rattle.p4_tables.specs.State.{Held, held_at, entries_in, with_listed, replaced}
use Rattle.p4_tables.specs.Faults.{IsReplaceable}
use Rattle.p4_tables.proofs.Changed.{replaced_shapes}
use Rattle.p4_tables.proofs.Sound.{entries_set}
use Rattle.indus_tree.specs.State.{Contents}
use Rattle.control_tables.specs.Contents.{entries_for, default_for}
use Rattle.control_maps.specs.Numbers.{Numbered, put_in, set_in, HasShape, keys_of, AreUnequal, IsOfForm, IsMapOf}
use Rattle.control_maps.specs.Laws.{ContentsAreTaken}
use Rattle.control_maps.specs.Steps.{AreEmptied, AreSmall, AreFilled}
use Rattle.control_maps.proofs.Places.{given_to, replaced_is, at_replaced, other_replaced, replaced_twice, replaced_apart, map_others, map_given, form_at, all_at, no_default}
use Rattle.control_maps.proofs.Taking.{is_taken}

-- ---- lists

pub drop_here : {A : Type 0} (xs : List A) (i : ℕ) (x : A) → slice_get xs i ≡ Some x → drop i xs ≡ x ∷ drop (i + 1) xs
drop_here [] i x e = absurd (cc)
drop_here (y ∷ xs) zero x e = let is : y ≡ x = (cc) in ap (λ z. z ∷ xs) is
drop_here (y ∷ xs) (suc i) x e = let is : suc i + 1 ≡ suc (i + 1) = omega arith in drop_here xs i x e ∙ ap (λ k. x ∷ drop k (y ∷ xs)) (sym is)

below : {A : Type 0} (xs : List A) (j : ℕ) (x : A) → slice_get xs j ≡ Some x → j < length xs
below [] j x e = absurd (cc)
below (y ∷ xs) zero x e = omega arith
below (y ∷ xs) (suc j) x e = let k = below xs j x e in omega (arith, k)

pub all_each : {A : Type 0} (P : A → Type 0) (xs : List A) → ((j : ℕ) (x : A) → slice_get xs j ≡ Some x → P x) → AllByRecursion P xs
all_each P [] h = tt
all_each P (x ∷ xs) h = (h 0 x refl, all_each P xs (λ j y e. h (suc j) y e))

module _ (f : Parts) where
  low : (st : List Held) (n : Numbered) → IsOfForm f st n → n.table < length st
  low st n is = (let a = is.long in let b = is.there in omega arith)

  pub map_left : (st : List Held) (ns : List Numbered) (i : ℕ) → IsMapOf f st ns → IsMapOf f st (drop i ns)
  map_left st [] zero is = tt
  map_left st [] (suc i) is = tt
  map_left st (n ∷ ns) zero is = is
  map_left st (n ∷ ns) (suc i) is = map_left st ns i is.1.1

  -- ---- one table is emptied

  put_emptied : (st : List Held) (n : Numbered) (c : Contents) → n.table < length st → put_in n c (replaced st n.table [] None) ≡ put_in n c st
  put_emptied st n c lt = replaced_twice st n.table [] (entries_for n.action c) (default_for n.action c) lt

  emptied_same : (st : List Held) (ns : List Numbered) (v : ℕ) (c : Contents) (i : ℕ) (n : Numbered) → slice_get ns i ≡ Some n → nat_eq n.variable v ≡ true → IsMapOf f st ns → set_in ns v c (replaced st n.table [] None) ≡ set_in ns v c st
  emptied_same st [] v c i n e own is = absurd (cc)
  emptied_same st (m ∷ ns) v c zero n e own is =
      let same : m ≡ n = (cc) in
      let mine : nat_eq m.variable v ≡ true = ap (λ (k : Numbered). nat_eq k.variable v) same ∙ own in
      ap (λ b. set_in ns v c (cond b (put_in m c (replaced st n.table [] None)) (replaced st n.table [] None))) mine
      ∙ (ap (λ (k : Numbered). set_in ns v c (put_in m c (replaced st k.table [] None))) (sym same)
      ∙ (ap (set_in ns v c) (put_emptied st m c (low st m is.0))
      ∙ ap (λ b. set_in ns v c (cond b (put_in m c st) st)) (sym mine)))
  emptied_same st (m ∷ ns) v c (suc i) n e own is = go (nat_eq m.variable v) (λ s k. emptied_same s ns v c i n e own k)
    where
      other : m.table ≢ n.table
      other q = all_at (λ (k : Numbered). k.table ≢ m.table) ns i n e is.1.0 (sym q)

      go : (b : Bool) → ((s : List Held) → IsMapOf f s ns → set_in ns v c (replaced s n.table [] None) ≡ set_in ns v c s) → set_in ns v c (cond b (put_in m c (replaced st n.table [] None)) (replaced st n.table [] None)) ≡ set_in ns v c (cond b (put_in m c st) st)
      go true more =
          ap (set_in ns v c) (sym (replaced_apart st m.table n.table (entries_for m.action c) [] (default_for m.action c) None (low st m is.0) (low st n (form_at f st ns i n e is.1.1)) other))
          ∙ more (put_in m c st) (map_others f st m.table ns (entries_for m.action c) (default_for m.action c) (low st m is.0) is.1.0 is.1.1)
      go false more = more st is.1.1

  still_empty : (st : List Held) (j k : ℕ) → k < length st → (held_at st j).listed ≡ [] → (held_at (replaced st k [] None) j).listed ≡ []
  still_empty st j k lt e =
      elim (eqb_tells j k) [
        | inl h ↦ ap (λ i. (held_at (replaced st k [] None) i).listed) h.1 ∙ ap (λ (g : Held). g.listed) (at_replaced st k [] None lt)
        | inr h ↦ ap (λ (g : Held). g.listed) (other_replaced st k j [] None lt h.1) ∙ e
      ]

  pub emptied_first : (ns : List Numbered) (v : ℕ) (st : List Held) → IsMapOf f st ns → AreEmptied f ns v st st 0
  emptied_first ns v st is = record { map = is; shapes = refl; same = λ c. refl; empty = λ j n lt e own. absurd (omega (arith, lt)) }

  module _ (ns : List Numbered) (v : ℕ) (old now : List Held) (i : ℕ) (n : Numbered) (here : slice_get ns i ≡ Some n) (so_far : AreEmptied f ns v old now i) where
    at_or_before : (j : ℕ) (m : Numbered) → j < i + 1 → slice_get ns j ≡ Some m → (j < i) ⊎ (m ≡ n)
    at_or_before j m lt e = elim (eqb_tells j i) [ inl h ↦ inr (let same : slice_get ns i ≡ Some m = subst (λ k. slice_get ns k ≡ Some m) h.1 e in let mine : slice_get ns i ≡ Some n = here in cc) | inr h ↦ inl (let d = h.1 in omega (arith, lt, d)) ]

    pub emptied_next : nat_eq n.variable v ≡ true → AreEmptied f ns v old (replaced now n.table [] None) (i + 1)
    emptied_next own =
        let lt = low now n (form_at f now ns i n here so_far.map) in
        record {
          map = map_given f now ns i n [] None here (λ m. refl) so_far.map;
          shapes = replaced_shapes now n.table [] None ∙ so_far.shapes;
          same = λ c. emptied_same now ns v c i n here own so_far.map ∙ so_far.same c;
          empty = λ j m k e mine. elim (at_or_before j m k e) [
            | inl before ↦ still_empty now m.table n.table lt (so_far.empty j m before e mine)
            | inr same ↦ ap (λ (x : Numbered). (held_at (replaced now n.table [] None) x.table).listed) same ∙ ap (λ (g : Held). g.listed) (at_replaced now n.table [] None lt)
          ];
        }

    pub emptied_skip : nat_eq n.variable v ≡ false → AreEmptied f ns v old now (i + 1)
    emptied_skip other =
        record {
          map = so_far.map;
          shapes = so_far.shapes;
          same = so_far.same;
          empty = λ j m k e mine. elim (at_or_before j m k e) [
            | inl before ↦ so_far.empty j m before e mine
            | inr same ↦ absurd (let q : nat_eq n.variable v ≡ true = ap (λ (x : Numbered). nat_eq x.variable v) (sym same) ∙ mine in cc)
          ];
        }

  -- ---- and then given the contents

  pub filled_first : (ns : List Numbered) (v : ℕ) (c : Contents) (old now : List Held) → AreEmptied f ns v old now (length ns) → AreFilled f ns v c old now 0
  filled_first ns v c old now done =
      record {
        map = done.map;
        shapes = done.shapes;
        same = done.same c;
        small = all_each _ ns (λ j n e own. (let none = ap (λ l. length l) (done.empty j n (below ns j n e) e own) in omega (arith, none)));
      }

  put_counts : (st : List Held) (n : Numbered) (c : Contents) → n.table < length st → entries_in (put_in n c st) + length (held_at st n.table).listed ≡ entries_in st + length (entries_for n.action c)
  put_counts st n c lt =
      ap (λ (l : List Held). entries_in l + length (held_at st n.table).listed) (replaced_is st n.table (entries_for n.action c) (default_for n.action c) lt)
      ∙ entries_set st n.table (given_to (held_at st n.table) (entries_for n.action c) (default_for n.action c)) lt

  small_put : (st : List Held) (n : Numbered) (ns : List Numbered) (v : ℕ) (c : Contents) → n.table < length st → AllByRecursion (λ k. k.table ≢ n.table) ns → AreSmall st ns v c → AreSmall (put_in n c st) ns v c
  small_put st n [] v c lt apart few = tt
  small_put st n (m ∷ ns) v c lt apart few = (
    (λ own. subst (λ (g : Held). length g.listed ≤ length (entries_for m.action c)) (sym (other_replaced st n.table m.table (entries_for n.action c) (default_for n.action c) lt apart.0)) (few.0 own)),
    small_put st n ns v c lt apart.1 few.1,
  )

  put_rest : (st : List Held) (n : Numbered) (ns : List Numbered) (c : Contents) → IsMapOf f st (n ∷ ns) → IsMapOf f (put_in n c st) ns
  put_rest st n ns c is = map_others f st n.table ns (entries_for n.action c) (default_for n.action c) (low st n is.0) is.1.0 is.1.1

  grows : (st : List Held) (ns : List Numbered) (v : ℕ) (c : Contents) → IsMapOf f st ns → AreSmall st ns v c → entries_in st ≤ entries_in (set_in ns v c st)
  grows st [] v c is few = omega arith
  grows st (n ∷ ns) v c is few = go (nat_eq n.variable v) few.0 (λ s i k. grows s ns v c i k)
    where
      go : (b : Bool) → (b ≡ true → length (held_at st n.table).listed ≤ length (entries_for n.action c)) → ((s : List Held) → IsMapOf f s ns → AreSmall s ns v c → entries_in s ≤ entries_in (set_in ns v c s)) → entries_in st ≤ entries_in (set_in ns v c (cond b (put_in n c st) st))
      go true fewer more =
          (let lt = low st n is.0 in
          let behind = more (put_in n c st) (put_rest st n ns c is) (small_put st n ns v c lt is.1.0 few.1) in
          let counts = put_counts st n c lt in
          let less = fewer refl in
          omega (arith, behind, counts, less))
      go false fewer more = more st is.1.1 few.1

  module _ (ns : List Numbered) (v : ℕ) (c : Contents) (old now : List Held) (i : ℕ) (n : Numbered) (here : slice_get ns i ≡ Some n) (so_far : AreFilled f ns v c old now i) where
    rest_is : drop i ns ≡ n ∷ drop (i + 1) ns
    rest_is = drop_here ns i n here

    left : IsMapOf f now (n ∷ drop (i + 1) ns)
    left = subst (IsMapOf f now) rest_is (map_left now ns i so_far.map)

    small_left : AreSmall now (n ∷ drop (i + 1) ns) v c
    small_left = subst (λ (ks : List Numbered). AreSmall now ks v c) rest_is so_far.small

    same_left : set_in (n ∷ drop (i + 1) ns) v c now ≡ set_in ns v c old
    same_left = ap (λ (ks : List Numbered). set_in ks v c now) (sym rest_is) ∙ so_far.same

    same_put : nat_eq n.variable v ≡ true → set_in (drop (i + 1) ns) v c (put_in n c now) ≡ set_in ns v c old
    same_put own = ap (λ b. set_in (drop (i + 1) ns) v c (cond b (put_in n c now) now)) (sym own) ∙ same_left

    -- the table takes them
    pub filled_taken : nat_eq n.variable v ≡ true → HasShape n.shape c → AreUnequal (keys_of c) → entries_in (set_in ns v c old) ≤ 65536 → IsReplaceable now n.table (entries_for n.action c) (default_for n.action c)
    filled_taken own shape unequal few =
        let lt = low now n left.0 in
        let counts = put_counts now n c lt in
        let emptied = entries_set now n.table (record (held_at now n.table) { listed = [] }) lt in
        let more = grows (put_in n c now) (drop (i + 1) ns) v c (put_rest now n (drop (i + 1) ns) c left) (small_put now n (drop (i + 1) ns) v c lt left.1.0 small_left.1) in
        let total : entries_in (set_in (drop (i + 1) ns) v c (put_in n c now)) ≡ entries_in (set_in ns v c old) = ap entries_in (same_put own) in
        is_taken f now n c left.0 shape unequal (omega (arith, counts, emptied, more, total, few))

    pub filled_next : nat_eq n.variable v ≡ true → HasShape n.shape c → AreFilled f ns v c old (put_in n c now) (i + 1)
    filled_next own shape =
        record {
          map = map_given f now ns i n (entries_for n.action c) (default_for n.action c) here (no_default n.shape c n.action shape) so_far.map;
          shapes = replaced_shapes now n.table (entries_for n.action c) (default_for n.action c) ∙ so_far.shapes;
          same = same_put own;
          small = small_put now n (drop (i + 1) ns) v c (low now n left.0) left.1.0 small_left.1;
        }

    pub filled_skip : nat_eq n.variable v ≡ false → AreFilled f ns v c old now (i + 1)
    filled_skip other =
        record {
          map = so_far.map;
          shapes = so_far.shapes;
          same = ap (λ b. set_in (drop (i + 1) ns) v c (cond b (put_in n c now) now)) (sym other) ∙ same_left;
          small = small_left.1;
        }

-- the same by the count behind it
pub contents_are_taken : ContentsAreTaken
contents_are_taken f st n c is shape unequal few =
    let lt = low f st n is in
    let counts = put_counts f st n c lt in
    let emptied : entries_in (with_listed st n.table []) + length (held_at st n.table).listed ≡ entries_in st + 0 = entries_set st n.table (record (held_at st n.table) { listed = [] }) lt in
    is_taken f st n c is shape unequal (omega (arith, counts, emptied, few))

-- The sums, variable by variable and event by event, are those of the definition.
use Rattle.std.proofs.Common.{◌≡◌, ◌≢◌, ℕ, zero, suc, ◌+◌, ◌*◌, ◌≤◌, ◌<◌, max, List, [], ◌∷◌, map, length, Bool, true, false, nat_lt, refl, sym, ap, ◌∙◌, arith, add_assoc, add-zero, mul-le-mul_left, ◌⊎◌, inl, inr}
use Rattle.std.specs.Prelude.{◌==◌, ◌&&◌, if◌then◌else◌}
use Rattle.std.proofs.lemmas.Bool.{eqb-true}
use borrow.Author.Tests.{ltb-true, ltb-false}
use Rattle.network_run.proofs.Numbers.{nat_eq_self, nat_eq_other}
use Rattle.indus_tree.specs.Tree.{Decl, Property}
use Rattle.indus_tree.specs.State.{Contents}
use Rattle.indus_tree.specs.Hops.{same_kind}
use Rattle.indus_tree.specs.declared.tree.DeclKind.TheVariants.{Control}
use Rattle.indus_types.specs.Sums.{cut}
use Rattle.network_run.specs.Events.{Event, Enter, Leave, Set}
use Rattle.table_items.specs.Items.{items_of, held_items, event_items, greatest_set, greatest_items, reads_of, items_from, all_items}
use Rattle.table_items.specs.Steps.{cap, raise, noted, added, with_variable, with_variables}

pub cons_both : {x y : ℕ} {xs ys : List ℕ} → x ≡ y → xs ≡ ys → x ∷ xs ≡ y ∷ ys
cons_both e f = cc (e, f)

-- ---- the events of one variable

here : (s v t w : ℕ) (c : Contents) → t ≡ s → w ≡ v → event_items s v (Set t w c) ≡ items_of c
here s v t w c e f = rw (e, f, nat_eq_self s, nat_eq_self v) refl

elsewhere : (s v t w : ℕ) (c : Contents) → t ≢ s → event_items s v (Set t w c) ≡ 0
elsewhere s v t w c n = rw (nat_eq_other t s n) refl

never : (b : Bool) (n : ℕ) → (if b && false then n else 0) ≡ 0
never true n = refl
never false n = refl

of_another : (s v t w : ℕ) (c : Contents) → (w == v) ≡ false → event_items s v (Set t w c) ≡ 0
of_another s v t w c e = rw e (never (t == s) (items_of c))

-- the numbers of items with the greatest that events set, where the first is of the switch s
abbrev with_set : (s v : ℕ) → List ℕ → List (Event Contents) → List ℕ
with_set s v [] es = []
with_set s v (x ∷ xs) es = max x (greatest_set s v es) ∷ with_set (s + 1) v xs es

max_first : (x a n : ℕ) → a ≡ 0 → max x n ≡ max x (max a n)
max_first x a n e = omega arith

max_three : (x n m a : ℕ) → a ≡ n → max (max x n) m ≡ max x (max a m)
max_three x n m a e = omega arith

with_none : (s v : ℕ) (xs : List ℕ) → with_set s v xs [] ≡ xs
with_none s v [] = refl
with_none s v (x ∷ xs) = let e : max x 0 ≡ x = omega arith in cons_both e (with_none (s + 1) v xs)

-- an event that sets nothing at these switches
with_other : (s v : ℕ) (xs : List ℕ) (e : Event Contents) (es : List (Event Contents)) → ((t : ℕ) → s ≤ t → event_items t v e ≡ 0) → with_set s v xs es ≡ with_set s v xs (e ∷ es)
with_other s v [] e es h = refl
with_other s v (x ∷ xs) e es h =
    cons_both (max_first x (event_items s v e) (greatest_set s v es) (h s (omega arith))) (with_other (s + 1) v xs e es (λ t k. h t (omega arith)))

-- an event that sets the variable at a switch
with_raised : (s v t w : ℕ) (c : Contents) (xs : List ℕ) (i : ℕ) (es : List (Event Contents)) → t ≡ s + i → w ≡ v → with_set s v (raise xs i (items_of c)) es ≡ with_set s v xs (Set t w c ∷ es)
with_raised s v t w c [] i es e f = refl
with_raised s v t w c (x ∷ xs) zero es e f =
    cons_both (max_three x (items_of c) (greatest_set s v es) (event_items s v (Set t w c)) (here s v t w c (omega arith) f))
    (with_other (s + 1) v xs (Set t w c) es (λ u k. elsewhere u v t w c (λ same. omega arith)))
with_raised s v t w c (x ∷ xs) (suc i) es e f =
    cons_both (max_first x (event_items s v (Set t w c)) (greatest_set s v es) (elsewhere s v t w c (λ same. omega arith)))
    (with_raised (s + 1) v t w c xs i es (omega arith) f)

noted_set : (v t w : ℕ) (c : Contents) (xs : List ℕ) (es : List (Event Contents)) → ((ys : List ℕ) → noted v ys es ≡ with_set 0 v ys es) → (b : Bool) → (w == v) ≡ b
    → noted v (if b then raise xs t (items_of c) else xs) es ≡ with_set 0 v xs (Set t w c ∷ es)
noted_set v t w c xs es again true e = again (raise xs t (items_of c)) ∙ with_raised 0 v t w c xs t es (omega arith) (eqb-true w v e)
noted_set v t w c xs es again false e = again xs ∙ with_other 0 v xs (Set t w c) es (λ u k. of_another u v t w c e)

noted_all : (v : ℕ) (xs : List ℕ) (es : List (Event Contents)) → noted v xs es ≡ with_set 0 v xs es
noted_all v xs [] = sym (with_none 0 v xs)
noted_all v xs (Enter n ∷ es) = noted_all v xs es ∙ with_other 0 v xs (Enter n) es (λ t k. refl)
noted_all v xs (Leave n ∷ es) = noted_all v xs es ∙ with_other 0 v xs (Leave n) es (λ t k. refl)
noted_all v xs (Set t w c ∷ es) = noted_set v t w c xs es (λ ys. noted_all v ys es) (w == v) refl

-- ---- a sum that stops at the first number that is too large

side_step : (a b : ℕ) (t : Bool) → nat_lt a b ≡ t → (a < b) ⊎ (b ≤ a)
side_step a b true e = inl (omega (arith, ltb-true))
side_step a b false e = inr (omega (arith, ltb-false))

side : (a b : ℕ) → (a < b) ⊎ (b ≤ a)
side a b = side_step a b (nat_lt a b) refl

-- a cut number of readings times a number of items is large where the whole is
cap_more : (a r x : ℕ) → cap (cap a + cut r * x) ≡ cap (a + r * x)
cap_more a r zero = omega arith
cap_more a r (suc x) = elim (side r 4294967295) [
  | inl h ↦ let e : cut r ≡ r = omega arith in rw e (omega arith)
  | inr h ↦
      let p : cut r * 1 ≤ cut r * suc x = mul-le-mul_left (cut r) (omega arith) in
      let q : r * 1 ≤ r * suc x = mul-le-mul_left r (omega arith) in
      omega (arith, p, q)
]

nothing : (x r g : ℕ) → r ≡ 0 → x ≡ x + r * g
nothing x r g e = rw e (omega arith)

-- ---- all variables

module _ (p : Property) (es : List (Event Contents)) where
  -- what each switch, the first of which has the number s, has to hold for some declarations, added to its number
  abbrev plus : (v k : ℕ) → List Decl → (s : ℕ) → List ℕ → List (List Contents) → List ℕ
  plus v k ds s [] css = []
  plus v k ds s (x ∷ xs) [] = []
  plus v k ds s (x ∷ xs) (cs ∷ css) = (x + items_from p s cs es v k ds) ∷ plus v k ds (s + 1) xs css

  abbrev plus_one : (r v k s : ℕ) → List ℕ → List (List Contents) → List ℕ
  plus_one r v k s [] css = []
  plus_one r v k s (x ∷ xs) [] = []
  plus_one r v k s (x ∷ xs) (cs ∷ css) = (x + r * greatest_items s v k cs es) ∷ plus_one r v k (s + 1) xs css

  length-plus_one : (r v k s : ℕ) (xs : List ℕ) (css : List (List Contents)) → length xs ≡ length css → length (plus_one r v k s xs css) ≡ length css
  length-plus_one r v k s [] css h = h
  length-plus_one r v k s (x ∷ xs) [] h = refl
  length-plus_one r v k s (x ∷ xs) (cs ∷ css) h = let again = length-plus_one r v k (s + 1) xs css (omega arith) in omega arith

  added_is : (r v k s : ℕ) (xs : List ℕ) (css : List (List Contents)) → added (cut r) (map cap xs) (with_set s v (map (held_items k) css) es) ≡ map cap (plus_one r v k s xs css)
  added_is r v k s [] css = refl
  added_is r v k s (x ∷ xs) [] = refl
  added_is r v k s (x ∷ xs) (cs ∷ css) = cons_both (cap_more x r (greatest_items s v k cs es)) (added_is r v k (s + 1) xs css)

  plus_nothing : (r v k s : ℕ) (xs : List ℕ) (css : List (List Contents)) → r ≡ 0 → length xs ≡ length css → xs ≡ plus_one r v k s xs css
  plus_nothing r v k s [] css e h = refl
  plus_nothing r v k s (x ∷ xs) [] e h = absurd (omega arith)
  plus_nothing r v k s (x ∷ xs) (cs ∷ css) e h =
      cons_both (nothing x r (greatest_items s v k cs es) e) (plus_nothing r v k (s + 1) xs css e (omega arith))

  if_read : (css : List (List Contents)) (v k : ℕ) (xs : List ℕ) → length xs ≡ length css → (b : Bool) → nat_lt 0 (cut (reads_of p v)) ≡ b
      → (if b then added (cut (reads_of p v)) (map cap xs) (noted v (map (held_items k) css) es) else map cap xs) ≡ map cap (plus_one (reads_of p v) v k 0 xs css)
  if_read css v k xs h true e =
      ap (λ m. added (cut (reads_of p v)) (map cap xs) m) (noted_all v (map (held_items k) css) es) ∙ added_is (reads_of p v) v k 0 xs css
  if_read css v k xs h false e = ap (map cap) (plus_nothing (reads_of p v) v k 0 xs css (omega (arith, ltb-false)) h)

  one_more : (css : List (List Contents)) (v k : ℕ) (xs : List ℕ) → length xs ≡ length css → with_variable p css es v k (map cap xs) ≡ map cap (plus_one (reads_of p v) v k 0 xs css)
  one_more css v k xs h = if_read css v k xs h (nat_lt 0 (cut (reads_of p v))) refl

  plus_none : (v k s : ℕ) (xs : List ℕ) (css : List (List Contents)) → length xs ≡ length css → xs ≡ plus v k [] s xs css
  plus_none v k s [] css h = refl
  plus_none v k s (x ∷ xs) [] h = absurd (omega arith)
  plus_none v k s (x ∷ xs) (cs ∷ css) h = cons_both (sym (add-zero x)) (plus_none v k (s + 1) xs css (omega arith))

  plus_control : (v k : ℕ) (d : Decl) (ds : List Decl) (s : ℕ) (xs : List ℕ) (css : List (List Contents)) → same_kind Control d.kind ≡ true
      → plus (v + 1) (k + 1) ds s (plus_one (reads_of p v) v k s xs css) css ≡ plus v k (d ∷ ds) s xs css
  plus_control v k d ds s [] css e = refl
  plus_control v k d ds s (x ∷ xs) [] e = refl
  plus_control v k d ds s (x ∷ xs) (cs ∷ css) e =
      let one = reads_of p v * greatest_items s v k cs es in
      let with_it = items_from p s cs es (v + 1) (k + 1) ds in
      let without = items_from p s cs es (v + 1) k ds in
      cons_both (add_assoc x one with_it ∙ ap (λ b. x + (if b then one + with_it else without)) (sym e)) (plus_control v k d ds (s + 1) xs css e)

  plus_other : (v k : ℕ) (d : Decl) (ds : List Decl) (s : ℕ) (xs : List ℕ) (css : List (List Contents)) → same_kind Control d.kind ≡ false
      → plus (v + 1) k ds s xs css ≡ plus v k (d ∷ ds) s xs css
  plus_other v k d ds s [] css e = refl
  plus_other v k d ds s (x ∷ xs) [] e = refl
  plus_other v k d ds s (x ∷ xs) (cs ∷ css) e =
      let one = reads_of p v * greatest_items s v k cs es in
      let with_it = items_from p s cs es (v + 1) (k + 1) ds in
      let without = items_from p s cs es (v + 1) k ds in
      cons_both (ap (λ b. x + (if b then one + with_it else without)) (sym e)) (plus_other v k d ds (s + 1) xs css e)

  by_kind : (css : List (List Contents)) (v k : ℕ) (xs : List ℕ) (d : Decl) (ds : List Decl) → length xs ≡ length css
      → ((v k : ℕ) (xs : List ℕ) → length xs ≡ length css → with_variables p css es v k (map cap xs) ds ≡ map cap (plus v k ds 0 xs css))
      → (b : Bool) → same_kind Control d.kind ≡ b
      → (if b then with_variables p css es (v + 1) (k + 1) (with_variable p css es v k (map cap xs)) ds else with_variables p css es (v + 1) k (map cap xs) ds)
      ≡ map cap (plus v k (d ∷ ds) 0 xs css)
  by_kind css v k xs d ds h again true e =
      ap (λ ys. with_variables p css es (v + 1) (k + 1) ys ds) (one_more css v k xs h)
      ∙ again (v + 1) (k + 1) (plus_one (reads_of p v) v k 0 xs css) (length-plus_one (reads_of p v) v k 0 xs css h)
      ∙ ap (map cap) (plus_control v k d ds 0 xs css e)
  by_kind css v k xs d ds h again false e = again (v + 1) k xs h ∙ ap (map cap) (plus_other v k d ds 0 xs css e)

  with_all : (css : List (List Contents)) (v k : ℕ) (xs : List ℕ) (ds : List Decl) → length xs ≡ length css → with_variables p css es v k (map cap xs) ds ≡ map cap (plus v k ds 0 xs css)
  with_all css v k xs [] h = ap (map cap) (plus_none v k 0 xs css h)
  with_all css v k xs (d ∷ ds) h = by_kind css v k xs d ds h (λ v k xs h. with_all css v k xs ds h) (same_kind Control d.kind) refl

  all_plus : (s : ℕ) (ns : List ℕ) (css : List (List Contents)) → plus 0 0 p.decls s ns css ≡ all_items p s es ns css
  all_plus s [] css = refl
  all_plus s (n ∷ ns) [] = refl
  all_plus s (n ∷ ns) (cs ∷ css) = ap (λ ys. (n + items_from p s cs es 0 0 p.decls) ∷ ys) (all_plus (s + 1) ns css)

  -- the sums behind all variables are those of the definition
  pub sums_are : (ns : List ℕ) (css : List (List Contents)) → length ns ≡ length css → with_variables p css es 0 0 (map cap ns) p.decls ≡ map cap (all_items p 0 es ns css)
  sums_are ns css h = with_all css 0 0 ns p.decls h ∙ ap (map cap) (all_plus 0 ns css)

-- The items of a list in turn, as loops meet them: the invariant of a loop is that what is left to
-- do from here is what there was to do from the start.
use Rattle.std.proofs.Common.{◌≡◌, ℕ, zero, suc, ◌+◌, ◌<◌, ◌≤◌, List, [], ◌∷◌, ◌++◌, map, length, drop, get_or, Result, Ok, Err, refl, sym, ap, subst, ◌∙◌, arith}
use Rattle.std.specs.List.{All}
use Rattle.std.proofs.lemmas.List.Elements.{All-nil, All-cons, All-append}
use Rattle.json_parts.specs.Answers.{◌>>=◌}
use Rattle.json_parts.specs.Turns.{in_turn, each_in_turn, behind}

pub drop_map : {A B : Type 0} (v : A → B) (xs : List A) (i : ℕ) (d : A) → i < length xs → drop i (map v xs) ≡ v (get_or xs i d) ∷ drop (i + 1) (map v xs)
drop_map v [] i d h = absurd (omega arith)
drop_map v (x ∷ xs) zero d h = refl
drop_map {A} {B} v (x ∷ xs) (suc i) d h =
    let next : suc i + 1 ≡ suc (i + 1) = omega arith in
    drop_map v xs i d (omega arith) ∙ ap (λ (n : ℕ). v (get_or xs i d) ∷ drop n (map v (x ∷ xs))) (sym next)

pub drop_all : {A B : Type 0} (v : A → B) (xs : List A) (i : ℕ) → length xs ≤ i → drop i (map v xs) ≡ []
drop_all v [] zero h = refl
drop_all v [] (suc i) h = refl
drop_all v (x ∷ xs) zero h = absurd (omega arith)
drop_all v (x ∷ xs) (suc i) h = drop_all v xs i (omega arith)

-- the i-th item of a list, seen by v, is met
module _ {E S A B : Type 0} (step : S → ℕ → B → Result S E) (v : A → B) (found : S) (i : ℕ) (xs : List A) (d : A) (total : Result S E) where
  pub turn_more : (more : S) → i < length xs → step found i (v (get_or xs i d)) ≡ Ok more
      → in_turn step found i (drop i (map v xs)) ≡ total → in_turn step more (i + 1) (drop (i + 1) (map v xs)) ≡ total
  unfolding in_turn
  turn_more more lt is so_far = rw (drop_map v xs i d lt, is) at so_far

  pub turn_stop : (e : E) → i < length xs → step found i (v (get_or xs i d)) ≡ Err e
      → in_turn step found i (drop i (map v xs)) ≡ total → total ≡ Err e
  unfolding in_turn
  turn_stop e lt is so_far = sym (rw (drop_map v xs i d lt, is) at so_far)

-- no item is left
pub turn_end : {E S A B : Type 0} (step : S → ℕ → B → Result S E) (v : A → B) (found : S) (i : ℕ) (xs : List A) (total : Result S E) → length xs ≤ i
    → in_turn step found i (drop i (map v xs)) ≡ total → total ≡ Ok found
unfolding in_turn
turn_end step v found i xs total le so_far = sym (rw (drop_all v xs i le) at so_far)

-- the i-th item is read
module _ {E X A B : Type 0} (read : ℕ → B → Result X E) (v : A → B) (found : List X) (i : ℕ) (xs : List A) (d : A) (total : Result (List X) E) where
  pub all_more : (y : X) → i < length xs → read i (v (get_or xs i d)) ≡ Ok y
      → in_turn (behind read) found i (drop i (map v xs)) ≡ total → in_turn (behind read) (found ++ y ∷ []) (i + 1) (drop (i + 1) (map v xs)) ≡ total
  all_more y lt is so_far = turn_more (behind read) v found i xs d total (found ++ y ∷ []) lt (rw is refl) so_far

  pub all_stop : (e : E) → i < length xs → read i (v (get_or xs i d)) ≡ Err e
      → in_turn (behind read) found i (drop i (map v xs)) ≡ total → total ≡ Err e
  all_stop e lt is so_far = turn_stop (behind read) v found i xs d total e lt (rw is refl) so_far

-- what holds of each thing that is read holds of all
module _ {E X A : Type 0} (read : ℕ → A → Result X E) (P : X → Type 0) (each : (i : ℕ) (x : A) (y : X) → read i x ≡ Ok y → P y) where
  pub all_hold : (found : List X) (i : ℕ) (xs : List A) (ys : List X) → All P found → in_turn (behind read) found i xs ≡ Ok ys → All P ys
  unfolding in_turn
  all_hold found i [] ys h e =
      let is : found ≡ ys = cc in subst (All P) is h
  all_hold found i (x ∷ xs) ys h e = by (λ y k more. all_hold (found ++ y ∷ []) (i + 1) xs ys k more) (read i x) refl e
    where
      by : ((y : X) → All P (found ++ y ∷ []) → in_turn (behind read) (found ++ y ∷ []) (i + 1) xs ≡ Ok ys → All P ys) → (r : Result X E) → read i x ≡ r
          → ((r >>= λ y. Ok (found ++ y ∷ [])) >>= λ more. in_turn (behind read) more (i + 1) xs) ≡ Ok ys → All P ys
      by again (Ok y) is rest = again y (All-append P found (y ∷ []) h (All-cons P y [] (each i x y is) (All-nil P))) rest
      by again (Err z) is rest = absurd cc

-- the same for lists that an iterator gives, of which `left` are left
module _ {E S A B : Type 0} (step : S → B → Result S E) (v : A → B) (found : S) (left : List A) (total : Result S E) (so_far : each_in_turn step found (map v left) ≡ total) where
  pub each_more : (x : A) (after : List A) (more : S) → left ≡ x ∷ after → step found (v x) ≡ Ok more → each_in_turn step more (map v after) ≡ total
  unfolding each_in_turn
  each_more x after more l is = rw (l, is) at so_far

  pub each_stop : (x : A) (after : List A) (e : E) → left ≡ x ∷ after → step found (v x) ≡ Err e → total ≡ Err e
  unfolding each_in_turn
  each_stop x after e l is = sym (rw (l, is) at so_far)

  pub each_end : left ≡ [] → total ≡ Ok found
  unfolding each_in_turn
  each_end l = sym (rw l at so_far)

-- The steps of the search that follow what waits last.
use Rattle.std.proofs.Common.{◌≡◌, ◌⊎◌, inl, inr, ℕ, ◌+◌, ◌-◌, ◌<◌, ◌≤◌, List, [], ◌∷◌, ◌++◌, length, take, refl, sym, ◌∙◌, ap, subst, arith, length-append, Vec, Global, vec_len}
use Rattle.p4_parser_states.specs.Graphs.{In, Follows}
use Rattle.p4_parser_states.specs.Search.{IsDone, IsOpenFrom, Rises, places, mark_in, node_in, IsSearch, IsLast, IsAwaited, IsSettled, IsStep}
use Rattle.p4_parser_states.specs.declared.search.Mark.{Mark}
use Rattle.p4_parser_states.specs.declared.search.Mark.TheVariants.{New, Open, Done}
use Rattle.p4_parser_states.specs.declared.search.Search.{Search}
use Rattle.p4_parser_states.proofs.Core.{followed, joined}
use Rattle.p4_parser_states.proofs.Lists.{in_front, in_last, last_in, in_places, rise_front, rise_last, places_append, last_highest}

-- all but the last
pub whole : {A : Type 0} (v : Vec A Global) (xs : List A) → xs ≡ take (vec_len v - 1) v.items → xs ≡ take (length v.items - 1) v.items
whole v xs e = let k : length v.items ≡ vec_len v = omega (arith, v.ok.0) in e ∙ ap (λ (n : ℕ). take (n - 1) v.items) (sym k)

settled_at : (s : Search) (start place x : ℕ) (m : Mark) → mark_in s x ≡ m → IsSettled start m → ((b : ℕ) → In b s.starts.items → b ≤ start)
    → IsDone (mark_in s x) ⊎ IsOpenFrom (mark_in s) (λ b. In b s.starts.items) place x
settled_at s start place x New e h most = absurd h
settled_at s start place x (Open q) e h most = inr (record { place = q; is = e; later = λ b i j. let k : b ≤ start = most b i in omega (arith, k, h) })
settled_at s start place x (Done c) e h most = let P : Mark → Type 0 = IsDone in let t : IsDone (Done c) = tt in inl (subst P (sym e) t)

pub passed : (g : List (List ℕ)) (s : Search) (w : Vec (ℕ × ℕ) Global) (start x : ℕ) → w.items ≡ take (length s.waiting.items - 1) s.waiting.items
    → IsSearch g s → IsLast s.starts.items start → IsAwaited s start x → IsSettled start (mark_in s x) → IsStep g s (record s { waiting = w })
passed g s w start x less h last a settled = record {
  search = record {
    sound = followed (Follows g) (mark_in s) (node_in s) (length s.stack.items) (λ p y. In (p, y) s.waiting.items) (λ p y. In (p, y) w.items) (λ b. In b s.starts.items) h.sound
        a.place x
        (λ p y i. let P : List (ℕ × ℕ) → Type 0 = λ ws. In (p, y) ws in subst P (sym whole) (in_front (p, y) w.items ((a.place, x) ∷ []) i))
        (λ p y i. let P : List (ℕ × ℕ) → Type 0 = λ ws. In (p, y) ws in apart p y (in_last (p, y) w.items (a.place, x) (subst P whole i)))
        (settled_at s start a.place x (mark_in s x) refl settled (last_highest s.starts.items start last h.starts_rise));
    marked = h.marked;
    waiting_rise = let P : List ℕ → Type 0 = λ ps. Rises (λ p q. p ≤ q) ps in
        rise_front (λ p q. p ≤ q) (places w.items) (places ((a.place, x) ∷ [])) (subst P (ap places whole ∙ places_append w.items ((a.place, x) ∷ [])) h.waiting_rise);
    starts_rise = h.starts_rise;
    starts_open = h.starts_open;
    based = h.based;
  };
  keeps = record { done = λ y c e. e; seen = λ y e. e };
  less = let k : length s.waiting.items ≡ length w.items + 1 = ap length whole ∙ length-append w.items ((a.place, x) ∷ []) in omega (arith, k);
}
  where
    whole : s.waiting.items ≡ w.items ++ (a.place, x) ∷ []
    whole = a.last ∙ ap (λ (ws : List (ℕ × ℕ)). ws ++ (a.place, x) ∷ []) (sym less)

    apart : (p y : ℕ) → In (p, y) w.items ⊎ (◌≡◌ {A = ℕ × ℕ} (p, y) (a.place, x)) → In (p, y) w.items ⊎ ((p ≡ a.place) × (y ≡ x))
    apart p y (inl i) = inl i
    apart p y (inr e) = inr (ap (λ (u : ℕ × ℕ). u.0) e, ap (λ (u : ℕ × ℕ). u.1) e)

pub components_joined : (g : List (List ℕ)) (s : Search) (v : Vec ℕ Global) (start x at : ℕ) → v.items ≡ take (length s.starts.items - 1) s.starts.items
    → IsSearch g s → IsLast s.starts.items start → IsAwaited s start x → mark_in s x ≡ Open at → at < start → IsStep g s (record s { starts = v })
components_joined g s v start x at less h last a is below = record {
  search = record {
    sound = joined (Follows g) (mark_in s) (node_in s) (length s.stack.items) (λ p y. In (p, y) s.waiting.items) (λ b. In b s.starts.items) (λ b. In b v.items) start h.sound
        old
        (λ b i. let P : List ℕ → Type 0 = λ bs. In b bs in in_last b v.items start (subst P whole i))
        (last_highest s.starts.items start last h.starts_rise)
        a.place x at
        (let P : List (ℕ × ℕ) → Type 0 = λ ws. In (a.place, x) ws in subst P (sym a.last) (last_in (take (length s.waiting.items - 1) s.waiting.items) (a.place, x)))
        a.within is below;
    marked = h.marked;
    waiting_rise = h.waiting_rise;
    starts_rise = let P : List ℕ → Type 0 = λ bs. Rises (λ p q. p < q) bs in rise_front (λ p q. p < q) v.items (start ∷ []) (subst P whole h.starts_rise);
    starts_open = λ b i. h.starts_open b (old b i);
    based = λ k. let P : List ℕ → Type 0 = λ bs. In 0 bs in first (in_last 0 v.items start (subst P whole (h.based k)));
  };
  keeps = record { done = λ y c e. e; seen = λ y e. e };
  less = let k : length s.starts.items ≡ length v.items + 1 = ap length whole ∙ length-append v.items (start ∷ []) in omega (arith, k);
}
  where
    whole : s.starts.items ≡ v.items ++ start ∷ []
    whole = last ∙ ap (λ (bs : List ℕ). bs ++ start ∷ []) (sym less)

    old : (b : ℕ) → In b v.items → In b s.starts.items
    old b i = let P : List ℕ → Type 0 = λ bs. In b bs in subst P (sym whole) (in_front b v.items (start ∷ []) i)

    first : In 0 v.items ⊎ (0 ≡ start) → In 0 v.items
    first (inl i) = i
    first (inr e) = absurd (omega (arith, e, below))

-- where the last that waits is before a place, all are
pub waiting_below : (ws : List (ℕ × ℕ)) (place x start : ℕ) → Rises (λ p q. p ≤ q) (places ws) → IsLast ws (place, x) → place < start → (p y : ℕ) → In (p, y) ws → p < start
waiting_below ws place x start rise last below p y i =
    let front : List (ℕ × ℕ) = take (length ws - 1) ws in
    let P : List ℕ → Type 0 = λ ps. Rises (λ p q. p ≤ q) ps in
    let Q : List ℕ → Type 0 = λ ps. In p ps in
    let e : places ws ≡ places front ++ place ∷ [] = ap places last ∙ places_append front ((place, x) ∷ []) in
    by (rise_last (λ p q. p ≤ q) (places front) place (subst P e rise) p) (in_last p (places front) place (subst Q e (in_places p y ws i)))
  where
    by : (In p (places (take (length ws - 1) ws)) → p ≤ place) → In p (places (take (length ws - 1) ws)) ⊎ (p ≡ place) → p < start
    by f (inl k) = let l : p ≤ place = f k in omega (arith, l, below)
    by f (inr e) = omega (arith, e, below)

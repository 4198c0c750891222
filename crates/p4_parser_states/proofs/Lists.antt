-- What stands in lists, and lists that rise.
use Rattle.std.proofs.Common.{◌≡◌, ◌⊎◌, inl, inr, ℕ, suc, ◌-◌, ◌<◌, ◌≤◌, List, [], ◌∷◌, ◌++◌, map, length, take, get_or, refl, sym, ◌∙◌, ap, subst, arith}
use Rattle.std.proofs.Math.Seq.{take-suc}
use Rattle.p4_parser_states.specs.Graphs.{In}
use Rattle.p4_parser_states.specs.Search.{Rises, places, IsLast}

-- ---- standing in a list

pub in_front : {A : Type 0} (a : A) (xs ys : List A) → In a xs → In a (xs ++ ys)
in_front a [] ys h = absurd h
in_front a (x ∷ xs) ys (inl e) = inl e
in_front a (x ∷ xs) ys (inr h) = inr (in_front a xs ys h)

pub in_behind : {A : Type 0} (a : A) (xs ys : List A) → In a ys → In a (xs ++ ys)
in_behind a [] ys h = h
in_behind a (x ∷ xs) ys h = inr (in_behind a xs ys h)

pub in_either : {A : Type 0} (a : A) (xs ys : List A) → In a (xs ++ ys) → In a xs ⊎ In a ys
in_either a [] ys h = inr h
in_either a (x ∷ xs) ys (inl e) = inl (inl e)
in_either a (x ∷ xs) ys (inr h) = go (in_either a xs ys h)
  where
    go : In a xs ⊎ In a ys → In a (x ∷ xs) ⊎ In a ys
    go (inl i) = inl (inr i)
    go (inr i) = inr i

pub in_last : {A : Type 0} (a : A) (xs : List A) (x : A) → In a (xs ++ x ∷ []) → In a xs ⊎ (a ≡ x)
in_last a xs x h = go (in_either a xs (x ∷ []) h)
  where
    go : In a xs ⊎ In a (x ∷ []) → In a xs ⊎ (a ≡ x)
    go (inl i) = inl i
    go (inr (inl e)) = inr e
    go (inr (inr i)) = absurd i

pub last_in : {A : Type 0} (xs : List A) (x : A) → In x (xs ++ x ∷ [])
last_in xs x = in_behind x xs (x ∷ []) (inl refl)

-- ---- rising lists

pub rise_front : (R : ℕ → ℕ → Type 0) (xs ys : List ℕ) → Rises R (xs ++ ys) → Rises R xs
rise_front R [] ys h = tt
rise_front R (x ∷ xs) ys h = (λ y i. h.0 y (in_front y xs ys i), rise_front R xs ys h.1)

pub rise_last : (R : ℕ → ℕ → Type 0) (xs : List ℕ) (y : ℕ) → Rises R (xs ++ y ∷ []) → (x : ℕ) → In x xs → R x y
rise_last R [] y h x i = absurd i
rise_last R (z ∷ xs) y h x (inl e) = let P : ℕ → Type 0 = λ u. R u y in subst P (sym e) (h.0 y (last_in xs y))
rise_last R (z ∷ xs) y h x (inr i) = rise_last R xs y h.1 x i

pub rise_more : (R : ℕ → ℕ → Type 0) (xs : List ℕ) (y : ℕ) → Rises R xs → ((x : ℕ) → In x xs → R x y) → Rises R (xs ++ y ∷ [])
rise_more R [] y h k = (λ x i. absurd i, tt)
rise_more R (z ∷ xs) y h k = (λ x i. step x (in_last x xs y i), rise_more R xs y h.1 (λ x i. k x (inr i)))
  where
    step : (x : ℕ) → In x xs ⊎ (x ≡ y) → R z x
    step x (inl i) = h.0 x i
    step x (inr e) = let P : ℕ → Type 0 = λ u. R z u in subst P (sym e) (k z (inl refl))

-- ---- places

pub places_append : (xs ys : List (ℕ × ℕ)) → places (xs ++ ys) ≡ places xs ++ places ys
places_append [] ys = refl
places_append (x ∷ xs) ys = ap (λ (zs : List ℕ). x.0 ∷ zs) (places_append xs ys)

pub in_places : (p x : ℕ) (ws : List (ℕ × ℕ)) → In (p, x) ws → In p (places ws)
in_places p x [] h = absurd h
in_places p x (w ∷ ws) (inl e) = inl (ap (λ (u : ℕ × ℕ). u.0) e)
in_places p x (w ∷ ws) (inr h) = inr (in_places p x ws h)

-- ---- the last of a list

pub last_of : {A : Type 0} (xs : List A) (d : A) → 0 < length xs → IsLast xs (get_or xs (length xs - 1) d)
last_of xs d h =
    let n : ℕ = length xs - 1 in
    let e : suc n ≡ length xs = omega (arith, h) in
    sym (ap (λ (k : ℕ). take k xs) e ∙ whole xs) ∙ take-suc xs n d (omega (arith, h))
  where
    whole : {A : Type 0} (ys : List A) → take (length ys) ys ≡ ys
    whole [] = refl
    whole (y ∷ ys) = ap (λ (zs : List _). y ∷ zs) (whole ys)

pub last_highest : (xs : List ℕ) (x : ℕ) → IsLast xs x → Rises (λ p q. p < q) xs → (b : ℕ) → In b xs → b ≤ x
last_highest xs x last rise b h =
    let front : List ℕ = take (length xs - 1) xs in
    let P : List ℕ → Type 0 = λ ys. Rises (λ p q. p < q) ys in
    let Q : List ℕ → Type 0 = λ ys. In b ys in
    by (rise_last (λ p q. p < q) front x (subst P last rise) b) (in_last b front x (subst Q last h))
  where
    by : (In b (take (length xs - 1) xs) → b < x) → In b (take (length xs - 1) xs) ⊎ (b ≡ x) → b ≤ x
    by f (inl i) = let k : b < x = f i in omega (arith, k)
    by f (inr e) = omega (arith, e)

-- ---- what waits behind one place

pub in_paired : (n : ℕ) (p x : ℕ) (ys : List ℕ) → In {A = ℕ × ℕ} (p, x) (map (λ y. (n, y)) ys) → (p ≡ n) × In x ys
in_paired n p x [] h = absurd h
in_paired n p x (y ∷ ys) (inl e) = (ap (λ (u : ℕ × ℕ). u.0) e, inl (ap (λ (u : ℕ × ℕ). u.1) e))
in_paired n p x (y ∷ ys) (inr h) = let k : (p ≡ n) × In x ys = in_paired n p x ys h in (k.0, inr k.1)

pub paired_in : (n x : ℕ) (ys : List ℕ) → In x ys → In {A = ℕ × ℕ} (n, x) (map (λ y. (n, y)) ys)
paired_in n x [] h = absurd h
paired_in n x (y ∷ ys) (inl e) = inl (ap (λ (z : ℕ). (n, z)) e)
paired_in n x (y ∷ ys) (inr h) = inr (paired_in n x ys h)

place_in_paired : (n p : ℕ) (ys : List ℕ) → In p (places (map (λ y. (n, y)) ys)) → p ≡ n
place_in_paired n p [] h = absurd h
place_in_paired n p (y ∷ ys) (inl e) = e
place_in_paired n p (y ∷ ys) (inr h) = place_in_paired n p ys h

pub places_in : (p : ℕ) (ws : List (ℕ × ℕ)) → In p (places ws) → (x : ℕ) × In (p, x) ws
places_in p [] h = absurd h
places_in p (w ∷ ws) (inl e) = (w.1, inl (ap (λ (q : ℕ). (q, w.1)) e))
places_in p (w ∷ ws) (inr h) = let k : (x : ℕ) × In (p, x) ws = places_in p ws h in (k.0, inr k.1)

paired_rise : (n : ℕ) (ys : List ℕ) → Rises (λ p q. p ≤ q) (places (map (λ y. (n, y)) ys))
paired_rise n [] = tt
paired_rise n (y ∷ ys) = (λ q i. let e : q ≡ n = place_in_paired n q ys i in omega (arith, e), paired_rise n ys)

rise_both : (xs ys : List ℕ) → Rises (λ p q. p ≤ q) xs → Rises (λ p q. p ≤ q) ys → ((p q : ℕ) → In p xs → In q ys → p ≤ q) → Rises (λ p q. p ≤ q) (xs ++ ys)
rise_both [] ys h k f = k
rise_both (x ∷ xs) ys h k f = (λ q i. step q (in_either q xs ys i), rise_both xs ys h.1 k (λ p q i j. f p q (inr i) j))
  where
    step : (q : ℕ) → In q xs ⊎ In q ys → x ≤ q
    step q (inl i) = h.0 q i
    step q (inr i) = f x q (inl refl) i

-- what waits goes on rising where more waits behind a place that is not below any
pub waiting_more : (ws : List (ℕ × ℕ)) (n : ℕ) (ys : List ℕ) → Rises (λ p q. p ≤ q) (places ws) → ((p : ℕ) → In p (places ws) → p ≤ n)
    → Rises (λ p q. p ≤ q) (places (ws ++ map (λ y. (n, y)) ys))
waiting_more ws n ys h k =
    let P : List ℕ → Type 0 = λ ps. Rises (λ p q. p ≤ q) ps in
    subst P (sym (places_append ws (map (λ y. (n, y)) ys)))
    (rise_both (places ws) (places (map (λ y. (n, y)) ys)) h (paired_rise n ys) (λ p q i j. let e : q ≡ n = place_in_paired n q ys j in let l : p ≤ n = k p i in omega (arith, e, l)))

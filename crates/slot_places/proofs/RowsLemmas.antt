-- Rows that are found by their paths, and rows with slots one behind the other.
use Rattle.std.proofs.Common.{◌≡◌, ℕ, ◌+◌, ◌<◌, ◌≤◌, List, [], ◌∷◌, ◌++◌, length, Bool, true, false, if◌then◌else◌, Option, Some, None, refl, sym, ap, ◌∙◌, subst, arith}
use Rattle.std.specs.Prelude.{is_none}
use Rattle.std.proofs.lemmas.Bool.{and_parts}
use Rattle.lex_text.specs.Names.{same_path}
use Rattle.slot_terms.specs.Places.{Place, Places, place_at, IsLaid}
use Rattle.slot_terms.proofs.LaidLemmas.{path_decides, some_is}
use Rattle.slot_places.specs.ProgramPlaces.{are_apart}

-- ---- what holds of each row

abbrev pub Each : (Place → Type 0) → List Place → Type 0
Each P [] = Unit {0}
Each P (r ∷ rs) = P r × Each P rs

pub each_append : (P : Place → Type 0) (xs ys : List Place) → Each P xs → Each P ys → Each P (xs ++ ys)
each_append P [] ys a b = b
each_append P (x ∷ xs) ys a b = (a.0, each_append P xs ys a.1 b)

pub each_behind : (P : Place → Type 0) (xs ys : List Place) → Each P (xs ++ ys) → Each P ys
each_behind P [] ys a = a
each_behind P (x ∷ xs) ys a = each_behind P xs ys a.1

pub each_front : (P : Place → Type 0) (xs ys : List Place) → Each P (xs ++ ys) → Each P xs
each_front P [] ys a = tt
each_front P (x ∷ xs) ys a = (a.0, each_front P xs ys a.1)

pub each_more : (P Q : Place → Type 0) → ((r : Place) → P r → Q r) → (xs : List Place) → Each P xs → Each Q xs
each_more P Q f [] a = tt
each_more P Q f (x ∷ xs) a = (f x a.0, each_more P Q f xs a.1)

-- a row that is found has the path, and what holds of each row
found_step : (P : Place → Type 0) (b : Bool) (r t : Place) (q : List (List ℕ)) (o : Option Place) → same_path r.path q ≡ b → P r → (o ≡ Some t → P t × (q ≡ t.path)) → (if b then Some r else o) ≡ Some t → P t × (q ≡ t.path)
found_step P true r t q o e h k s =
    let same : r ≡ t = some_is s in
    (subst P same h, sym ((path_decides r.path q).0 e) ∙ ap (λ (x : Place). x.path) same)
found_step P false r t q o e h k s = k s

pub found_is : (P : Place → Type 0) (rs : List Place) → Each P rs → (q : List (List ℕ)) (t : Place) → place_at rs q ≡ Some t → P t × (q ≡ t.path)
found_is P [] h q t e = absurd (cc e)
found_is P (r ∷ rs) h q t e = found_step P (same_path r.path q) r t q (place_at rs q) refl h.0 (λ k. found_is P rs h.1 q t k) e

-- ---- rows that are apart are found by their paths

none_is : (o : Option Place) → is_none o ≡ true → o ≡ None
none_is None e = refl
none_is (Some r) e = absurd (cc e)

own_path : (r : Place) (rs : List Place) → place_at (r ∷ rs) r.path ≡ Some r
own_path r rs = ap (λ b. if b then Some r else place_at rs r.path) ((path_decides r.path r.path).1 refl)

stays_found : (b : Bool) (r t : Place) (rs : List Place) → same_path r.path t.path ≡ b → place_at rs r.path ≡ None → place_at rs t.path ≡ Some t → place_at (r ∷ rs) t.path ≡ Some t
stays_found true r t rs e n h =
    let none : None ≡ Some t = sym n ∙ ap (place_at rs) ((path_decides r.path t.path).0 e) ∙ h in
    absurd (cc none)
stays_found false r t rs e n h = ap (λ b. if b then Some r else place_at rs t.path) e ∙ h

pub each_found : (rs : List Place) → are_apart rs ≡ true → Each (λ r. place_at rs r.path ≡ Some r) rs
each_found [] e = tt
each_found (r ∷ rs) e =
    let parts = and_parts (is_none (place_at rs r.path)) (are_apart rs) e in
    let none : place_at rs r.path ≡ None = none_is (place_at rs r.path) parts.0 in
    let more = each_found rs parts.1 in
    (own_path r rs, each_more (λ t. place_at rs t.path ≡ Some t) (λ t. place_at (r ∷ rs) t.path ≡ Some t) (λ t h. stays_found (same_path r.path t.path) r t rs refl none h) rs more)

-- ---- slots one behind the other

-- rows have the slots from one on
abbrev pub AreNumbered : List Place → ℕ → Type 0
AreNumbered [] i = Unit {0}
AreNumbered (r ∷ rs) i = (r.slot ≡ i) × AreNumbered rs (i + 1)

pub numbered_append : (xs ys : List Place) (i j : ℕ) → j ≡ i + length xs → AreNumbered xs i → AreNumbered ys j → AreNumbered (xs ++ ys) i
numbered_append [] ys i j e a b = let same : j ≡ i = omega (arith, e) in subst (AreNumbered ys) same b
numbered_append (x ∷ xs) ys i j e a b = let next : j ≡ i + 1 + length xs = omega (arith, e) in (a.0, numbered_append xs ys (i + 1) j next a.1 b)

-- the slot of a row is among these
abbrev pub Within : ℕ → ℕ → Place → Type 0
Within i j r = (i ≤ r.slot) × (r.slot < j)

pub slots_within : (rs : List Place) (i : ℕ) → AreNumbered rs i → Each (Within i (i + length rs)) rs
slots_within [] i a = tt
slots_within (r ∷ rs) i a =
    let more = slots_within rs (i + 1) a.1 in
    ((omega (arith, a.0), omega (arith, a.0)), each_more (Within (i + 1) (i + 1 + length rs)) (Within i (i + length (r ∷ rs))) (λ t h. (omega (arith, h.0), omega (arith, h.1))) rs more)

-- two paths with one slot are one path
single_step :
    (b c : Bool) (p q : List (List ℕ)) (r u t : Place) (o w : Option Place) → same_path r.path p ≡ b → same_path r.path q ≡ c
    → (o ≡ Some u → r.slot < u.slot) → (w ≡ Some t → r.slot < t.slot) → (o ≡ Some u → w ≡ Some t → p ≡ q) → (if b then Some r else o) ≡ Some u → (if c then Some r else w) ≡ Some t → u.slot ≡ t.slot → p ≡ q
single_step true true p q r u t o w e g left right more a d s = sym ((path_decides r.path p).0 e) ∙ (path_decides r.path q).0 g
single_step true false p q r u t o w e g left right more a d s =
    let same : r.slot ≡ u.slot = ap (λ (x : Place). x.slot) (some_is a) in
    absurd (omega (arith, right d, same, s))
single_step false true p q r u t o w e g left right more a d s =
    let same : r.slot ≡ t.slot = ap (λ (x : Place). x.slot) (some_is d) in
    absurd (omega (arith, left a, same, s))
single_step false false p q r u t o w e g left right more a d s = more a d

pub single : (rs : List Place) (i : ℕ) → AreNumbered rs i → (p q : List (List ℕ)) (r t : Place) → place_at rs p ≡ Some r → place_at rs q ≡ Some t → r.slot ≡ t.slot → p ≡ q
single [] i n p q r t a d s = absurd (cc a)
single (x ∷ rs) i n p q r t a d s =
    let within = slots_within rs (i + 1) n.1 in
    let behind : (z : List (List ℕ)) (u : Place) → place_at rs z ≡ Some u → x.slot < u.slot =
    λ z u k. let w = (found_is (Within (i + 1) (i + 1 + length rs)) rs within z u k).0 in omega (arith, w.0, n.0) in
    single_step (same_path x.path p) (same_path x.path q) p q x r t (place_at rs p) (place_at rs q) refl refl (behind p r) (behind q t) (λ k l. single rs (i + 1) n.1 p q r t k l s) a d s

pub rows_laid : (m : Places) → AreNumbered m.rows 0 → m.next ≡ length m.rows → m.next ≤ m.size → IsLaid m
rows_laid m numbered next room =
    let within = slots_within m.rows 0 numbered in
    record {
      below = λ p r e. let w = (found_is (Within 0 (0 + length m.rows)) m.rows within p r e).0 in omega (arith, w.1, next);
      single = λ p q r t a d s. single m.rows 0 numbered p q r t a d s;
      within = room;
    }

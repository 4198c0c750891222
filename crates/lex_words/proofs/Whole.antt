-- All lexemes of a list: what is read of them, and what a fault says, for any reader with the three laws.
--
-- A tree that began with the lexemes up to a dead one would be read (`complete`), where the reading of these lexemes says
-- fault, whatever stands behind them (`follows`); what is read is spelled (`sound`).
use Rattle.std.proofs.Common.{◌≡◌, ℕ, zero, suc, ◌+◌, ◌≤◌, ◌<◌, Bool, true, false, cond, List, [], ◌∷◌, ◌++◌, length, take, drop, Some, Result, Ok, Err, refl, sym, ap, subst, ◌∙◌, arith, ◌⊎◌, inl, inr, append_assoc}
use Rattle.std.proofs.lemmas.List.{append-nil, length-append, take_at, length-take, take-append-drop}
use Rattle.std.proofs.lemmas.Bool.{cases_lt}
use Rattle.std.proofs.lemmas.Bool.Decides.{nat_tests}
use Rattle.std.proofs.lemmas.Option.{slice_get_within}
use Rattle.std.specs.Prelude.{slice_get, nat_lt}
use Rattle.lex_words.specs.Seen.{Lexeme}
use Rattle.lex_words.specs.Brackets.{open_behind, left}
use Rattle.lex_words.specs.Faults.{HasFewOpen, IsWithin, Begun, IsSyntax, HasRoom, IsTooDeep}
use Rattle.lex_words.specs.Reading.{Fault, wrong, high, deep, Read, all_read}
use Rattle.lex_words.proofs.Standing.{Stands, Stands-length, Stands-within}
use Rattle.lex_words.proofs.Locality.{Follows, Shows}
use Rattle.lex_words.proofs.Spelled.{Ends, Begins, Stops, Reads, Sound}
use Rattle.lex_words.proofs.OpenBehind.{few_open, too_many}

-- ---- fronts of a list

drop-get : (ws : List Lexeme) (p : ℕ) (w : Lexeme) → slice_get ws p ≡ Some w → drop p ws ≡ w ∷ drop (p + 1) ws
drop-get [] p w e = absurd cc
drop-get (x ∷ ws) zero w e = let s : x ≡ w = cc in ap (λ y. y ∷ ws) s
drop-get (x ∷ ws) (suc p) w e = let n : suc (p + 1) ≡ suc p + 1 = omega arith in drop-get ws p w e ∙ ap (λ k. w ∷ drop k (x ∷ ws)) n

Stands-drop : (ws : List Lexeme) (p q : ℕ) (u : List Lexeme) → Stands ws p u q → drop p ws ≡ u ++ drop q ws
Stands-drop ws p q [] s = ap (λ x. drop x ws) s
Stands-drop ws p q (w ∷ u) s = drop-get ws p w s.0 ∙ ap (λ x. w ∷ x) (Stands-drop ws (p + 1) q u s.1)

Stands-take : (ws : List Lexeme) (q : ℕ) (u : List Lexeme) → Stands ws 0 u q → u ≡ take q ws
Stands-take ws q u s =
    let e : ws ≡ u ++ drop q ws = Stands-drop ws 0 q u s in
    let n : q ≡ length u = Stands-length ws 0 q u s ∙ omega arith in
    sym (take_at u (drop q ws) q (sym n)) ∙ ap (take q) (sym e)

pub take-next : (ws : List Lexeme) (q : ℕ) (w : Lexeme) → slice_get ws q ≡ Some w → take (q + 1) ws ≡ take q ws ++ w ∷ []
take-next [] q w e = absurd cc
take-next (x ∷ ws) zero w e = let s : x ≡ w = cc in ap (λ y. y ∷ []) s
take-next (x ∷ ws) (suc q) w e = let n : suc q + 1 ≡ suc (q + 1) = omega arith in rw n (ap (λ y. x ∷ y) (take-next ws q w e))

get-same : (f a b : List Lexeme) (k : ℕ) → k < length f → slice_get (f ++ a) k ≡ slice_get (f ++ b) k
get-same [] a b k lt = absurd (omega arith)
get-same (x ∷ f) a b zero lt = refl
get-same (x ∷ f) a b (suc k) lt = get-same f a b k (omega arith)

-- lexemes that begin alike agree
Agree-begun : (ws back : List Lexeme) (q : ℕ) → q < length ws → (k : ℕ) → k ≤ q → slice_get ws k ≡ slice_get (take (q + 1) ws ++ back) k
Agree-begun ws back q lt k le =
    let e : take (q + 1) ws ++ drop (q + 1) ws ≡ ws = take-append-drop (q + 1) ws in
    ap (λ x. slice_get x k) (sym e) ∙ get-same (take (q + 1) ws) (drop (q + 1) ws) back k (omega (arith, length-take (q + 1) ws))

pub take-all : (ws : List Lexeme) → take (length ws) ws ≡ ws
take-all ws = let e = take_at ws [] (length ws) refl in subst (λ x. take (length ws) x ≡ ws) (append-nil ws) e

-- ---- readings

-- The reader of a grammar gets the lexemes, how many turns each loop may make, how many brackets may be open, and one less than how high the tree may be.
module _ {T : Type 0} (Spells : T → List Lexeme → Type 0) (height : T → ℕ) (reader : List Lexeme → (n b h : ℕ) → Read T)
    (follows : (ws vs : List Lexeme) (Hs Bs : Type 0) (n m : ℕ) → n ≤ m → (h i : ℕ) → h ≤ i → (Hs → h ≡ i) → (b c : ℕ) → b ≤ c → (Bs → b ≡ c) → Follows ws vs Hs Bs 0 (reader ws n b h) (reader vs m c i))
    (complete : (ws : List Lexeme) (t : T) → Spells t ws → (n h b : ℕ) → length ws < n → height t ≤ h + 1 → left b ws ≡ Some b → reader ws n b h ≡ Ok (t, length ws))
    (even : (ws : List Lexeme) (t : T) → Spells t ws → (b : ℕ) → length ws < b → left b ws ≡ Some b) where
  abbrev ok : T → ℕ → Read T
  ok t q = Ok (t, q)

  abbrev err : Fault → Read T
  err f = Err f

  abbrev place_of : Read T → ℕ
  place_of (Ok x) = x.1
  place_of (Err f) = 0

  abbrev tree_in : T → Read T → T
  tree_in d (Ok x) = x.0
  tree_in d (Err f) = d

  -- lexemes spell one tree at most
  pub unique : (ws : List Lexeme) (s t : T) → Spells s ws → Spells t ws → s ≡ t
  unique u s t x y =
      let h : ℕ = height s + height t in
      let a = complete u s x (length u + 1) h (length u + 1) (omega arith) (omega arith) (even u s x (length u + 1) (omega arith)) in
      let b = complete u t y (length u + 1) h (length u + 1) (omega arith) (omega arith) (even u t y (length u + 1) (omega arith)) in
      let c : ok s (length u) ≡ ok t (length u) = sym a ∙ b in
      ap (tree_in s) c

  -- low: one less than the limit. least: a tree within it
  module _ (low : ℕ) (sound : (ws : List Lexeme) (n : ℕ) → Reads ws Spells (λ t. height t ≤ low + 1) (low + 1) (low + 1) 0 (reader ws n (low + 1) low)) (least : Ends Spells (λ t. height t ≤ low + 1) []) (ws : List Lexeme) where
    abbrev limit : ℕ
    limit = low + 1

    -- the reading of this list
    abbrev reads : Read T
    reads = reader ws (length ws + 1) limit low

    -- ---- the same result from lexemes that begin alike, with more room

    module _ (q : ℕ) (lt : q < length ws) (t : T) (x : Begun Spells (take (q + 1) ws) t) where
      abbrev other : List Lexeme
      other = take (q + 1) ws ++ x.back

      abbrev turns : ℕ
      turns = length ws + 1 + (length other + 1)

      abbrev room : ℕ
      room = limit + length other

      -- it is read as t
      other_is : (h : ℕ) → height t ≤ h + 1 → reader other turns room h ≡ Ok (t, length other)
      other_is h le = complete other t x.spells turns h room (omega arith) le (even other t x.spells room (omega arith))

      long : q < length other
      long = omega (arith, length-append (take (q + 1) ws) x.back, length-take (q + 1) ws)

      not_wrong : reads ≡ err (wrong q) → ⊥
      not_wrong e =
          let f = follows ws other ⊥ ⊥ (length ws + 1) turns (omega arith) low (low + height t) (omega arith) (λ v. absurd v) limit room (omega arith) (λ v. absurd v) in
          let g = (subst (λ r. Shows ws other ⊥ ⊥ 0 r (reader other turns room (low + height t))) e f.shows).1 (Agree-begun ws x.back q lt) in
          let o = other_is (low + height t) (omega arith) in
          let a : ok t (length other) ≡ err (wrong q) = sym o ∙ g in cc

      is_higher : reads ≡ err (high q) → limit < height t
      is_higher e = elim (cases_lt limit (height t)) [
        | inl lt ↦ lt
        | inr le ↦
            let f = follows ws other (Unit {0}) ⊥ (length ws + 1) turns (omega arith) low low (omega arith) (λ v. refl) limit room (omega arith) (λ v. absurd v) in
            let g = (subst (λ r. Shows ws other (Unit {0}) ⊥ 0 r (reader other turns room low)) e f.shows).1 (Agree-begun ws x.back q lt) tt in
            let o = other_is low le in
            let a : ok t (length other) ≡ err (high q) = sym o ∙ g in absurd cc
      ]

      pub not_ended : (s : T) → reads ≡ ok s q → ⊥
      not_ended s e =
          let f = follows ws other ⊥ ⊥ (length ws + 1) turns (omega arith) low (low + height t) (omega arith) (λ v. absurd v) limit room (omega arith) (λ v. absurd v) in
          let g = (subst (λ r. Shows ws other ⊥ ⊥ 0 r (reader other turns room (low + height t))) e f.shows).1 (Agree-begun ws x.back q lt) in
          let o = other_is (low + height t) (omega arith) in
          let a : ok t (length other) ≡ ok s q = sym o ∙ g in
          let b : length other ≡ q = ap place_of a in
          absurd (omega (arith, b, long))

    -- ---- what was read

    abbrev Told_of : Read T → Type 0
    Told_of r = Sound ws Spells (λ t. height t ≤ limit) limit limit 0 r

    told : (r : Read T) → reads ≡ r → Told_of r
    told r e = subst Told_of e (sound ws (length ws + 1)).sound

    -- the lexemes that were read
    pub ends_at : (t : T) (q : ℕ) → reads ≡ ok t q → (q ≤ length ws) × Spells t (take q ws) × (height t ≤ limit) × (left limit (take q ws) ≡ Some limit)
    ends_at t q e =
        let s = told (ok t q) e in
        let same : s.lexemes ≡ take q ws = Stands-take ws q s.lexemes s.stands in
        (Stands-within ws 0 q s.lexemes (omega arith) s.stands, subst (λ x. Spells t x) same s.spells, s.bound, subst (λ x. left limit x ≡ Some limit) same s.leaves)

    begins_low : (front : List Lexeme) → Ends Spells (λ t. height t ≤ limit) front → (t : T) × Begun Spells front t × (height t ≤ limit)
    begins_low front e = (e.0, record { back = e.1; spells = e.2 }, e.3)

    front_low : (front : List Lexeme) → (front ≡ []) ⊎ Ends Spells (λ t. height t ≤ limit) front → (t : T) × Begun Spells front t × (height t ≤ limit)
    front_low front (inl e) = subst (λ f. (t : T) × Begun Spells f t × (height t ≤ limit)) (sym e) (begins_low [] least)
    front_low front (inr e) = begins_low front e

    -- the lexemes before a fault
    front_room : (q : ℕ) → Begins ws Spells (λ t. height t ≤ limit) limit 0 q → HasRoom Spells height limit (take q ws)
    front_room q s = subst (λ f. HasRoom Spells height limit f) (Stands-take ws q s.front s.stands) (record {
      low = front_low s.front s.begun;
      few = few_open limit s.room s.front s.leaves;
    })

    -- no tree at all
    no_tree : (q : ℕ) → reads ≡ err (wrong q) → (t : T) → Spells t ws → ⊥
    no_tree q e t x =
        let m : ℕ = length ws + 1 in
        let b : ℕ = limit + length ws in
        let f = follows ws ws ⊥ ⊥ m m (omega arith) low (low + height t) (omega arith) (λ v. absurd v) limit b (omega arith) (λ v. absurd v) in
        let g = (subst (λ r. Shows ws ws ⊥ ⊥ 0 r (reader ws m b (low + height t))) e f.shows).1 (λ k le. refl) in
        let o = complete ws t x m (low + height t) b (omega arith) (omega arith) (even ws t x b (omega arith)) in
        let a : ok t (length ws) ≡ err (wrong q) = sym o ∙ g in cc

    -- the same place in both, since the whole is spelled
    ended_early : (s : T) (q : ℕ) → reads ≡ ok s q → q < length ws → IsSyntax Spells height limit ws q
    ended_early s q e lt =
        let r = ends_at s q e in
        record {
          before = record { low = (s, record { back = []; spells = subst (λ x. Spells s x) (sym (append-nil (take q ws))) r.1 }, r.2); few = few_open limit limit (take q ws) r.3 };
          dead = inl (lt, λ t x. not_ended q lt t x s e);
        }

    pub wrong_is : (q : ℕ) → reads ≡ err (wrong q) → IsSyntax Spells height limit ws q
    wrong_is q e =
        let s = told (err (wrong q)) e in
        let within = Stands-within ws 0 q s.front (omega arith) s.stands in
        record {
          before = front_room q s;
          dead = elim (cases_lt q (length ws)) [
            | inl lt ↦ inl (lt, λ t x. not_wrong q lt t x e)
            | inr le ↦ inr (omega (arith, le, within), no_tree q e)
          ];
        }

    -- ---- where a limit is passed

    abbrev Stopped : ℕ → Type 0
    Stopped q = Stops ws Spells (λ t. height t ≤ limit) limit 0 q

    stopped_within : (q : ℕ) → Stopped q → q < length ws
    stopped_within q s = slice_get_within ws q s.last s.here

    stopped_at : (q : ℕ) (s : Stopped q) → take (q + 1) ws ≡ s.before.front ++ s.last ∷ []
    stopped_at q s = take-next ws q s.last s.here ∙ ap (λ x. x ++ s.last ∷ []) (sym (Stands-take ws q s.before.front s.before.stands))

    stopped_begun : (q : ℕ) → Stopped q → (t : T) × Begun Spells (take (q + 1) ws) t
    stopped_begun q s =
        (s.value, record { back = s.back; spells = subst (λ x. Spells s.value (x ++ s.back)) (sym (stopped_at q s)) (rw (append_assoc s.before.front (s.last ∷ []) s.back) s.spells) })

    pub high_is : (q : ℕ) → reads ≡ err (high q) → IsTooDeep Spells height limit ws q
    high_is q e =
        let s = told (err (high q)) e in
        record {
          inside = stopped_within q s;
          begun = stopped_begun q s;
          before = front_room q s.before;
          past = inl (λ t x. is_higher q (stopped_within q s) t x e);
        }

    pub deep_is : (q : ℕ) → reads ≡ err (deep q) → IsTooDeep Spells height limit ws q
    deep_is q e =
        let s = told (err (deep q)) e in
        record {
          inside = stopped_within q s.stops;
          begun = stopped_begun q s.stops;
          before = front_room q s.stops.before;
          past = inr (subst (λ x. limit < open_behind x) (sym (stopped_at q s.stops)) (too_many limit s.stops.before.room s.stops.before.front s.stops.last s.stops.before.leaves s.over));
        }

    -- ---- all lexemes

    abbrev pub answer : Result T Fault
    answer = all_read ws reads

    abbrev to_tree : T → Result T Fault
    to_tree t = Ok t

    abbrev to_fault : Fault → Result T Fault
    to_fault f = Err f

    found_of : (r : Read T) (t : T) → reads ≡ r → all_read ws r ≡ to_tree t → IsWithin Spells height limit ws t
    unfolding all_read
    found_of (Err f) t e a = absurd cc
    found_of (Ok x) t e a = go (nat_lt x.1 (length ws)) refl a
      where
        go : (y : Bool) → nat_lt x.1 (length ws) ≡ y → cond y (to_fault (wrong x.1)) (to_tree x.0) ≡ to_tree t → IsWithin Spells height limit ws t
        go true is b = absurd cc
        go false is b =
            let r = ends_at x.0 x.1 e in
            let le : length ws ≤ x.1 = grind (arith, nat_tests, is) in
            let n : x.1 ≡ length ws = omega (arith, le, r.0) in
            let same : take x.1 ws ≡ ws = ap (λ k. take k ws) n ∙ take-all ws in
            let i : x.0 ≡ t = cc in
            subst (λ y. IsWithin Spells height limit ws y) i (record {
              spells = subst (λ v. Spells x.0 v) same r.1;
              low = r.2;
              few = subst (HasFewOpen limit) same (few_open limit limit (take x.1 ws) r.3);
            })

    pub found : (t : T) → answer ≡ Ok t → IsWithin Spells height limit ws t
    found t e = found_of reads t refl e

    wrong_of : (r : Read T) (q : ℕ) → reads ≡ r → all_read ws r ≡ to_fault (wrong q) → IsSyntax Spells height limit ws q
    unfolding all_read
    wrong_of (Err f) q e a = wrong_is q (let i : f ≡ wrong q = cc in e ∙ ap err i)
    wrong_of (Ok x) q e a = go (nat_lt x.1 (length ws)) refl a
      where
        go : (y : Bool) → nat_lt x.1 (length ws) ≡ y → cond y (to_fault (wrong x.1)) (to_tree x.0) ≡ to_fault (wrong q) → IsSyntax Spells height limit ws q
        go false is b = absurd cc
        go true is b =
            let lt : x.1 < length ws = grind (arith, nat_tests, is) in
            let i : x.1 ≡ q = cc in
            subst (λ k. IsSyntax Spells height limit ws k) i (ended_early x.0 x.1 e lt)

    pub wrong_answer : (q : ℕ) → answer ≡ Err (wrong q) → IsSyntax Spells height limit ws q
    wrong_answer q e = wrong_of reads q refl e

    -- a fault of another kind is the reader's
    other_of : (r : Read T) (f : Fault) → ((q : ℕ) → f ≡ wrong q → ⊥) → all_read ws r ≡ to_fault f → r ≡ err f
    unfolding all_read
    other_of (Err g) f no_wrong a = let i : g ≡ f = cc in ap err i
    other_of (Ok x) f no_wrong a = go (nat_lt x.1 (length ws)) a
      where
        go : (y : Bool) → cond y (to_fault (wrong x.1)) (to_tree x.0) ≡ to_fault f → ok x.0 x.1 ≡ err f
        go false b = absurd cc
        go true b = absurd (no_wrong x.1 cc)

    pub high_answer : (q : ℕ) → answer ≡ Err (high q) → IsTooDeep Spells height limit ws q
    high_answer q e = high_is q (other_of reads (high q) (λ p i. cc) e)

    pub deep_answer : (q : ℕ) → answer ≡ Err (deep q) → IsTooDeep Spells height limit ws q
    deep_answer q e = deep_is q (other_of reads (deep q) (λ p i. cc) e)

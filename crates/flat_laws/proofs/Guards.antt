-- What a turn tests: that each of the loop's lists has an item there. Each list is tested once.
use Rattle.std.proofs.Common.{◌≡◌, ◌⊎◌, inl, inr, ⊎_elim, ℕ, zero, suc, ◌+◌, ◌<◌, ◌≤◌, List, [], ◌∷◌, ◌++◌, length, map, Bool, true, false, ◌&&◌, ◌||◌, cond, refl, sym, ap, ap₂, ◌∙◌, arith, subst, nat_eq, nat_lt, min}
use Rattle.std.specs.Prelude.{slice_index}
use Rattle.std.specs.List.{list_any}
use Rattle.std.proofs.lemmas.Bool.{cases_lt, lt-ltb, le-ltb}
use Rattle.std.proofs.lemmas.Bool.Decides.{Decides-eqb}
use Rattle.bit_values.specs.Bits.{Word, word}
use Rattle.bit_values.specs.Widths.{bit}
use Rattle.indus_tree.specs.Reads.{Seen, name_word}
use Rattle.indus_tree.specs.Value.{value_of}
use Rattle.lower_lists.specs.Names.{count_name}
use Rattle.lower_lists.specs.Flat.{has_item, all_have, distinct, distinct_behind}
use Rattle.flat_laws.proofs.Writes.{more_is}
use Rattle.flat_laws.proofs.Joined.{range, every, every_value}

and_assoc : (a b c : Bool) → ((a && b) && c) ≡ (a && (b && c))
and_assoc true b c = refl
and_assoc false b c = refl

and_true : (a : Bool) → (a && true) ≡ a
and_true true = refl
and_true false = refl

-- each of a list passes a test
abbrev pub all : (q : ℕ → Bool) → List ℕ → Bool
all q [] = true
all q (v ∷ vs) = q v && all q vs

every_front : (t : ℕ → Bool) (n : ℕ) → every t (suc n) ≡ (t 0 && every (λ k. t (suc k)) n)
every_front t zero = sym (and_true (t 0))
every_front t (suc n) =
    let s : 0 + suc n ≡ suc (0 + n) = omega arith in
    ap₂ ◌&&◌ (every_front t n) (ap t s) ∙ and_assoc (t 0) (every (λ k. t (suc k)) n) (t (suc (0 + n)))

every_all : (q : ℕ → Bool) (vs : List ℕ) → every (λ k. q (slice_index vs k)) (length vs) ≡ all q vs
every_all q [] = refl
every_all q (v ∷ vs) = every_front (λ k. q (slice_index (v ∷ vs) k)) (length vs) ∙ ap (λ b. q v && b) (every_all q vs)

all-append : (q : ℕ → Bool) (us vs : List ℕ) → all q (us ++ vs) ≡ (all q us && all q vs)
all-append q [] vs = refl
all-append q (u ∷ us) vs = ap (λ b. q u && b) (all-append q us vs) ∙ sym (and_assoc (q u) (all q us) (all q vs))

-- what is there already says nothing new
again_at : (a b c : Bool) → (a && (b && c)) ≡ ((a && b) && c)
again_at true b c = refl
again_at false b c = refl

absorbs : (a : Bool) (rest both : Bool) → rest ≡ both → (a && rest) ≡ (a && both)
absorbs a rest both e = ap (λ b. a && b) e

twice : (a b : Bool) → (a && b) ≡ ((a && b) && a)
twice true b = sym (and_true b)
twice false b = refl

kept_says : (q : ℕ → Bool) (v : ℕ) (kept : List ℕ) → list_any (λ k. nat_eq k v) kept ≡ true → all q kept ≡ (all q kept && q v)
kept_says q v [] e = absurd (let c : false ≡ true = e in cc)
kept_says q v (u ∷ us) e = by_head (nat_eq u v) refl e (kept_says q v us)
  where
    by_head : (b : Bool) → nat_eq u v ≡ b → (b || list_any (λ k. nat_eq k v) us) ≡ true → (list_any (λ k. nat_eq k v) us ≡ true → all q us ≡ (all q us && q v)) → (q u && all q us) ≡ ((q u && all q us) && q v)
    by_head true s t rest = twice (q u) (all q us) ∙ ap (λ x. (q u && all q us) && q x) ((Decides-eqb u v).0 s)
    by_head false s t rest = ap (λ b. q u && b) (rest t) ∙ again_at (q u) (all q us) (q v)

behind_all : (q : ℕ → Bool) (kept vs : List ℕ) → all q (distinct_behind kept vs) ≡ (all q kept && all q vs)
behind_all q kept [] = sym (and_true (all q kept))
behind_all q kept (v ∷ vs) =
    behind_all q (cond (list_any (λ k. nat_eq k v) kept) kept (kept ++ v ∷ [])) vs
    ∙ ap (λ b. b && all q vs) (by_there (list_any (λ k. nat_eq k v) kept) refl)
    ∙ and_assoc (all q kept) (q v) (all q vs)
  where
    by_there : (b : Bool) → list_any (λ k. nat_eq k v) kept ≡ b → all q (cond b kept (kept ++ v ∷ [])) ≡ (all q kept && q v)
    by_there true e = kept_says q v kept e
    by_there false e = all-append q kept (v ∷ []) ∙ ap (λ b. all q kept && b) (and_true (q v))

pub distinct_all : (q : ℕ → Bool) (vs : List ℕ) → all q (distinct vs) ≡ all q vs
distinct_all q vs = behind_all q [] vs

-- ---- facts of each number of a list

abbrev pub Each : (P : ℕ → Type 0) → List ℕ → Type 0
Each P [] = Unit {0}
Each P (v ∷ vs) = P v × Each P vs

each-append : (P : ℕ → Type 0) (us : List ℕ) (v : ℕ) → Each P us → P v → Each P (us ++ v ∷ [])
each-append P [] v e p = (p, tt)
each-append P (u ∷ us) v e p = (e.0, each-append P us v e.1 p)

pub each_behind : (P : ℕ → Type 0) (kept vs : List ℕ) → Each P kept → Each P vs → Each P (distinct_behind kept vs)
each_behind P kept [] k e = k
each_behind P kept (v ∷ vs) k e = each_behind P (cond (list_any (λ k. nat_eq k v) kept) kept (kept ++ v ∷ [])) vs (by_there (list_any (λ k. nat_eq k v) kept)) e.1
  where
    by_there : (b : Bool) → Each P (cond b kept (kept ++ v ∷ []))
    by_there true = k
    by_there false = each-append P kept v k e.0

pub each_at : (P : ℕ → Type 0) (vs : List ℕ) (i : ℕ) → i < length vs → Each P vs → P (slice_index vs i)
each_at P [] i lt e = absurd (omega arith)
each_at P (v ∷ vs) zero lt e = e.0
each_at P (v ∷ vs) (suc i) lt e = each_at P vs i (omega arith) e.1

-- ---- the test of a turn

-- a numbered count reads a number
pub record Counts (s : Seen) (count : ℕ → ℕ) (v : ℕ) : Type 0 where
  pub is : name_word s (count_name v) ≡ word 8 (count v)
  pub small : count v < 256

pub all_have_is : (s : Seen) (count : ℕ → ℕ) (p : ℕ) (vs : List ℕ) (k w : ℕ) → k < 256 → Each (Counts s count) vs → value_of s (all_have p (distinct vs) k) w ≡ bit (all (λ v. nat_lt k (count v)) vs)
all_have_is s count p vs k w lk e =
    let kept : Each (Counts s count) (distinct vs) = each_behind (Counts s count) [] vs tt e in
    every_value s p (λ j. has_item p (slice_index (distinct vs) j) k) (λ j. nat_lt k (count (slice_index (distinct vs) j))) (length (distinct vs)) w
    (λ j m lt. let c = each_at (Counts s count) (distinct vs) j lt kept in more_is s p (count_name (slice_index (distinct vs) j)) (count (slice_index (distinct vs) j)) c.is c.small k lk m)
    ∙ ap bit (every_all (λ v. nat_lt k (count v)) (distinct vs) ∙ distinct_all (λ v. nat_lt k (count v)) vs)

pub below_both : (k a b : ℕ) → nat_lt k (min a b) ≡ (nat_lt k a && nat_lt k b)
below_both k a b =
    ⊎_elim
    (λ (la : k < a).
    ⊎_elim
    (λ (lb : k < b). lt-ltb k (min a b) (omega arith) ∙ sym (ap₂ ◌&&◌ (lt-ltb k a la) (lt-ltb k b lb)))
    (λ (gb : b ≤ k). le-ltb k (min a b) (omega arith) ∙ sym (ap₂ ◌&&◌ (lt-ltb k a la) (le-ltb k b gb)))
    (cases_lt k b))
    (λ (ga : a ≤ k). le-ltb k (min a b) (omega arith) ∙ sym (ap (λ c. c && nat_lt k b) (le-ltb k a ga)))
    (cases_lt k a)

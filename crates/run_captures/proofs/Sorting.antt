-- Frames, sorted by their numbers one after the other.
use Rattle.std.proofs.Common.{◌≡◌, ◌≢◌, ℕ, zero, suc, ◌+◌, map, take, ◌<◌, ◌≤◌, ◌==◌, ◌&&◌, List, [], ◌∷◌, ◌++◌, length, set, get_or, Bool, true, false, if◌then◌else◌, refl, sym, ap, ◌∙◌, subst, arith, eqb-true}
use Rattle.std.proofs.lemmas.Bool.{eqb-false}
use Rattle.std.proofs.lemmas.List.{get_or-set_same, get_or-set_other, length-set, map_push}
use Rattle.std.proofs.Math.Seq.{take-suc}
use Rattle.network_run.specs.Network.{Sent}
use Rattle.pcap_io.specs.Record.{Record}
use Rattle.run_captures.specs.Captures.{Time, record_for, frames_at}
use Rattle.run_captures.specs.Sorted.{switch_of, port_of, those_at, AreSorted}

-- one frame more, where it is of the number
one_more : (key : Sent → ℕ) (n : ℕ) (xs : List Sent) (x : Sent)
    → those_at key n (xs ++ x ∷ []) ≡ (if key x == n then those_at key n xs ++ x ∷ [] else those_at key n xs)
one_more key n [] x = refl
one_more key n (y ∷ ys) x = by (key y == n) (key x == n) (one_more key n ys x)
  where
    by : (a b : Bool) → those_at key n (ys ++ x ∷ []) ≡ (if b then those_at key n ys ++ x ∷ [] else those_at key n ys)
        → (if a then y ∷ those_at key n (ys ++ x ∷ []) else those_at key n (ys ++ x ∷ []))
        ≡ (if b then (if a then y ∷ those_at key n ys else those_at key n ys) ++ x ∷ [] else (if a then y ∷ those_at key n ys else those_at key n ys))
    by true true h = ap (λ l. y ∷ l) h
    by true false h = ap (λ l. y ∷ l) h
    by false true h = h
    by false false h = h

module _ (key : Sent → ℕ) (count : ℕ) (xs : List Sent) (x : Sent) (ls : List (List Sent)) (so_far : AreSorted key count xs ls) where
  here : (n : ℕ) (b : Bool) → (key x == n) ≡ b → those_at key n (xs ++ x ∷ []) ≡ (if b then those_at key n xs ++ x ∷ [] else those_at key n xs)
  here n b e = one_more key n xs x ∙ ap (λ c. if c then those_at key n xs ++ x ∷ [] else those_at key n xs) e

  -- a frame of no number of these
  pub is_passed : length ls ≤ key x → AreSorted key count (xs ++ x ∷ []) ls
  is_passed over = record {
    count = so_far.count;
    each = λ n low. by n low (key x == n) refl;
  }
    where
      by : (n : ℕ) → n < count → (b : Bool) → (key x == n) ≡ b → get_or ls n [] ≡ those_at key n (xs ++ x ∷ [])
      by n low true e = let size = so_far.count in absurd (omega (arith, eqb-true, size))
      by n low false e = so_far.each n low ∙ sym (here n false e)

  -- a frame of one
  pub is_put : key x < length ls → (l : List Sent) → l ≡ get_or ls (key x) [] ++ x ∷ [] → AreSorted key count (xs ++ x ∷ []) (set ls (key x) l)
  is_put within l is = record {
    count = length-set ls (key x) l ∙ so_far.count;
    each = λ n low. by n low (key x == n) refl;
  }
    where
      by : (n : ℕ) → n < count → (b : Bool) → (key x == n) ≡ b → get_or (set ls (key x) l) n [] ≡ those_at key n (xs ++ x ∷ [])
      by n low true e =
          let at : key x ≡ n = omega (arith, eqb-true) in
          ap (λ q. get_or (set ls (key x) l) q []) (sym at)
          ∙ get_or-set_same ls (key x) l [] within
          ∙ is
          ∙ ap (λ q. get_or ls q [] ++ x ∷ []) at
          ∙ ap (λ fs. fs ++ x ∷ []) (so_far.each n low)
          ∙ sym (here n true e)
      by n low false e =
          let other : n ≢ key x = λ q. omega (arith, eqb-false) in
          get_or-set_other ls (key x) n l [] other ∙ so_far.each n low ∙ sym (here n false e)

-- empty lists hold the frames of none
pub none_sorted : (key : Sent → ℕ) (count : ℕ) (ls : List (List Sent)) → length ls ≡ count → ((n : ℕ) → get_or ls n [] ≡ []) → AreSorted key count [] ls
none_sorted key count ls size empty = record { count = size; each = λ n low. empty n }

-- one frame more of a switch, and of a port of it
at_port : (R : Sent → Record) (x : Sent) (ps : List Sent) (fs : List Record) → map R ps ≡ fs → (b : Bool) → map R (if b then x ∷ ps else ps) ≡ (if b then R x ∷ fs else fs)
at_port R x ps fs h true = ap (λ l. R x ∷ l) h
at_port R x ps fs h false = h

at_switch : (R : Sent → Record) (p : ℕ) (x : Sent) (xs : List Sent) (fs : List Record) → map R (those_at port_of p xs) ≡ fs → (a : Bool)
    → map R (those_at port_of p (if a then x ∷ xs else xs)) ≡ (if a && x.port == p then R x ∷ fs else fs)
at_switch R p x xs fs h true = at_port R x (those_at port_of p xs) fs h (x.port == p)
at_switch R p x xs fs h false = h

-- the frames of a port among those of a switch
pub frames_are : (ts : List Time) (s p : ℕ) (xs : List Sent) → map (record_for ts) (those_at port_of p (those_at switch_of s xs)) ≡ frames_at ts s p xs
frames_are ts s p [] = refl
frames_are ts s p (x ∷ xs) = at_switch (record_for ts) p x (those_at switch_of s xs) (frames_at ts s p xs) (frames_are ts s p xs) (x.switch == s)

-- a list of a list of lists
pub list_in : {A B : Type 0} (v : A → List B) (xs : List A) (i : ℕ) (d : A) → i < length xs → get_or (map v xs) i [] ≡ v (get_or xs i d)
list_in v [] i d lt = absurd (omega arith)
list_in v (x ∷ xs) zero d lt = refl
list_in v (x ∷ xs) (suc i) d lt = list_in v xs i d (omega arith)

pub one_taken : {A B : Type 0} (v : A → B) (xs : List A) (i : ℕ) (d : A) → i < length xs → map v (take (i + 1) xs) ≡ map v (take i xs) ++ v (get_or xs i d) ∷ []
one_taken v xs i d lt =
    let next : i + 1 ≡ suc i = omega arith in
    ap (λ n. map v (take n xs)) next ∙ ap (map v) (take-suc xs i d lt) ∙ map_push v (take i xs) (get_or xs i d)

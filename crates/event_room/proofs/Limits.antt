-- What a switch may hold at most is no less than what its variables hold after any events.
use Rattle.std.proofs.Common.{◌≡◌, ℕ, zero, suc, ◌+◌, ◌*◌, ◌<◌, ◌≤◌, List, [], ◌∷◌, ◌++◌, map, length, take, get_or, Bool, true, false, cond, not, ◌&&◌, nat_eq, nat_lt, Option, Some, None, Ok, refl, sym, ap, ap₂, ◌∙◌, subst, arith, append_assoc}
use Rattle.std.specs.Prelude.{slice_get}
use Rattle.std.specs.List.{position_or_len}
use Rattle.std.proofs.lemmas.Bool.{ltb-false}
use Rattle.std.proofs.lemmas.Bool.Decides.{nat_tests}
use Rattle.indus_tree.specs.Tree.{Decl, Property}
use Rattle.indus_tree.specs.State.{Contents, single, members, pairs}
use Rattle.indus_tree.specs.Hops.{same_kind}
use Rattle.indus_tree.specs.declared.tree.DeclKind.TheVariants.{Control}
use Rattle.indus_values.specs.View.{seats, or_no_members}
use Rattle.network_run.specs.Events.{Event, Enter, Leave, Set}
use Rattle.network_run.specs.NetworkRun.{put}
use Rattle.table_items.specs.Items.{items_of, items_in, held_items, event_items, greatest_set, greatest_items, reads_of, items_from, switch_items, all_items, too_many_in, too_many_of, within_limits}
use Rattle.control_maps.specs.Numbers.{keys_of}
use Rattle.read_contents.specs.Fits.{contents_at}
use Rattle.event_room.specs.Contents.{contents_behind, contents_after}
use Rattle.event_room.proofs.Sums.{weigh, seats_next, taken_front, pushed_long}

-- ---- no sum is over the limit

abbrev over : ℕ → Bool
over n = nat_lt 65536 n

each_small : (xs : List ℕ) → length xs ≤ position_or_len over xs → (i x : ℕ) → slice_get xs i ≡ Some x → x ≤ 65536
each_small [] h i x e = absurd (cc e)
each_small (y ∷ ys) h i x e = go (over y) refl h i e (λ k j f. each_small ys k j x f)
  where
    go :
        (b : Bool) → over y ≡ b → suc (length ys) ≤ cond (not b) (1 + position_or_len over ys) 0 → (i : ℕ) → slice_get (y ∷ ys) i ≡ Some x
        → (length ys ≤ position_or_len over ys → (j : ℕ) → slice_get ys j ≡ Some x → x ≤ 65536) → x ≤ 65536
    go true o k i e more = absurd (omega (arith, k))
    go false o k zero e more = (let same : y ≡ x = cc e in subst (λ (n : ℕ). n ≤ 65536) same (ltb-false 65536 y o))
    go false o k (suc i) e more = more (omega (arith, k)) i e

all_within : (xs : List ℕ) → too_many_of xs ≡ Ok (tt {0}) → (i x : ℕ) → slice_get xs i ≡ Some x → x ≤ 65536
all_within xs e = go (nat_lt (position_or_len over xs) (length xs)) refl e
  where
    go : (b : Bool) → nat_lt (position_or_len over xs) (length xs) ≡ b → too_many_in xs (cond b (Some (position_or_len over xs)) None) ≡ Ok (tt {0}) → (i x : ℕ) → slice_get xs i ≡ Some x → x ≤ 65536
    go true o e = absurd (cc e)
    go false o e = each_small xs (ltb-false (position_or_len over xs) (length xs) o)

module _ (p : Property) (es : List (Event Contents)) where
  items_at :
      (from : ℕ) (ns : List ℕ) (css : List (List Contents)) (s n : ℕ) → slice_get ns s ≡ Some n → s < length css
      → slice_get (all_items p from es ns css) s ≡ Some (switch_items p (from + s) es n (get_or css s []))
  items_at from [] css s n e lt = absurd (cc e)
  items_at from (m ∷ ns) [] s n e lt = absurd (omega (arith, lt))
  items_at from (m ∷ ns) (cs ∷ css) zero n e lt =
      let same : m ≡ n = cc e in
      ap₂ (λ (k i : ℕ). Some (switch_items p i es k cs)) same (let here : from ≡ from + 0 = omega arith in here)
  items_at from (m ∷ ns) (cs ∷ css) (suc s) n e lt =
      items_at (from + 1) ns css s n e (omega (arith, lt))
      ∙ ap (λ (i : ℕ). Some (switch_items p i es n (get_or css s []))) (let next : from + 1 + s ≡ from + suc s = omega arith in next)

  pub switch_within : (ns : List ℕ) (css : List (List Contents)) → within_limits p ns css es ≡ Ok (tt {0}) → (s n : ℕ) → slice_get ns s ≡ Some n → s < length css → switch_items p s es n (get_or css s []) ≤ 65536
  switch_within ns css within s n e lt =
      all_within (all_items p 0 es ns css) within s (switch_items p s es n (get_or css s []))
      (items_at 0 ns css s n e lt ∙ ap (λ (i : ℕ). Some (switch_items p i es n (get_or css s []))) (let same : 0 + s ≡ s = omega arith in same))

-- ---- the sum of a switch

-- the most that a variable holds
abbrev pub most_of : Property → (switch : ℕ) → List Contents → List (Event Contents) → (variable : ℕ) → ℕ
most_of p s cs es v = greatest_items s v (seats Control (take v p.decls)) cs es

module _ (p : Property) (s : ℕ) (cs : List Contents) (es : List (Event Contents)) where
  pub items_weigh :
      (front ds : List Decl) (v k : ℕ) → p.decls ≡ front ++ ds → v ≡ length front → k ≡ seats Control front
      → items_from p s cs es v k ds ≡ weigh (most_of p s cs es) (reads_of p) v ds
  items_weigh front [] v k all at seat = refl
  items_weigh front (d ∷ ds) v k all at seat = go (same_kind Control d.kind) (seats_next front d k seat) (items_weigh (front ++ d ∷ []) ds)
    where
      most_here : greatest_items s v k cs es ≡ most_of p s cs es v
      most_here =
          ap (λ (i : ℕ). greatest_items s v i cs es)
          (seat ∙ ap (seats Control) (sym (taken_front front (d ∷ ds)) ∙ ap₂ (λ (n : ℕ) (xs : List Decl). take n xs) (sym at) (sym all)))

      parts : p.decls ≡ (front ++ d ∷ []) ++ ds
      parts = all ∙ sym (append_assoc front (d ∷ []) ds)

      long : v + 1 ≡ length (front ++ d ∷ [])
      long = let more = pushed_long front d in omega (arith, more, at)

      go :
          (b : Bool) → cond b (k + 1) k ≡ seats Control (front ++ d ∷ [])
          → ((v k : ℕ) → p.decls ≡ (front ++ d ∷ []) ++ ds → v ≡ length (front ++ d ∷ []) → k ≡ seats Control (front ++ d ∷ []) → items_from p s cs es v k ds ≡ weigh (most_of p s cs es) (reads_of p) v ds)
          → cond b (reads_of p v * greatest_items s v k cs es + items_from p s cs es (v + 1) (k + 1) ds) (items_from p s cs es (v + 1) k ds)
          ≡ cond b (reads_of p v * most_of p s cs es v + weigh (most_of p s cs es) (reads_of p) (v + 1) ds) (weigh (most_of p s cs es) (reads_of p) (v + 1) ds)
      go true next rest = ap₂ (λ (a b : ℕ). reads_of p v * a + b) most_here (rest (v + 1) (k + 1) parts long next)
      go false next rest = rest (v + 1) k parts long next

-- ---- what a variable holds

pub items_are_keys : (c : Contents) → items_of c ≡ length (keys_of c)
items_are_keys (single w) = refl
items_are_keys (members ks) = refl
items_are_keys (pairs es) = pairs_long es
  where
    pairs_long : {A B : Type 0} (es : List (A × B)) → length es ≡ length (map (λ e. e.0) es)
    pairs_long [] = refl
    pairs_long (e ∷ es) = ap suc (pairs_long es)

held_are_keys : (cs : List Contents) (k : ℕ) → held_items k cs ≡ length (keys_of (or_no_members (slice_get cs k)))
held_are_keys cs k = go (slice_get cs k)
  where
    go : (o : Option Contents) → items_in o ≡ length (keys_of (or_no_members o))
    go None = refl
    go (Some c) = items_are_keys c

flip : (a b : ℕ) → nat_eq a b ≡ nat_eq b a
flip a b = grind (arith, nat_tests)

module _ (s v m : ℕ) where
  set_small :
      (c : ℕ → Contents) (w : ℕ) (x : Contents) (a b : Bool) → nat_eq w v ≡ b → length (keys_of (c v)) ≤ m → cond (a && b) (items_of x) 0 ≤ m
      → length (keys_of (cond a (put c w x) c v)) ≤ m
  set_small c w x false b e old new = old
  set_small c w x true true e old new =
      subst (λ (t : Bool). length (keys_of (cond t x (c v))) ≤ m) (sym (flip v w ∙ e)) (subst (λ (n : ℕ). n ≤ m) (items_are_keys x) new)
  set_small c w x true false e old new = subst (λ (t : Bool). length (keys_of (cond t x (c v))) ≤ m) (sym (flip v w ∙ e)) old

  behind_small : (c : ℕ → Contents) (e : Event Contents) → length (keys_of (c v)) ≤ m → event_items s v e ≤ m → length (keys_of (contents_behind s c e v)) ≤ m
  behind_small c (Enter i) old new = old
  behind_small c (Leave i) old new = old
  behind_small c (Set t w x) old new = set_small c w x (nat_eq t s) (nat_eq w v) refl old new

  after_small : (c : ℕ → Contents) (done rest : List (Event Contents)) → length (keys_of (c v)) ≤ m → greatest_set s v (done ++ rest) ≤ m → length (keys_of (contents_after s c done v)) ≤ m
  after_small c [] rest old all = old
  after_small c (e ∷ done) rest old all = after_small (contents_behind s c e) done rest (behind_small c e old (omega (arith, all))) (omega (arith, all))

pub most_holds :
    (p : Property) (s : ℕ) (cs : List Contents) (es done rest : List (Event Contents)) → es ≡ done ++ rest → (v : ℕ)
    → length (keys_of (contents_after s (contents_at p.decls cs) done v)) ≤ most_of p s cs es v
most_holds p s cs es done rest e v =
    after_small s v (most_of p s cs es v) (contents_at p.decls cs) done rest
    (let same = held_are_keys cs (seats Control (take v p.decls)) in omega (arith, same))
    (subst (λ (l : List (Event Contents)). greatest_set s v l ≤ most_of p s cs es v) e (omega arith))

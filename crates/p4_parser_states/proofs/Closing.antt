-- The last component is closed, and what is next.
use Rattle.std.proofs.Common.{◌≡◌, ◌⊎◌, inl, inr, ℕ, ◌+◌, ◌-◌, ◌<◌, ◌≤◌, ◌≢◌, List, [], ◌∷◌, ◌++◌, Bool, true, false, ◌||◌, nat_eq, map, length, take, drop, get_or, refl, sym, ◌∙◌, ap, subst, arith, length-append, length-drop, Vec, Global}
use Rattle.std.proofs.Math.Seq.{take-length}
use Rattle.std.specs.List.{list_any}
use Rattle.std.proofs.lemmas.Bool.{eqb-true, eq-eqb}
use Rattle.std.proofs.lemmas.List.{get_or-drop, get_or-take, length-take-le, get_or_default, get_or_past, get_or-map}
use Rattle.p4_parser_states.specs.Cycles.{Steps, direct}
use Rattle.p4_parser_states.specs.Graphs.{In, Follows, IsGraph, Tells}
use Rattle.p4_parser_states.specs.Search.{IsDone, IsSound, Rises, mark_in, node_in, IsSearch, Keeps, IsNext, IsLast, IsAwaited, HasCycle, IsStep, told}
use Rattle.p4_parser_states.specs.declared.search.Mark.{Mark}
use Rattle.p4_parser_states.specs.declared.search.Mark.TheVariants.{New, Open, Done}
use Rattle.p4_parser_states.specs.declared.search.Search.{Search}
use Rattle.p4_parser_states.proofs.Core.{order, steps_on, in_component, several, alone, shut_down}
use Rattle.p4_parser_states.proofs.Lists.{in_front, in_last, last_in, rise_front, rise_last, last_highest}

-- ---- a state that follows itself

any_step : (q x : ℕ) (xs : List ℕ) (b c : Bool) → nat_eq x q ≡ b → (c ≡ true → In q xs) → (b || c) ≡ true → In q (x ∷ xs)
any_step q x xs true c e ih h = inl (sym (eqb-true x q e))
any_step q x xs false c e ih h = inr (ih h)

any_in : (q : ℕ) (xs : List ℕ) → list_any (λ y. nat_eq y q) xs ≡ true → In q xs
any_in q [] h = let c : false ≡ true = h in absurd (cc)
any_in q (x ∷ xs) h = any_step q x xs (nat_eq x q) (list_any (λ y. nat_eq y q) xs) refl (any_in q xs) h

or_right : (a b : Bool) → b ≡ true → (a || b) ≡ true
or_right true b h = refl
or_right false b h = h

in_any : (q : ℕ) (xs : List ℕ) → In q xs → list_any (λ y. nat_eq y q) xs ≡ true
in_any q [] h = absurd h
in_any q (x ∷ xs) (inl e) = ap (λ (b : Bool). b || list_any (λ y. nat_eq y q) xs) (eq-eqb x q (sym e))
in_any q (x ∷ xs) (inr h) = or_right (nat_eq x q) (list_any (λ y. nat_eq y q) xs) (in_any q xs h)

pub alone_has : (g : List (List ℕ)) (s : Search) (start first : ℕ) (row : List ℕ) (b : Bool) → b ≡ list_any (λ y. nat_eq y first) row
    → get_or g first [] ≡ row → node_in s start ≡ first → length s.stack.items ≤ start + 1 → HasCycle g s start b
alone_has g s start first row true e r n h =
    let P : ℕ → Type 0 = λ x. Follows g x x in
    let Q : List ℕ → Type 0 = λ xs. In first xs in
    inr (subst P (sym n) (subst Q (sym r) (any_in first row (sym e))))
alone_has g s start first row false e r n h =
    let P : ℕ → Type 0 = λ x. Follows g x x in
    let Q : List ℕ → Type 0 = λ xs. In first xs in
    (h, λ i. let k : list_any (λ y. nat_eq y first) row ≡ true = in_any first row (subst Q r (subst P n i)) in let l : false ≡ true = e ∙ k in cc)

-- ---- the last component

pub start_within : (g : List (List ℕ)) (s : Search) (start : ℕ) → IsSearch g s → IsLast s.starts.items start → start < length s.stack.items
start_within g s start h last =
    let P : List ℕ → Type 0 = λ bs. In start bs in
    h.starts_open start (subst P (sym last) (last_in (take (length s.starts.items - 1) s.starts.items) start))

-- what was seen is of the graph
pub seen_within : (g : List (List ℕ)) (s : Search) (x : ℕ) → IsSearch g s → (mark_in s x ≡ New → ⊥) → x < length g
seen_within g s x h seen = by (order x (length g))
  where
    past : length g ≤ x → x < length g
    past k = absurd (seen (get_or_past s.marks.items x New (let l : length s.marks.items ≡ length g = h.marked in omega (arith, k, l))))

    by : (x < length g) ⊎ ((x ≡ length g) ⊎ (length g < x)) → x < length g
    by (inl k) = k
    by (inr (inl k)) = past (omega (arith, k))
    by (inr (inr k)) = past (omega (arith, k))

pub node_within : (g : List (List ℕ)) (s : Search) (p : ℕ) → IsSearch g s → p < length s.stack.items → node_in s p < length g
node_within g s p h i = seen_within g s (node_in s p) h (λ e. let k : Open p ≡ New = sym (h.sound.at_open p i) ∙ e in cc)

tells_component : (g : List (List ℕ)) (s : Search) (start : ℕ) (c : Bool) → IsSearch g s → IsLast s.starts.items start → ((p x : ℕ) → In {A = ℕ × ℕ} (p, x) s.waiting.items → p < start)
    → HasCycle g s start c → (p : ℕ) → start ≤ p → p < length s.stack.items → Tells (Follows g) c (node_in s p)
tells_component g s start true h last past (inl two) p i j =
    several (Follows g) (mark_in s) (node_in s) (length s.stack.items) (λ p x. In (p, x) s.waiting.items) (λ b. In b s.starts.items) start h.sound
    (last_highest s.starts.items start last h.starts_rise) (omega (arith, two)) p i j
tells_component g s start true h last past (inr loop) p i j = by (order start p)
  where
    by : (start < p) ⊎ ((start ≡ p) ⊎ (p < start)) → Steps (Follows g) (node_in s p) (node_in s p)
    by (inl k) =
        several (Follows g) (mark_in s) (node_in s) (length s.stack.items) (λ p x. In (p, x) s.waiting.items) (λ b. In b s.starts.items) start h.sound
        (last_highest s.starts.items start last h.starts_rise) (omega (arith, k, j)) p i j
    by (inr (inl k)) = let P : ℕ → Type 0 = λ q. Follows g (node_in s q) (node_in s q) in direct (subst P k loop)
    by (inr (inr k)) = absurd (omega (arith, k, i))
tells_component g s start false h last past one p i j =
    let same : start ≡ p = omega (arith, one.0, i, j) in
    let P : ℕ → Type 0 = λ q. Steps (Follows g) (node_in s q) (node_in s q) → ⊥ in
    let Q : List ℕ → Type 0 = λ bs. In start bs in
    subst P same
    (alone (Follows g) (mark_in s) (node_in s) (length s.stack.items) (λ p x. In (p, x) s.waiting.items) (λ b. In b s.starts.items) start h.sound
    (subst Q (sym last) (last_in (take (length s.starts.items - 1) s.starts.items) start))
    (omega (arith, one.0, i, j)) one.1 past)

module _ (g : List (List ℕ)) (s : Search) (m : Vec Mark Global) (n v : Vec ℕ Global) (start : ℕ) (c : Bool) (component : List ℕ) where
  pub component_closed : IsSearch g s → IsLast s.starts.items start → ((p x : ℕ) → In {A = ℕ × ℕ} (p, x) s.waiting.items → p < start) → HasCycle g s start c
      → component ≡ drop start s.stack.items
      → ((k : ℕ) → k < length component → get_or m.items (get_or component k 0) New ≡ Done c)
      → ((x : ℕ) → ((k : ℕ) → k < length component → get_or component k 0 ≢ x) → get_or m.items x New ≡ mark_in s x)
      → length m.items ≡ length s.marks.items
      → n.items ≡ take start s.stack.items
      → v.items ≡ take (length s.starts.items - 1) s.starts.items
      → IsStep g s (record s { marks = m; stack = n; starts = v })
  component_closed h last past has same done_component others_component len stack less = record {
    search = record {
      sound = let P : ℕ → Type 0 = λ k. IsSound (Follows g) (λ x. get_or m.items x New) (λ p. get_or n.items p 0) k (λ p x. In (p, x) s.waiting.items) (λ b. In b v.items) in
          subst P (sym size)
          (shut_down (Follows g) (mark_in s) (λ x. get_or m.items x New) (node_in s) (λ p. get_or n.items p 0) (length s.stack.items) (λ p x. In (p, x) s.waiting.items) (λ b. In b s.starts.items) (λ b. In b v.items) start c h.sound
          starts most old
          (λ b i. let Q : List ℕ → Type 0 = λ bs. In b bs in in_last b v.items start (subst Q whole i))
          past here shuts stays
          (λ p i. ap (λ (ns : List ℕ). get_or ns p 0) stack ∙ get_or-take start s.stack.items p 0 i)
          (tells_component g s start c h last past has));
      marked = len ∙ h.marked;
      waiting_rise = h.waiting_rise;
      starts_rise = let Q : List ℕ → Type 0 = λ bs. Rises (λ p q. p < q) bs in rise_front (λ p q. p < q) v.items (start ∷ []) (subst Q whole h.starts_rise);
      starts_open = λ b i. let Q : List ℕ → Type 0 = λ bs. Rises (λ p q. p < q) bs in
          let k : b < start = rise_last (λ p q. p < q) v.items start (subst Q whole h.starts_rise) b i in omega (arith, k, size);
      based = λ k. let Q : List ℕ → Type 0 = λ bs. In 0 bs in first (omega (arith, k, size)) (in_last 0 v.items start (subst Q whole (h.based (omega (arith, here)))));
    };
    keeps = record {
      done = λ x d e. stays x (λ p i j k. let l : Open p ≡ Done d = sym (h.sound.at_open p j) ∙ ap (mark_in s) k ∙ e in cc) ∙ e;
      seen = λ x e. was_new x (mark_in s x) refl e;
    };
    less = let k : length s.starts.items ≡ length v.items + 1 = ap length whole ∙ length-append v.items (start ∷ []) in omega (arith, k);
  }
    where
      whole : s.starts.items ≡ v.items ++ start ∷ []
      whole = last ∙ ap (λ (bs : List ℕ). bs ++ start ∷ []) (sym less)

      done : (k : ℕ) → k < length (drop start s.stack.items) → get_or m.items (get_or (drop start s.stack.items) k 0) New ≡ Done c
      done = let P : List ℕ → Type 0 = λ xs. (k : ℕ) → k < length xs → get_or m.items (get_or xs k 0) New ≡ Done c in subst P same done_component

      others : (x : ℕ) → ((k : ℕ) → k < length (drop start s.stack.items) → get_or (drop start s.stack.items) k 0 ≢ x) → get_or m.items x New ≡ mark_in s x
      others = let P : List ℕ → Type 0 = λ xs. (x : ℕ) → ((k : ℕ) → k < length xs → get_or xs k 0 ≢ x) → get_or m.items x New ≡ mark_in s x in subst P same others_component

      starts : In start s.starts.items
      starts = let Q : List ℕ → Type 0 = λ bs. In start bs in subst Q (sym last) (last_in (take (length s.starts.items - 1) s.starts.items) start)

      most : (b : ℕ) → In b s.starts.items → b ≤ start
      most = last_highest s.starts.items start last h.starts_rise

      here : start < length s.stack.items
      here = start_within g s start h last

      size : length n.items ≡ start
      size = ap (λ (ns : List ℕ). length ns) stack ∙ length-take-le start s.stack.items (omega (arith, here))

      old : (b : ℕ) → In b v.items → In b s.starts.items
      old b i = let Q : List ℕ → Type 0 = λ bs. In b bs in subst Q (sym whole) (in_front b v.items (start ∷ []) i)

      first : 0 < start → In 0 v.items ⊎ (0 ≡ start) → In 0 v.items
      first k (inl i) = i
      first k (inr e) = absurd (omega (arith, k, e))

      shuts : (p : ℕ) → start ≤ p → p < length s.stack.items → get_or m.items (node_in s p) New ≡ Done c
      shuts p i j =
          let k : start + (p - start) ≡ p = omega (arith, i) in
          let e : get_or (drop start s.stack.items) (p - start) 0 ≡ node_in s p = get_or-drop start s.stack.items (p - start) 0 ∙ ap (λ (q : ℕ). get_or s.stack.items q 0) k in
          ap (λ (x : ℕ). get_or m.items x New) (sym e) ∙ done (p - start) (omega (arith, i, j, length-drop start s.stack.items))

      stays : (x : ℕ) → ((p : ℕ) → start ≤ p → p < length s.stack.items → node_in s p ≢ x) → get_or m.items x New ≡ mark_in s x
      stays x f = others x (λ k i e. f (start + k) (omega arith) (omega (arith, i, length-drop start s.stack.items)) (sym (get_or-drop start s.stack.items k 0) ∙ e))

      not_open : (x : ℕ) → ((p : ℕ) → mark_in s x ≡ Open p → ⊥) → get_or m.items x New ≡ mark_in s x
      not_open x f = stays x (λ p i j k. f p (ap (mark_in s) (sym k) ∙ h.sound.at_open p j))

      shut_new : (x p : ℕ) → start ≤ p → mark_in s x ≡ Open p → get_or m.items x New ≡ New → ⊥
      shut_new x p i e f =
          let k : (p < length s.stack.items) × (node_in s p ≡ x) = h.sound.open_at x p e in
          let l : Done c ≡ New = sym (shuts p i k.0) ∙ ap (λ (y : ℕ). get_or m.items y New) k.1 ∙ f in
          cc

      was_open : (x p : ℕ) → mark_in s x ≡ Open p → get_or m.items x New ≡ New → (p < start) ⊎ ((p ≡ start) ⊎ (start < p)) → mark_in s x ≡ New
      was_open x p e f (inl i) =
          let one : (q : ℕ) → start ≤ q → q < length s.stack.items → node_in s q ≢ x = λ q k l d.
          (let o : Open q ≡ Open p = sym (h.sound.at_open q l) ∙ ap (mark_in s) d ∙ e in let r : q ≡ p = cc in omega (arith, r, k, i)) in
          sym (stays x one) ∙ f
      was_open x p e f (inr (inl i)) = absurd (shut_new x p (omega (arith, i)) e f)
      was_open x p e f (inr (inr i)) = absurd (shut_new x p (omega (arith, i)) e f)

      was_new : (x : ℕ) (k : Mark) → mark_in s x ≡ k → get_or m.items x New ≡ New → mark_in s x ≡ New
      was_new x New e f = e
      was_new x (Open p) e f = was_open x p e f (order p start)
      was_new x (Done d) e f = sym (not_open x (λ p k. let l : Done d ≡ Open p = sym e ∙ k in cc)) ∙ f

-- ---- what is next

pub awaited_step : (g : List (List ℕ)) (s : Search) (start x : ℕ) → IsSearch g s → (a : IsAwaited s start x) → (a.place < length s.stack.items) × Follows g (node_in s a.place) x
awaited_step g s start x h a =
    let P : List (ℕ × ℕ) → Type 0 = λ ws. In (a.place, x) ws in
    h.sound.waits a.place x (subst P (sym a.last) (last_in (take (length s.waiting.items - 1) s.waiting.items) (a.place, x)))

pub awaited_within : (g : List (List ℕ)) (s : Search) (start x : ℕ) → IsGraph g → IsSearch g s → IsAwaited s start x → x < length g
awaited_within g s start x graph h a = graph.within (node_in s a.place) x (awaited_step g s start x h a).1

pub found_next : (g : List (List ℕ)) (s : Search) (start x : ℕ) → IsGraph g → IsSearch g s → IsLast s.starts.items start → IsAwaited s start x → mark_in s x ≡ New → IsNext g s x
found_next g s start x graph h last a fresh = record { fresh = fresh; within = awaited_within g s start x graph h a; reached = λ p i. by p i (order p a.place) }
  where
    place : (a.place < length s.stack.items) × Follows g (node_in s a.place) x
    place = awaited_step g s start x h a

    far : (p : ℕ) → (p ≡ a.place) ⊎ Steps (Follows g) (node_in s p) (node_in s a.place) → Steps (Follows g) (node_in s p) x
    far p (inl e) = let P : ℕ → Type 0 = λ q. Steps (Follows g) (node_in s q) x in subst P (sym e) (direct place.1)
    far p (inr r) = steps_on (Follows g) (node_in s p) (node_in s a.place) x r (direct place.1)

    by : (p : ℕ) → p < length s.stack.items → (p < a.place) ⊎ ((p ≡ a.place) ⊎ (a.place < p)) → Steps (Follows g) (node_in s p) x
    by p i (inl k) = far p (inr (h.sound.upward p a.place k place.0))
    by p i (inr (inl k)) = far p (inl k)
    by p i (inr (inr k)) =
        let l : start ≤ a.place = a.within in
        far p (in_component (Follows g) (mark_in s) (node_in s) (length s.stack.items) (λ p x. In (p, x) s.waiting.items) (λ b. In b s.starts.items) (λ b. In b s.starts.items) start h.sound
        (last_highest s.starts.items start last h.starts_rise) p a.place (omega (arith, k, l)) i a.within place.0)

-- a mark as the code reads it
pub mark_read : (s : Search) (x : ℕ) (m : Mark) → x < length s.marks.items → m ≡ get_or s.marks.items x m → mark_in s x ≡ m
mark_read s x m h e = get_or_default s.marks.items x New m h ∙ sym e

-- a component up to the end
pub all_behind : {A : Type 0} (xs : List A) (n : ℕ) → take (length xs - n) (drop n xs) ≡ drop n xs
all_behind xs n = ap (λ (k : ℕ). take k (drop n xs)) (sym (length-drop n xs)) ∙ take-length (drop n xs)

-- where nothing is open, what was seen is done
pub seen_done : (g : List (List ℕ)) (s : Search) (x : ℕ) (m : Mark) → IsSearch g s → s.stack.items ≡ [] → mark_in s x ≡ m → (m ≡ New → ⊥) → IsDone m
seen_done g s x New h empty e seen = seen refl
seen_done g s x (Open p) h empty e seen = let k : p < length s.stack.items = (h.sound.open_at x p e).0 in absurd (omega (arith, k, ap (λ (ns : List ℕ). length ns) empty))
seen_done g s x (Done c) h empty e seen = tt

pub still_done : (s t : Search) (x : ℕ) (m : Mark) → Keeps s t → mark_in s x ≡ m → IsDone m → IsDone (mark_in t x)
still_done s t x New h e d = absurd d
still_done s t x (Open p) h e d = absurd d
still_done s t x (Done c) h e d = let P : Mark → Type 0 = IsDone in let d' : IsDone (Done c) = tt in subst P (sym (h.done x c e)) d'

pub done_tells : (g : List (List ℕ)) (s : Search) (x : ℕ) (m : Mark) → IsSearch g s → mark_in s x ≡ m → IsDone m → Tells (Follows g) (told m) x
done_tells g s x New h e d = absurd d
done_tells g s x (Open p) h e d = absurd d
done_tells g s x (Done c) h e d = h.sound.told x c e

-- a state that was not seen is next where nothing is open
pub first_next : (g : List (List ℕ)) (s : Search) (x : ℕ) → s.stack.items ≡ [] → mark_in s x ≡ New → x < length g → IsNext g s x
first_next g s x empty fresh h = record {
  fresh = fresh;
  within = h;
  reached = λ p i. absurd (omega (arith, i, ap (λ (ns : List ℕ). length ns) empty));
}

pub answers_tell : (g : List (List ℕ)) (s : Search) (bs : List Bool) → IsSearch g s → ((x : ℕ) → x < length g → IsDone (mark_in s x)) → bs ≡ map told s.marks.items
    → (x : ℕ) → x < length g → Tells (Follows g) (get_or bs x false) x
answers_tell g s bs h done e x i =
    let k : length s.marks.items ≡ length g = h.marked in
    let P : Bool → Type 0 = λ b. Tells (Follows g) b x in
    subst P (sym (ap (λ (cs : List Bool). get_or cs x false) e ∙ get_or-map told s.marks.items x New false (omega (arith, i, k))))
    (done_tells g s x (mark_in s x) h refl (done x i))

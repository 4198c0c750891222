-- The steps of the search keep what is known.
use Rattle.std.proofs.Common.{◌≡◌, ◌⊎◌, inl, inr, ℕ, zero, suc, ◌<◌, ◌≤◌, ◌≢◌, Bool, refl, sym, ◌∙◌, ap, subst, arith}
use Rattle.p4_parser_states.specs.Cycles.{Steps, direct, onward}
use Rattle.p4_parser_states.specs.Graphs.{Tells}
use Rattle.p4_parser_states.specs.Search.{IsDone, IsBetween, IsOpenFrom, IsSound}
use Rattle.p4_parser_states.specs.declared.search.Mark.{Mark}
use Rattle.p4_parser_states.specs.declared.search.Mark.TheVariants.{New, Open, Done}

-- ---- steps

pub steps_on : {A : Type 0} (R : A → A → Type 0) (x y z : A) → Steps R x y → Steps R y z → Steps R x z
steps_on R x y z (direct e) r = onward e r
steps_on R x y z (onward {y = w} e q) r = onward e (steps_on R w y z q r)

-- numbers are told apart
pub order : (a b : ℕ) → (a < b) ⊎ ((a ≡ b) ⊎ (b < a))
order zero zero = inr (inl refl)
order zero (suc b) = inl (omega arith)
order (suc a) zero = inr (inr (omega arith))
order (suc a) (suc b) = lift (order a b)
  where
    lift : (a < b) ⊎ ((a ≡ b) ⊎ (b < a)) → (suc a < suc b) ⊎ ((suc a ≡ suc b) ⊎ (suc b < suc a))
    lift (inl h) = inl (omega (arith, h))
    lift (inr (inl h)) = inr (inl (ap suc h))
    lift (inr (inr h)) = inr (inr (omega (arith, h)))

not_done_new : (m : Mark) → m ≡ New → IsDone m → ⊥
not_done_new m e d = let P : Mark → Type 0 = IsDone in subst P e d

not_done_open : (m : Mark) (p : ℕ) → m ≡ Open p → IsDone m → ⊥
not_done_open m p e d = let P : Mark → Type 0 = IsDone in subst P e d

-- ---- what waits is followed

module _ (R : ℕ → ℕ → Type 0) (mark : ℕ → Mark) (node : ℕ → ℕ) (size : ℕ) (Waits Waits' : ℕ → ℕ → Type 0) (Starts : ℕ → Type 0) where
  pub followed : (s : IsSound R mark node size Waits Starts) (v w : ℕ)
      → ((p x : ℕ) → Waits' p x → Waits p x)
      → ((p x : ℕ) → Waits p x → Waits' p x ⊎ ((p ≡ v) × (x ≡ w)))
      → (IsDone (mark w) ⊎ IsOpenFrom mark Starts v w)
      → IsSound R mark node size Waits' Starts
  followed s v w less more settled = record {
    open_at = s.open_at;
    at_open = s.at_open;
    waits = λ p x h. s.waits p x (less p x h);
    onto = λ p x h r. from p x (s.onto p x h r);
    upward = s.upward;
    back = s.back;
    closed = s.closed;
    told = s.told;
  }
    where
      moved : (p x : ℕ) → (p ≡ v) × (x ≡ w) → IsDone (mark x) ⊎ IsOpenFrom mark Starts p x
      moved p x e =
          let P : ℕ → Type 0 = λ y. IsDone (mark y) ⊎ IsOpenFrom mark Starts v y in
          let Q : ℕ → Type 0 = λ y. IsDone (mark x) ⊎ IsOpenFrom mark Starts y x in
          subst Q (sym e.0) (subst P (sym e.1) settled)

      one : (p x : ℕ) → Waits' p x ⊎ ((p ≡ v) × (x ≡ w)) → Waits' p x ⊎ (IsDone (mark x) ⊎ IsOpenFrom mark Starts p x)
      one p x (inl h) = inl h
      one p x (inr e) = inr (moved p x e)

      from : (p x : ℕ) → Waits p x ⊎ (IsDone (mark x) ⊎ IsOpenFrom mark Starts p x) → Waits' p x ⊎ (IsDone (mark x) ⊎ IsOpenFrom mark Starts p x)
      from p x (inl h) = one p x (more p x h)
      from p x (inr h) = inr h

-- ---- two components become one

module _ (R : ℕ → ℕ → Type 0) (mark : ℕ → Mark) (node : ℕ → ℕ) (size : ℕ) (Waits : ℕ → ℕ → Type 0) (Starts Starts' : ℕ → Type 0) (top : ℕ) where
  -- in the last component each state reaches each
  pub in_component : (s : IsSound R mark node size Waits Starts) → ((b : ℕ) → Starts b → b ≤ top)
      → (p q : ℕ) → top ≤ p → p < size → top ≤ q → q < size → (p ≡ q) ⊎ Steps R (node p) (node q)
  in_component s most p q hp ip hq iq = by (order p q)
    where
      back : Steps R (node p) (node q) ⊎ IsBetween Starts q p → Steps R (node p) (node q)
      back (inl r) = r
      back (inr b) = let h : b.start ≤ top = most b.start b.starts in let k : q < b.start = b.behind in absurd (omega (arith, h, k, hq))

      by : (p < q) ⊎ ((p ≡ q) ⊎ (q < p)) → (p ≡ q) ⊎ Steps R (node p) (node q)
      by (inl h) = inr (s.upward p q h iq)
      by (inr (inl h)) = inl h
      by (inr (inr h)) = inr (back (s.back q p h ip))

  pub joined : (s : IsSound R mark node size Waits Starts)
      → ((b : ℕ) → Starts' b → Starts b) → ((b : ℕ) → Starts b → Starts' b ⊎ (b ≡ top)) → ((b : ℕ) → Starts b → b ≤ top)
      → (v w o : ℕ) → Waits v w → top ≤ v → mark w ≡ Open o → o < top
      → IsSound R mark node size Waits Starts'
  joined s less more most v w o wait above is below = record {
    open_at = s.open_at;
    at_open = s.at_open;
    waits = s.waits;
    onto = λ p x h r. kept p x (s.onto p x h r);
    upward = s.upward;
    back = λ p q h i. parted p q h i (s.back p q h i);
    closed = s.closed;
    told = s.told;
  }
    where
      kept : (p x : ℕ) → Waits p x ⊎ (IsDone (mark x) ⊎ IsOpenFrom mark Starts p x) → Waits p x ⊎ (IsDone (mark x) ⊎ IsOpenFrom mark Starts' p x)
      kept p x (inl h) = inl h
      kept p x (inr (inl h)) = inr (inl h)
      kept p x (inr (inr h)) = inr (inr (record { place = h.place; is = h.is; later = λ b i j. h.later b (less b i) j }))

      step : R (node v) (node o)
      step = let P : ℕ → Type 0 = λ y. R (node v) y in subst P (sym (s.open_at w o is).1) (s.waits v w wait).1

      onto_old : (q : ℕ) → (q ≡ v) ⊎ Steps R (node q) (node v) → Steps R (node q) (node o)
      onto_old q (inl e) = let P : ℕ → Type 0 = λ y. Steps R (node y) (node o) in subst P (sym e) (direct step)
      onto_old q (inr r) = steps_on R (node q) (node v) (node o) r (direct step)

      still : (p q : ℕ) → o < q → (b : IsBetween Starts p o) → Starts' b.start ⊎ (b.start ≡ top) → IsBetween Starts' p q
      still p q h b (inl i) = record { start = b.start; starts = i; behind = b.behind; within = let k : b.start ≤ o = b.within in omega (arith, k, h) }
      still p q h b (inr e) = let k : b.start ≤ o = b.within in absurd (omega (arith, k, e, below))

      far : (p q : ℕ) → o < q → Steps R (node q) (node o) → Steps R (node o) (node p) ⊎ IsBetween Starts p o → Steps R (node q) (node p) ⊎ IsBetween Starts' p q
      far p q h r (inl t) = inl (steps_on R (node q) (node o) (node p) r t)
      far p q h r (inr b) = inr (still p q h b (more b.start b.starts))

      near : (p q : ℕ) → p < top → top ≤ q → q < size → Steps R (node q) (node o) → (o < p) ⊎ ((o ≡ p) ⊎ (p < o)) → Steps R (node q) (node p) ⊎ IsBetween Starts' p q
      near p q i h k r (inl l) = inl (steps_on R (node q) (node o) (node p) r (s.upward o p l (omega (arith, i, h, k))))
      near p q i h k r (inr (inl e)) = let P : ℕ → Type 0 = λ y. Steps R (node q) (node y) in inl (subst P e r)
      near p q i h k r (inr (inr l)) = far p q (omega (arith, below, h)) r (s.back p o l (omega (arith, below, h, k)))

      at_start : (p q : ℕ) → q < size → (b : IsBetween Starts p q) → Starts' b.start ⊎ (b.start ≡ top) → Steps R (node q) (node p) ⊎ IsBetween Starts' p q
      at_start p q k b (inl i) = inr (record { start = b.start; starts = i; behind = b.behind; within = b.within })
      at_start p q k b (inr e) =
          let h : b.start ≤ q = b.within in
          let l : p < b.start = b.behind in
          near p q (omega (arith, e, l)) (omega (arith, e, h)) k
          (onto_old q (in_component s most q v (omega (arith, e, h)) k above (s.waits v w wait).0)) (order o p)

      parted : (p q : ℕ) → p < q → q < size → Steps R (node q) (node p) ⊎ IsBetween Starts p q → Steps R (node q) (node p) ⊎ IsBetween Starts' p q
      parted p q h k (inl r) = inl r
      parted p q h k (inr b) = at_start p q k b (more b.start b.starts)

-- ---- a state is opened

module _ (R : ℕ → ℕ → Type 0) (mark mark' : ℕ → Mark) (node node' : ℕ → ℕ) (size : ℕ) (Waits Waits' : ℕ → ℕ → Type 0) (Starts Starts' : ℕ → Type 0) (w : ℕ) where
  pub opened : (s : IsSound R mark node size Waits Starts)
      → mark w ≡ New → mark' w ≡ Open size → ((x : ℕ) → x ≢ w → mark' x ≡ mark x)
      → ((p : ℕ) → p < size → node' p ≡ node p) → node' size ≡ w
      → ((p x : ℕ) → Waits' p x → Waits p x ⊎ ((p ≡ size) × R w x)) → ((p x : ℕ) → Waits p x → Waits' p x) → ((x : ℕ) → R w x → Waits' size x)
      → ((b : ℕ) → Starts' b → Starts b ⊎ (b ≡ size)) → ((b : ℕ) → Starts b → Starts' b) → Starts' size
      → ((p : ℕ) → p < size → Steps R (node p) w)
      → IsSound R mark' node' (suc size) Waits' Starts'
  opened s fresh now others same last waits_less waits_more waits_new starts_less starts_more starts_new reached = record {
    open_at = λ x p e. opened_at x p e (order x w);
    at_open = λ p h. open_now p (order p size) h;
    waits = λ p x h. waits_from p x (waits_less p x h);
    onto = λ p x h r. onto_from p x (order p size) h r;
    upward = λ p q h i. up p q h (order q size) i;
    back = λ p q h i. down p q h (order q size) i;
    closed = λ x y d r. still_done y (s.closed x y (was_done x d) r);
    told = λ x c e. s.told x c (sym (others x (done_differs x c e)) ∙ e);
  }
    where
      old_differs : (x : ℕ) → (mark x ≡ New → ⊥) → x ≢ w
      old_differs x h e = h (ap mark e ∙ fresh)

      new_differs : (x : ℕ) → (mark' x ≡ Open size → ⊥) → x ≢ w
      new_differs x h e = h (ap mark' e ∙ now)

      done_differs : (x : ℕ) (c : Bool) → mark' x ≡ Done c → x ≢ w
      done_differs x c e = new_differs x (λ o. let k : Open size ≡ Done c = sym o ∙ e in cc)

      was_done : (x : ℕ) → IsDone (mark' x) → IsDone (mark x)
      was_done x d = let P : Mark → Type 0 = IsDone in subst P (others x (new_differs x (λ o. not_done_open (mark' x) size o d))) d

      still_done : (x : ℕ) → IsDone (mark x) → IsDone (mark' x)
      still_done x d = let P : Mark → Type 0 = IsDone in subst P (sym (others x (old_differs x (λ o. not_done_new (mark x) o d)))) d

      open_differs : (x p : ℕ) → mark x ≡ Open p → x ≢ w
      open_differs x p e = old_differs x (λ o. let k : Open p ≡ New = sym e ∙ o in cc)

      place_of : (x p : ℕ) → mark x ≡ Open p → (p < suc size) × (node' p ≡ x)
      place_of x p e = let h : (p < size) × (node p ≡ x) = s.open_at x p e in (omega (arith, h.0), same p h.0 ∙ h.1)

      last_place : (x p : ℕ) → x ≡ w → Open size ≡ Open p → (p < suc size) × (node' p ≡ x)
      last_place x p e k =
          let h : size ≡ p = cc in
          let P : ℕ → Type 0 = λ i. (i < suc size) × (node' i ≡ x) in
          subst P h (omega arith, last ∙ sym e)

      opened_at : (x p : ℕ) → mark' x ≡ Open p → (x < w) ⊎ ((x ≡ w) ⊎ (w < x)) → (p < suc size) × (node' p ≡ x)
      opened_at x p e (inl h) = let d : x ≢ w = λ k. omega (arith, h, k) in place_of x p (sym (others x d) ∙ e)
      opened_at x p e (inr (inl h)) = last_place x p h (sym now ∙ sym (ap mark' h) ∙ e)
      opened_at x p e (inr (inr h)) = let d : x ≢ w = λ k. omega (arith, h, k) in place_of x p (sym (others x d) ∙ e)

      open_now : (p : ℕ) → (p < size) ⊎ ((p ≡ size) ⊎ (size < p)) → p < suc size → mark' (node' p) ≡ Open p
      open_now p (inl h) i = ap mark' (same p h) ∙ others (node p) (open_differs (node p) p (s.at_open p h)) ∙ s.at_open p h
      open_now p (inr (inl h)) i = ap (λ (k : ℕ). mark' (node' k)) h ∙ ap mark' last ∙ now ∙ ap Open (sym h)
      open_now p (inr (inr h)) i = absurd (omega (arith, h, i))

      waits_from : (p x : ℕ) → Waits p x ⊎ ((p ≡ size) × R w x) → (p < suc size) × R (node' p) x
      waits_from p x (inl h) =
          let k : (p < size) × R (node p) x = s.waits p x h in
          let P : ℕ → Type 0 = λ y. R y x in
          (omega (arith, k.0), subst P (sym (same p k.0)) k.1)
      waits_from p x (inr h) =
          let P : ℕ → Type 0 = λ y. R y x in
          (omega (arith, h.0), subst P (sym (ap node' h.0 ∙ last)) h.1)

      later_from : (p x : ℕ) → p < size → (o : IsOpenFrom mark Starts p x) → (b : ℕ) → Starts b ⊎ (b ≡ size) → b ≤ p → b ≤ o.place
      later_from p x h o b (inl i) j = o.later b i j
      later_from p x h o b (inr i) j = absurd (omega (arith, i, j, h))

      onto_old : (p x : ℕ) → p < size → Waits p x ⊎ (IsDone (mark x) ⊎ IsOpenFrom mark Starts p x) → Waits' p x ⊎ (IsDone (mark' x) ⊎ IsOpenFrom mark' Starts' p x)
      onto_old p x h (inl i) = inl (waits_more p x i)
      onto_old p x h (inr (inl i)) = inr (inl (still_done x i))
      onto_old p x h (inr (inr o)) = inr (inr (record {
        place = o.place;
        is = others x (open_differs x o.place o.is) ∙ o.is;
        later = λ b i j. later_from p x h o b (starts_less b i) j;
      }))

      onto_from : (p x : ℕ) → (p < size) ⊎ ((p ≡ size) ⊎ (size < p)) → p < suc size → R (node' p) x → Waits' p x ⊎ (IsDone (mark' x) ⊎ IsOpenFrom mark' Starts' p x)
      onto_from p x (inl h) i r = let P : ℕ → Type 0 = λ y. R y x in onto_old p x h (s.onto p x h (subst P (same p h) r))
      onto_from p x (inr (inl h)) i r =
          let P : ℕ → Type 0 = λ y. R y x in
          let Q : ℕ → Type 0 = λ y. Waits' y x in
          inl (subst Q (sym h) (waits_new x (subst P (ap node' h ∙ last) r)))
      onto_from p x (inr (inr h)) i r = absurd (omega (arith, h, i))

      up : (p q : ℕ) → p < q → (q < size) ⊎ ((q ≡ size) ⊎ (size < q)) → q < suc size → Steps R (node' p) (node' q)
      up p q h (inl i) k =
          let l : p < size = omega (arith, h, i) in
          let P : ℕ → ℕ → Type 0 = λ a b. Steps R a b in
          subst (λ (a : ℕ). P a (node' q)) (sym (same p l)) (subst (λ (b : ℕ). P (node p) b) (sym (same q i)) (s.upward p q h i))
      up p q h (inr (inl i)) k =
          let l : p < size = omega (arith, h, i) in
          let P : ℕ → ℕ → Type 0 = λ a b. Steps R a b in
          subst (λ (a : ℕ). P a (node' q)) (sym (same p l)) (subst (λ (b : ℕ). P (node p) b) (sym (ap node' i ∙ last)) (reached p l))
      up p q h (inr (inr i)) k = absurd (omega (arith, i, k))

      down_old : (p q : ℕ) → p < size → q < size → Steps R (node q) (node p) ⊎ IsBetween Starts p q → Steps R (node' q) (node' p) ⊎ IsBetween Starts' p q
      down_old p q h i (inl r) =
          let P : ℕ → ℕ → Type 0 = λ a b. Steps R a b in
          inl (subst (λ (a : ℕ). P a (node' p)) (sym (same q i)) (subst (λ (b : ℕ). P (node q) b) (sym (same p h)) r))
      down_old p q h i (inr b) = inr (record { start = b.start; starts = starts_more b.start b.starts; behind = b.behind; within = b.within })

      down : (p q : ℕ) → p < q → (q < size) ⊎ ((q ≡ size) ⊎ (size < q)) → q < suc size → Steps R (node' q) (node' p) ⊎ IsBetween Starts' p q
      down p q h (inl i) k = down_old p q (omega (arith, h, i)) i (s.back p q h i)
      down p q h (inr (inl i)) k = inr (record { start = size; starts = starts_new; behind = omega (arith, h, i); within = omega (arith, i) })
      down p q h (inr (inr i)) k = absurd (omega (arith, i, k))

-- ---- the last component is closed

module _ (R : ℕ → ℕ → Type 0) (mark : ℕ → Mark) (node : ℕ → ℕ) (size : ℕ) (Waits : ℕ → ℕ → Type 0) (Starts : ℕ → Type 0) (top : ℕ) where
  -- from what is done only what is done is reached
  pub done_on : (s : IsSound R mark node size Waits Starts) (x y : ℕ) → IsDone (mark x) → Steps R x y → IsDone (mark y)
  done_on s x y d (direct e) = s.closed x y d e
  done_on s x y d (onward {y = z} e r) = done_on s z y (s.closed x z d e) r

  pub several : (s : IsSound R mark node size Waits Starts) → ((b : ℕ) → Starts b → b ≤ top) → suc top < size → (p : ℕ) → top ≤ p → p < size → Steps R (node p) (node p)
  several s most two p h i = by (order top p)
    where
      there : (q : ℕ) → (p ≡ q → ⊥) → top ≤ q → q < size → (p ≡ q) ⊎ Steps R (node p) (node q) → (q ≡ p) ⊎ Steps R (node q) (node p) → Steps R (node p) (node p)
      there q d k l (inl e) t = absurd (d e)
      there q d k l (inr r) (inl e) = absurd (d (sym e))
      there q d k l (inr r) (inr t) = steps_on R (node p) (node q) (node p) r t

      on : (q : ℕ) → (p ≡ q → ⊥) → top ≤ q → q < size → Steps R (node p) (node p)
      on q d k l = there q d k l (in_component R mark node size Waits Starts Starts top s most p q h i k l) (in_component R mark node size Waits Starts Starts top s most q p k l h i)

      by : (top < p) ⊎ ((top ≡ p) ⊎ (p < top)) → Steps R (node p) (node p)
      by (inl k) = on top (λ e. omega (arith, e, k)) (omega arith) (omega (arith, two))
      by (inr (inl k)) = on (suc top) (λ e. omega (arith, e, k)) (omega arith) two
      by (inr (inr k)) = absurd (omega (arith, h, k))

  -- where one state is left alone and does not follow itself
  pub alone : (s : IsSound R mark node size Waits Starts) → Starts top → size ≡ suc top → (R (node top) (node top) → ⊥)
      → ((p x : ℕ) → Waits p x → p < top) → Steps R (node top) (node top) → ⊥
  alone s starts one apart past r = away (node top) refl r
    where
      here : top < size
      here = omega (arith, one)

      open_one : (x q : ℕ) → mark x ≡ Open q → top ≤ q → x ≡ node top
      open_one x q e h =
          let k : (q < size) × (node q ≡ x) = s.open_at x q e in
          let l : q ≡ top = omega (arith, k.0, h, one) in
          sym k.1 ∙ ap node l

      settled : (x : ℕ) → R (node top) x → Waits top x ⊎ (IsDone (mark x) ⊎ IsOpenFrom mark Starts top x) → IsDone (mark x)
      settled x e (inl h) = absurd (let k : top < top = past top x h in omega (arith, k))
      settled x e (inr (inl h)) = h
      settled x e (inr (inr o)) =
          let P : ℕ → Type 0 = λ y. R (node top) y in
          absurd (apart (subst P (open_one x o.place o.is (o.later top starts (omega arith))) e))

      not_done : (x : ℕ) → x ≡ node top → IsDone (mark x) → ⊥
      not_done x e d = not_done_open (mark x) top (ap mark e ∙ s.at_open top here) d

      away : (z : ℕ) → z ≡ node top → Steps R (node top) z → ⊥
      away z same (direct e) = not_done z same (settled z e (s.onto top z here e))
      away z same (onward {y = y} e q) = not_done z same (done_on s y z (settled y e (s.onto top y here e)) q)

-- a state's mark as the component is closed
data Now (mark mark' : ℕ → Mark) (node : ℕ → ℕ) (size top : ℕ) (c : Bool) (x : ℕ) : Type 0 where
  shut : (p : ℕ) → top ≤ p → p < size → node p ≡ x → mark' x ≡ Done c → Now mark mark' node size top c x
  same : ((p : ℕ) → mark x ≡ Open p → p < top) → mark' x ≡ mark x → Now mark mark' node size top c x

module _ (R : ℕ → ℕ → Type 0) (mark mark' : ℕ → Mark) (node node' : ℕ → ℕ) (size : ℕ) (Waits : ℕ → ℕ → Type 0) (Starts Starts' : ℕ → Type 0) (top : ℕ) (c : Bool) where
  pub shut_down : (s : IsSound R mark node size Waits Starts)
      → Starts top → ((b : ℕ) → Starts b → b ≤ top) → ((b : ℕ) → Starts' b → Starts b) → ((b : ℕ) → Starts b → Starts' b ⊎ (b ≡ top))
      → ((p x : ℕ) → Waits p x → p < top) → top < size
      → ((p : ℕ) → top ≤ p → p < size → mark' (node p) ≡ Done c)
      → ((x : ℕ) → ((p : ℕ) → top ≤ p → p < size → node p ≢ x) → mark' x ≡ mark x)
      → ((p : ℕ) → p < top → node' p ≡ node p)
      → ((p : ℕ) → top ≤ p → p < size → Tells R c (node p))
      → IsSound R mark' node' top Waits Starts'
  shut_down s starts most less more past here shuts others same_node tells = record {
    open_at = λ x p e. open_there x p e (now x);
    at_open = λ p h. stays_open p h;
    waits = λ p x h. let P : ℕ → Type 0 = λ y. R y x in (past p x h, subst P (sym (same_node p (past p x h))) (s.waits p x h).1);
    onto = λ p x h r. let P : ℕ → Type 0 = λ y. R y x in onto_now p x (s.onto p x (omega (arith, h, here)) (subst P (same_node p h) r));
    upward = λ p q h i.
        let P : ℕ → ℕ → Type 0 = λ a b. Steps R a b in
        let l : p < top = omega (arith, h, i) in
        subst (λ (a : ℕ). P a (node' q)) (sym (same_node p l)) (subst (λ (b : ℕ). P (node p) b) (sym (same_node q i)) (s.upward p q h (omega (arith, i, here))));
    back = λ p q h i. back_now p q h i (s.back p q h (omega (arith, i, here)));
    closed = λ x y d r. closed_now x y d r (now x);
    told = λ x d e. told_now x d e (now x);
  }
    where
      place_of_open : (x p : ℕ) → mark x ≡ Open p → (p < top) ⊎ ((p ≡ top) ⊎ (top < p)) → Now mark mark' node size top c x
      place_of_open x p e (inl h) =
          let one : (q : ℕ) → mark x ≡ Open q → q < top = λ q f. (let k : Open p ≡ Open q = sym e ∙ f in let l : p ≡ q = cc in omega (arith, l, h)) in
          same one (others x (λ q i j n. let k : q < top = one q (ap mark (sym n) ∙ s.at_open q j) in omega (arith, i, k)))
      place_of_open x p e (inr (inl h)) =
          let k : (p < size) × (node p ≡ x) = s.open_at x p e in
          shut p (omega (arith, h)) k.0 k.1 (ap mark' (sym k.1) ∙ shuts p (omega (arith, h)) k.0)
      place_of_open x p e (inr (inr h)) =
          let k : (p < size) × (node p ≡ x) = s.open_at x p e in
          shut p (omega (arith, h)) k.0 k.1 (ap mark' (sym k.1) ∙ shuts p (omega (arith, h)) k.0)

      not_open : (x : ℕ) → ((p : ℕ) → mark x ≡ Open p → ⊥) → Now mark mark' node size top c x
      not_open x h = same (λ p e. absurd (h p e)) (others x (λ q i j n. h q (ap mark (sym n) ∙ s.at_open q j)))

      by_mark : (x : ℕ) (m : Mark) → mark x ≡ m → Now mark mark' node size top c x
      by_mark x New e = not_open x (λ p f. let k : New ≡ Open p = sym e ∙ f in cc)
      by_mark x (Open p) e = place_of_open x p e (order p top)
      by_mark x (Done d) e = not_open x (λ p f. let k : Done d ≡ Open p = sym e ∙ f in cc)

      now : (x : ℕ) → Now mark mark' node size top c x
      now x = by_mark x (mark x) refl

      open_there : (x p : ℕ) → mark' x ≡ Open p → Now mark mark' node size top c x → (p < top) × (node' p ≡ x)
      open_there x p e (shut q i j n f) = absurd (let k : Done c ≡ Open p = sym f ∙ e in cc)
      open_there x p e (same one f) =
          let k : p < top = one p (sym f ∙ e) in
          (k, same_node p k ∙ (s.open_at x p (sym f ∙ e)).1)

      open_still : (p : ℕ) → p < top → Now mark mark' node size top c (node p) → mark' (node p) ≡ Open p
      open_still p h (shut q i j n f) =
          let a : mark (node p) ≡ Open p = s.at_open p (omega (arith, h, here)) in
          let b : mark (node p) ≡ Open q = ap mark (sym n) ∙ s.at_open q j in
          let k : Open p ≡ Open q = sym a ∙ b in
          let l : p ≡ q = cc in
          absurd (omega (arith, l, h, i))
      open_still p h (same one f) = f ∙ s.at_open p (omega (arith, h, here))

      stays_open : (p : ℕ) → p < top → mark' (node' p) ≡ Open p
      stays_open p h = ap mark' (same_node p h) ∙ open_still p h (now (node p))

      done_both : (x : ℕ) → IsDone (mark x) → Now mark mark' node size top c x → IsDone (mark' x)
      done_both x d (shut q i j n f) = let P : Mark → Type 0 = IsDone in let t : IsDone (Done c) = tt in subst P (sym f) t
      done_both x d (same one f) = let P : Mark → Type 0 = IsDone in subst P (sym f) d

      onto_open : (p x : ℕ) → (o : IsOpenFrom mark Starts p x) → Now mark mark' node size top c x → Waits p x ⊎ (IsDone (mark' x) ⊎ IsOpenFrom mark' Starts' p x)
      onto_open p x o (shut q i j n f) = let P : Mark → Type 0 = IsDone in let t : IsDone (Done c) = tt in inr (inl (subst P (sym f) t))
      onto_open p x o (same one f) = inr (inr (record { place = o.place; is = f ∙ o.is; later = λ b k l. o.later b (less b k) l }))

      onto_now : (p x : ℕ) → Waits p x ⊎ (IsDone (mark x) ⊎ IsOpenFrom mark Starts p x) → Waits p x ⊎ (IsDone (mark' x) ⊎ IsOpenFrom mark' Starts' p x)
      onto_now p x (inl h) = inl h
      onto_now p x (inr (inl h)) = inr (inl (done_both x h (now x)))
      onto_now p x (inr (inr o)) = onto_open p x o (now x)

      back_start : (p q : ℕ) → q < top → (b : IsBetween Starts p q) → Starts' b.start ⊎ (b.start ≡ top) → IsBetween Starts' p q
      back_start p q i b (inl j) = record { start = b.start; starts = j; behind = b.behind; within = b.within }
      back_start p q i b (inr e) = let k : b.start ≤ q = b.within in absurd (omega (arith, k, e, i))

      back_now : (p q : ℕ) → p < q → q < top → Steps R (node q) (node p) ⊎ IsBetween Starts p q → Steps R (node' q) (node' p) ⊎ IsBetween Starts' p q
      back_now p q h i (inl r) =
          let P : ℕ → ℕ → Type 0 = λ a b. Steps R a b in
          inl (subst (λ (a : ℕ). P a (node' p)) (sym (same_node q i)) (subst (λ (b : ℕ). P (node q) b) (sym (same_node p (omega (arith, h, i)))) r))
      back_now p q h i (inr b) = inr (back_start p q i b (more b.start b.starts))

      from_shut : (p y : ℕ) → top ≤ p → Waits p y ⊎ (IsDone (mark y) ⊎ IsOpenFrom mark Starts p y) → IsDone (mark' y)
      from_shut p y h (inl i) = absurd (let k : p < top = past p y i in omega (arith, k, h))
      from_shut p y h (inr (inl i)) = done_both y i (now y)
      from_shut p y h (inr (inr o)) =
          let k : (o.place < size) × (node o.place ≡ y) = s.open_at y o.place o.is in
          let P : Mark → Type 0 = IsDone in
          let t : IsDone (Done c) = tt in
          subst P (sym (ap mark' (sym k.1) ∙ shuts o.place (o.later top starts h) k.0)) t

      closed_now : (x y : ℕ) → IsDone (mark' x) → R x y → Now mark mark' node size top c x → IsDone (mark' y)
      closed_now x y d r (shut q i j n f) = let P : ℕ → Type 0 = λ z. R z y in from_shut q y i (s.onto q y j (subst P (sym n) r))
      closed_now x y d r (same one f) = let P : Mark → Type 0 = IsDone in done_both y (s.closed x y (subst P f d) r) (now y)

      told_now : (x : ℕ) (d : Bool) → mark' x ≡ Done d → Now mark mark' node size top c x → Tells R d x
      told_now x d e (shut q i j n f) =
          let k : Done c ≡ Done d = sym f ∙ e in
          let l : c ≡ d = cc in
          let P : Bool → ℕ → Type 0 = λ a y. Tells R a y in
          subst (λ (a : Bool). P a x) l (subst (λ (y : ℕ). P c y) n (tells q i j))
      told_now x d e (same one f) = s.told x d (sym f ∙ e)

-- Sums over the control variables that are declared. What a list of variables weighs is no more than the sum in which each counts
-- as often as it is in the list.
use Rattle.std.proofs.Common.{◌≡◌, ℕ, zero, suc, ◌+◌, ◌*◌, ◌≤◌, List, [], ◌∷◌, ◌++◌, length, take, Bool, true, false, cond, nat_eq, Some, refl, ap, ◌∙◌, subst, arith, add-zero, add-mul, one-mul, mul-le-mul_right}
use Rattle.std.specs.Prelude.{slice_get, if◌then◌else◌}
use Rattle.std.specs.List.{AllByRecursion}
use Rattle.std.proofs.lemmas.Bool.{eq-eqb}
use Rattle.indus_tree.specs.Tree.{Decl}
use Rattle.indus_tree.specs.Hops.{same_kind}
use Rattle.indus_tree.specs.declared.tree.DeclKind.{DeclKind}
use Rattle.indus_tree.specs.declared.tree.DeclKind.TheVariants.{Tele, Sensor, Header, Control}
use Rattle.indus_values.specs.View.{seats}

pub kind_is : (k : DeclKind) → same_kind Control k ≡ true → k ≡ Control
kind_is Tele e = absurd (cc e)
kind_is Sensor e = absurd (cc e)
kind_is Header e = absurd (cc e)
kind_is Control e = refl

-- a control variable is declared at the number
pub record IsControlAt (ds : List Decl) (v : ℕ) : Type 0 where
  pub decl : Decl
  pub declared : slice_get ds v ≡ Some decl
  pub control : decl.kind ≡ Control

-- 1 for the number itself
abbrev pub one_at : ℕ → ℕ → ℕ
one_at v w = if nat_eq v w then 1 else 0

-- how often a number is in a list
abbrev pub times_in : List ℕ → ℕ → ℕ
times_in [] w = 0
times_in (v ∷ vs) w = one_at v w + times_in vs w

module _ (great : ℕ → ℕ) where
  -- what the control variables among some declarations weigh, the first of which has the number v
  abbrev pub weigh : (times : ℕ → ℕ) → (v : ℕ) → List Decl → ℕ
  weigh times v [] = 0
  weigh times v (d ∷ ds) = if same_kind Control d.kind then times v * great v + weigh times (v + 1) ds else weigh times (v + 1) ds

  abbrev pub total : List ℕ → ℕ
  total [] = 0
  total (v ∷ vs) = great v + total vs

  pub weigh_more :
      (less more : ℕ → ℕ) (v : ℕ) (ds : List Decl) → ((i : ℕ) (d : Decl) → slice_get ds i ≡ Some d → d.kind ≡ Control → less (v + i) ≤ more (v + i))
      → weigh less v ds ≤ weigh more v ds
  weigh_more less more v [] h = omega arith
  weigh_more less more v (d ∷ ds) h =
      go (same_kind Control d.kind) refl
      (weigh_more less more (v + 1) ds (λ i c e k. subst (λ (w : ℕ). less w ≤ more w) (let next : v + suc i ≡ v + 1 + i = omega arith in next) (h (suc i) c e k)))
    where
      go : (b : Bool) → same_kind Control d.kind ≡ b → weigh less (v + 1) ds ≤ weigh more (v + 1) ds
          → cond b (less v * great v + weigh less (v + 1) ds) (weigh less (v + 1) ds) ≤ cond b (more v * great v + weigh more (v + 1) ds) (weigh more (v + 1) ds)
      go true e rest =
          (let low : less v ≤ more v = subst (λ (w : ℕ). less w ≤ more w) (add-zero v) (h 0 d refl (kind_is d.kind e)) in
          let here : less v * great v ≤ more v * great v = mul-le-mul_right (great v) low in
          omega (arith, here, rest))
      go false e rest = rest

  -- once more for one of them
  weigh_one :
      (times : ℕ → ℕ) (w v i : ℕ) (ds : List Decl) (d : Decl) → w ≡ v + i → slice_get ds i ≡ Some d → d.kind ≡ Control
      → great w + weigh times v ds ≤ weigh (λ u. one_at w u + times u) v ds
  weigh_one times w v i [] d at e k = absurd (cc e)
  weigh_one times w v zero (c ∷ ds) d at e k =
      let same : c ≡ d = cc e in
      let control : same_kind Control c.kind ≡ true = ap (λ (x : Decl). same_kind Control x.kind) same ∙ ap (same_kind Control) k in
      let here : w ≡ v = at ∙ add-zero v in
      let one : nat_eq w v ≡ true = eq-eqb w v here in
      go (same_kind Control c.kind) control (nat_eq w v) one (weigh_more times (λ u. one_at w u + times u) (v + 1) ds (λ j x f g. omega arith))
    where
      go : (b : Bool) → b ≡ true → (o : Bool) → o ≡ true → weigh times (v + 1) ds ≤ weigh (λ u. one_at w u + times u) (v + 1) ds
          → great w + cond b (times v * great v + weigh times (v + 1) ds) (weigh times (v + 1) ds)
          ≤ cond b ((cond o 1 0 + times v) * great v + weigh (λ u. one_at w u + times u) (v + 1) ds) (weigh (λ u. one_at w u + times u) (v + 1) ds)
      go true f true g rest =
          (let apart : (1 + times v) * great v ≡ 1 * great v + times v * great v = add-mul 1 (times v) (great v) in
          let once : 1 * great v ≡ great v = one-mul (great v) in
          let same : great w ≡ great v = ap great (at ∙ add-zero v) in
          omega (arith, apart, once, same, rest))
      go true f false g rest = absurd (cc g)
      go false f o g rest = absurd (cc f)
  weigh_one times w v (suc i) (c ∷ ds) d at e k = go (same_kind Control c.kind) (weigh_one times w (v + 1) i ds d (omega (arith, at)) e k)
    where
      go : (b : Bool) → great w + weigh times (v + 1) ds ≤ weigh (λ u. one_at w u + times u) (v + 1) ds
          → great w + cond b (times v * great v + weigh times (v + 1) ds) (weigh times (v + 1) ds)
          ≤ cond b ((one_at w v + times v) * great v + weigh (λ u. one_at w u + times u) (v + 1) ds) (weigh (λ u. one_at w u + times u) (v + 1) ds)
      go true rest =
          (let low : times v ≤ one_at w v + times v = omega arith in
          let more : times v * great v ≤ (one_at w v + times v) * great v = mul-le-mul_right (great v) low in
          omega (arith, more, rest))
      go false rest = rest

  total_weighs : (ds : List Decl) (vs : List ℕ) → AllByRecursion (IsControlAt ds) vs → total vs ≤ weigh (times_in vs) 0 ds
  total_weighs ds [] h = omega arith
  total_weighs ds (v ∷ vs) h =
      let rest = total_weighs ds vs h.1 in
      let one = weigh_one (times_in vs) v 0 v ds h.0.decl (omega arith) h.0.declared h.0.control in
      omega (arith, rest, one)

  -- where each is in the list no more often than it counts
  pub total_within :
      (times : ℕ → ℕ) (ds : List Decl) (vs : List ℕ) → AllByRecursion (IsControlAt ds) vs
      → ((v : ℕ) (d : Decl) → slice_get ds v ≡ Some d → d.kind ≡ Control → times_in vs v ≤ times v)
      → total vs ≤ weigh times 0 ds
  total_within times ds vs h few =
      let rest = total_weighs ds vs h in
      let more = weigh_more (times_in vs) times 0 ds (λ i d e k. subst (λ (w : ℕ). times_in vs w ≤ times w) (let same : i ≡ 0 + i = omega arith in same) (few i d e k)) in
      omega (arith, rest, more)

-- ---- places

seats_both : (as' bs : List Decl) → seats Control (as' ++ bs) ≡ seats Control as' + seats Control bs
seats_both [] bs = omega arith
seats_both (a ∷ as') bs = go (same_kind Control a.kind) (seats_both as' bs)
  where
    go : (b : Bool) → seats Control (as' ++ bs) ≡ seats Control as' + seats Control bs → cond b (seats Control (as' ++ bs) + 1) (seats Control (as' ++ bs)) ≡ cond b (seats Control as' + 1) (seats Control as') + seats Control bs
    go true h = omega (arith, h)
    go false h = h

pub seats_next : (front : List Decl) (d : Decl) (k : ℕ) → k ≡ seats Control front → cond (same_kind Control d.kind) (k + 1) k ≡ seats Control (front ++ d ∷ [])
seats_next front d k e = go (same_kind Control d.kind) (seats_both front (d ∷ []))
  where
    go : (b : Bool) → seats Control (front ++ d ∷ []) ≡ seats Control front + cond b (0 + 1) 0 → cond b (k + 1) k ≡ seats Control (front ++ d ∷ [])
    go true h = omega (arith, h, e)
    go false h = omega (arith, h, e)

pub taken_front : {A : Type 0} (front back : List A) → take (length front) (front ++ back) ≡ front
taken_front [] back = refl
taken_front (a ∷ front) back = ap (λ xs. a ∷ xs) (taken_front front back)

pub pushed_long : {A : Type 0} (front : List A) (a : A) → length (front ++ a ∷ []) ≡ length front + 1
pushed_long [] a = refl
pushed_long (b ∷ front) a = let more = pushed_long front a in omega (arith, more)

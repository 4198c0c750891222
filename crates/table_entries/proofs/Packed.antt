-- One number is one sign, and what is noted for one sign is noted for no other.
use Rattle.std.proofs.Common.{◌≡◌, ℕ, zero, suc, ◌+◌, ◌*◌, ◌%◌, ◌^◌, ◌<◌, ◌≤◌, List, [], ◌∷◌, Bool, true, false, Option, Some, None, refl, sym, ap, ap₂, ◌∙◌, arith, Fits}
use Rattle.std.specs.Int.{w128}
use Rattle.std.specs.Prelude.{◌&&◌, nat_eq, nat_lt, if◌then◌else◌}
use Rattle.std.specs.Option.{option_or, option_and_then}
use Rattle.std.specs.Cmp.Lexicographic.{pointwise, bytes_decides}
use Rattle.std.proofs.Math.Pow.{pow_mono}
use Rattle.std.proofs.Math.Nat.{pow-suc, suc-mul, zero-mul, mul-le-mul_right}
use Rattle.std.proofs.lemmas.Bool.{and_parts, false≢true, eqb-true, eq-eqb}
use Rattle.table_entries.specs.Signs.{prefix_code, joined, by_kind, number_behind, prefix_behind, number_first, prefix_first, packed_behind, packed, number_act, list_act, kept_at, sign_act}
use Rattle.table_shapes.specs.declared.shape.KeyKind.{KeyKind}
use Rattle.table_shapes.specs.declared.shape.KeyKind.TheVariants.{Exact, Lpm, Ternary}
use Rattle.table_shapes.specs.declared.shape.KeyShape.{KeyShape}
use Rattle.table_entries.specs.declared.entry.Act as code_act
use Rattle.table_entries.specs.declared.signs.Signs.{Signs}
use Rattle.table_entries.proofs.Noted.{or_none}

-- ---- prefixes as numbers

-- there is room for the one
pub room : (n b : ℕ) → n < 128 → b < 1 * 2 ^ n % 340282366920938463463374607431768211456 → Fits w128 (1 * 2 ^ n % 340282366920938463463374607431768211456 + b)
room n b few below =
    let wide = pow_mono {i = n} {j = 127} (omega (arith, few)) in
    omega (arith, wide, below)

-- one number is one prefix
code_tells : (n b m c : ℕ) → b < 2 ^ n → c < 2 ^ m → 2 ^ n + b ≡ 2 ^ m + c → (n ≡ m) × (b ≡ c)
code_tells n b m c lb lc is = go (nat_lt n m) refl (nat_lt m n) refl
  where
    go : (x : Bool) → nat_lt n m ≡ x → (y : Bool) → nat_lt m n ≡ y → (n ≡ m) × (b ≡ c)
    go true lt y _ =
        let below : suc n ≤ m = grind (arith, lt) in
        let wide = pow_mono {i = suc n} {j = m} below in
        let twice = pow-suc 2 n in
        absurd (omega (arith, wide, twice, lb, is))
    go false ge true lt =
        let below : suc m ≤ n = grind (arith, lt) in
        let wide = pow_mono {i = suc m} {j = n} below in
        let twice = pow-suc 2 m in
        absurd (omega (arith, wide, twice, lc, is))
    go false ge false le =
        let same : n ≡ m = grind (arith, ge, le) in
        let power : 2 ^ n ≡ 2 ^ m = ap (λ (j : ℕ). 2 ^ j) same in
        (same, omega (arith, power, is))

record IsPrefix (n b code : ℕ) : Type 0 where
  pub below : b < 2 ^ n
  pub is : code ≡ 2 ^ n + b

prefix_is : (n b code : ℕ) → prefix_code n b ≡ Some code → IsPrefix n b code
prefix_is n b code is = go (nat_lt n 128 && nat_lt b (2 ^ n)) refl is
  where
    go : (x : Bool) → (nat_lt n 128 && nat_lt b (2 ^ n)) ≡ x → (if x then Some (2 ^ n + b) else None) ≡ Some code → IsPrefix n b code
    go true h e =
        let lt = (and_parts (nat_lt n 128) (nat_lt b (2 ^ n)) h).1 in
        let told : 2 ^ n + b ≡ code = cc e in
        record { below = grind (arith, lt); is = sym told }
    go false h e = absurd (cc e)

-- ---- a number behind another one

-- one number is one pair
pair_tells : (x a n b m : ℕ) → n < x → m < x → a * x + n ≡ b * x + m → (a ≡ b) × (n ≡ m)
pair_tells x a n b m ln lm is = go (nat_lt a b) refl (nat_lt b a) refl
  where
    go : (p : Bool) → nat_lt a b ≡ p → (q : Bool) → nat_lt b a ≡ q → (a ≡ b) × (n ≡ m)
    go true lt q _ =
        let below : suc a ≤ b = grind (arith, lt) in
        let far : suc a * x ≤ b * x = mul-le-mul_right x below in
        let more : suc a * x ≡ a * x + x = suc-mul a x in
        absurd (omega (arith, far, more, ln, is))
    go false ge true lt =
        let below : suc b ≤ a = grind (arith, lt) in
        let far : suc b * x ≤ a * x = mul-le-mul_right x below in
        let more : suc b * x ≡ b * x + x = suc-mul b x in
        absurd (omega (arith, far, more, lm, is))
    go false ge false le =
        let same : a ≡ b = grind (arith, ge, le) in
        let times : a * x ≡ b * x = ap (λ (j : ℕ). j * x) same in
        (same, omega (arith, times, is))

joins : (w n r : ℕ) → n < 2 ^ w → r * 2 ^ w + n < 2 ^ 128 → joined w n r ≡ Some (r * 2 ^ w + n)
joins w n r below fits =
    let one : nat_lt n (2 ^ w) ≡ true = grind (arith, below) in
    let two : nat_lt (r * 2 ^ w + n) (2 ^ 128) ≡ true = grind (arith, fits) in
    ap₂ (λ (x y : Bool). if x && y then Some (r * 2 ^ w + n) else None) one two

and_false : (b : Bool) → (b && false) ≡ false
and_false true = refl
and_false false = refl

no_room : (w n r : ℕ) → 2 ^ 128 ≤ r * 2 ^ w + n → joined w n r ≡ None
no_room w n r much =
    let two : nat_lt (r * 2 ^ w + n) (2 ^ 128) ≡ false = grind (arith, much) in
    ap (λ (y : Bool). if nat_lt n (2 ^ w) && y then Some (r * 2 ^ w + n) else None) two ∙ ap (λ (x : Bool). if x then Some (r * 2 ^ w + n) else None) (and_false (nat_lt n (2 ^ w)))

-- a number that takes all bits stands alone
pub stands_alone : (w n r : ℕ) → 128 ≤ w → n < 2 ^ 128 → r ≡ 0 → Some n ≡ joined w n r
stands_alone w n r wide fits none =
    let far = pow_mono {i = 128} {j = w} wide in
    let nothing : r * 2 ^ w ≡ 0 = ap (λ (j : ℕ). j * 2 ^ w) none ∙ zero-mul (2 ^ w) in
    let same : n ≡ r * 2 ^ w + n = omega (arith, nothing) in
    ap Some same ∙ sym (joins w n r (omega (arith, far, fits)) (omega (arith, nothing, fits)))

pub stands_not : (w n r : ℕ) → 128 ≤ w → (r ≡ 0 → ⊥) → None ≡ joined w n r
stands_not w n zero wide some = absurd (some refl)
stands_not w n (suc r) wide some =
    let far = pow_mono {i = 128} {j = w} wide in
    let more = suc-mul r (2 ^ w) in
    sym (no_room w n (suc r) (omega (arith, far, more)))

record IsJoined (w n r code : ℕ) : Type 0 where
  pub below : n < 2 ^ w
  pub is : r * 2 ^ w + n ≡ code

joined_is : (w n r code : ℕ) → joined w n r ≡ Some code → IsJoined w n r code
joined_is w n r code is = go (nat_lt n (2 ^ w) && nat_lt (r * 2 ^ w + n) (2 ^ 128)) refl is
  where
    go : (x : Bool) → (nat_lt n (2 ^ w) && nat_lt (r * 2 ^ w + n) (2 ^ 128)) ≡ x → (if x then Some (r * 2 ^ w + n) else None) ≡ Some code → IsJoined w n r code
    go true h e =
        let lt = (and_parts (nat_lt n (2 ^ w)) (nat_lt (r * 2 ^ w + n) (2 ^ 128)) h).0 in
        record { below = grind (arith, lt); is = cc e }
    go false h e = absurd (cc e)

-- two that are joined to one number are the same
joined_tells : (w n m r q code : ℕ) → joined w n r ≡ Some code → joined w m q ≡ Some code → (r ≡ q) × (n ≡ m)
joined_tells w n m r q code is too =
    let x = joined_is w n r code is in
    let y = joined_is w m q code too in
    pair_tells (2 ^ w) r n q m x.below y.below (x.is ∙ sym y.is)

-- ---- one number is one sign

-- a step that gives something, and what follows it
record IsStep (first : Option ℕ) (rest : ℕ → Option ℕ) (code : ℕ) : Type 0 where
  pub number : ℕ
  pub gives : first ≡ Some number
  pub follows : rest number ≡ Some code

step_is : (first : Option ℕ) (rest : ℕ → Option ℕ) (code : ℕ) → option_and_then rest first ≡ Some code → IsStep first rest code
step_is None rest code is = absurd (cc is)
step_is (Some n) rest code is = record { number = n; gives = refl; follows = is }

-- what stands before and a sign behind it are told by one number
abbrev Tells : List KeyShape → Type 0
Tells ks = (s t : List ℕ) (c d code : ℕ) → packed_behind ks s c ≡ Some code → packed_behind ks t d ≡ Some code → (c ≡ d) × (s ≡ t)

module _ (k : KeyShape) (ks : List KeyShape) (rest : Tells ks) where
  number_tells : (s t : List ℕ) (c d code : ℕ) → number_first k (packed_behind ks) s c ≡ Some code → number_first k (packed_behind ks) t d ≡ Some code → (c ≡ d) × (s ≡ t)
  number_tells [] t c d code is too = absurd (cc is)
  number_tells (n ∷ s) [] c d code is too = absurd (cc too)
  number_tells (n ∷ s) (m ∷ t) c d code is too =
      let x = step_is (number_behind k n c) (packed_behind ks s) code is in
      let y = step_is (number_behind k m d) (packed_behind ks t) code too in
      let behind = rest s t x.number y.number code x.follows y.follows in
      let told = joined_tells k.value.width n m c d x.number x.gives (y.gives ∙ ap Some (sym behind.0)) in
      (told.0, ap₂ (λ (i : ℕ) (l : List ℕ). i ∷ l) told.1 behind.1)

  prefix_tells : (s t : List ℕ) (c d code : ℕ) → prefix_first k (packed_behind ks) s c ≡ Some code → prefix_first k (packed_behind ks) t d ≡ Some code → (c ≡ d) × (s ≡ t)
  prefix_tells [] t c d code is too = absurd (cc is)
  prefix_tells (n ∷ []) t c d code is too = absurd (cc is)
  prefix_tells (n ∷ b ∷ s) [] c d code is too = absurd (cc too)
  prefix_tells (n ∷ b ∷ s) (m ∷ []) c d code is too = absurd (cc too)
  prefix_tells (n ∷ b ∷ s) (m ∷ e ∷ t) c d code is too =
      let x = step_is (prefix_behind k n b c) (packed_behind ks s) code is in
      let y = step_is (prefix_behind k m e d) (packed_behind ks t) code too in
      let behind = rest s t x.number y.number code x.follows y.follows in
      let v = step_is (prefix_code n b) (λ p. joined (suc k.value.width) p c) x.number x.gives in
      let w = step_is (prefix_code m e) (λ p. joined (suc k.value.width) p d) y.number y.gives in
      let told = joined_tells (suc k.value.width) v.number w.number c d x.number v.follows (w.follows ∙ ap Some (sym behind.0)) in
      let p = prefix_is n b v.number v.gives in
      let q = prefix_is m e w.number w.gives in
      let one = code_tells n b m e p.below q.below (sym p.is ∙ told.1 ∙ q.is) in
      (told.0, ap₂ (λ (i : ℕ) (l : List ℕ). i ∷ l) one.0 (ap₂ (λ (i : ℕ) (l : List ℕ). i ∷ l) one.1 behind.1))

  kind_tells : (j : KeyKind) (s t : List ℕ) (c d code : ℕ) → by_kind j (number_first k (packed_behind ks) s c) (prefix_first k (packed_behind ks) s c) ≡ Some code → by_kind j (number_first k (packed_behind ks) t d) (prefix_first k (packed_behind ks) t d) ≡ Some code → (c ≡ d) × (s ≡ t)
  kind_tells Exact s t c d code is too = number_tells s t c d code is too
  kind_tells Lpm s t c d code is too = prefix_tells s t c d code is too
  kind_tells Ternary s t c d code is too = number_tells s t c d code is too

behind_tells : (ks : List KeyShape) → Tells ks
behind_tells [] [] [] c d code is too = (cc (is ∙ sym too), refl)
behind_tells [] [] (m ∷ t) c d code is too = absurd (cc too)
behind_tells [] (n ∷ s) t c d code is too = absurd (cc is)
behind_tells (k ∷ ks) s t c d code is too = kind_tells k ks (behind_tells ks) k.kind s t c d code is too

pub packed_tells : (ks : List KeyShape) (s t : List ℕ) (code : ℕ) → packed ks s ≡ Some code → packed ks t ≡ Some code → s ≡ t
packed_tells ks s t code is too = (behind_tells ks s t 0 0 code is too).1

-- ---- what is noted for one sign

-- two signs are the same where they are one number, or none and the same numbers
abbrev same_code : List ℕ → List ℕ → Option ℕ → Option ℕ → Bool
same_code s t (Some c) (Some d) = nat_eq c d
same_code s t (Some c) None = false
same_code s t None (Some d) = false
same_code s t None None = pointwise nat_eq s t

module _ (ks : List KeyShape) where
  code_itself : (s t : List ℕ) (o : Option ℕ) → pointwise nat_eq s t ≡ true → same_code s t o o ≡ true
  code_itself s t (Some c) is = eq-eqb c c refl
  code_itself s t None is = is

  codes_decide : (s t : List ℕ) (o p : Option ℕ) → packed ks s ≡ o → packed ks t ≡ p → same_code s t o p ≡ true → pointwise nat_eq s t ≡ true
  codes_decide s t (Some c) (Some d) so tp is = (bytes_decides s t).1 (packed_tells ks s t c so (tp ∙ ap Some (sym (eqb-true c d is))))
  codes_decide s t None None so tp is = is
  codes_decide s t (Some c) None so tp is = absurd (false≢true is)
  codes_decide s t None (Some d) so tp is = absurd (false≢true is)

  alike : (s t : List ℕ) → pointwise nat_eq s t ≡ same_code s t (packed ks s) (packed ks t)
  alike s t = go (pointwise nat_eq s t) refl (same_code s t (packed ks s) (packed ks t)) refl
    where
      go : (x : Bool) → pointwise nat_eq s t ≡ x → (y : Bool) → same_code s t (packed ks s) (packed ks t) ≡ y → x ≡ y
      go true p true q = refl
      go false p false q = refl
      go true p false q =
          let same : s ≡ t = (bytes_decides s t).0 p in
          sym (code_itself s t (packed ks s) p) ∙ ap (λ (o : Option ℕ). same_code s t (packed ks s) o) (ap (packed ks) same) ∙ q
      go false p true q = sym p ∙ codes_decide s t (packed ks s) (packed ks t) refl refl q

  module _ (m : Signs) (sign : List ℕ) (act : code_act.Act) where
    abbrev noted_or : Option code_act.Act → Bool → Option code_act.Act
    noted_or o b = option_or o (if b then Some act else None)

    at_code : (s : List ℕ) (o p : Option ℕ) → packed ks s ≡ o → packed ks sign ≡ p → pointwise nat_eq s sign ≡ same_code s sign o p
    at_code s o p so tp = alike s sign ∙ ap₂ (same_code s sign) so tp

    pub as_number : (acts : _) (code : ℕ) → packed ks sign ≡ Some code → ((q : ℕ) → number_act acts q ≡ option_or (number_act m.numbers q) (if nat_eq q code then Some act else None)) → (s : List ℕ) → sign_act ks (record m { numbers = acts }) s ≡ option_or (sign_act ks m s) (if pointwise nat_eq s sign then Some act else None)
    as_number acts code is noted s = go (packed ks s) refl
      where
        go : (o : Option ℕ) → packed ks s ≡ o → kept_at (record m { numbers = acts }) s o ≡ option_or (kept_at m s o) (if pointwise nat_eq s sign then Some act else None)
        go (Some c) so = noted c ∙ ap (noted_or (number_act m.numbers c)) (sym (at_code s (Some c) (Some code) so is))
        go None so = or_none (list_act m.lists s) ∙ ap (noted_or (list_act m.lists s)) (sym (at_code s None (Some code) so is))

    pub as_list : (acts : _) → packed ks sign ≡ None → ((s : List ℕ) → list_act acts s ≡ option_or (list_act m.lists s) (if pointwise nat_eq s sign then Some act else None)) → (s : List ℕ) → sign_act ks (record m { lists = acts }) s ≡ option_or (sign_act ks m s) (if pointwise nat_eq s sign then Some act else None)
    as_list acts is noted s = go (packed ks s) refl
      where
        go : (o : Option ℕ) → packed ks s ≡ o → kept_at (record m { lists = acts }) s o ≡ option_or (kept_at m s o) (if pointwise nat_eq s sign then Some act else None)
        go (Some c) so = or_none (number_act m.numbers c) ∙ ap (noted_or (number_act m.numbers c)) (sym (at_code s (Some c) None so is))
        go None so = noted s

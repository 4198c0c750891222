-- The widths of kinds, and of what an operator's class makes of them.
use Rattle.std.proofs.Common.{◌≡◌, ℕ, ◌+◌, ◌-◌, ◌≤◌, zero, suc, Bool, true, false, cond, not, ◌||◌, ◌&&◌, nat_eq, nat_lt, refl, sym, ap, ap₂, ◌∙◌, subst, arith}
use Rattle.std.proofs.lemmas.Bool.Decides.{nat_tests}
use borrow.Author.Tests.{eqb-true}
use Rattle.bit_values.specs.Widths.{either_width}
use Rattle.p4_scopes.specs.Kinds.{is_open, join, as_number, as_value, width_in, kinds_differ, joined_width, slice_width, choice_kind, like_want, choice_want}
use Rattle.p4_scopes.specs.declared.kind.Kind.{Kind}
use Rattle.p4_scopes.specs.declared.kind.Kind.TheVariants.{Number, Truth, Error, Unknown}
use Rattle.p4_typing_laws.specs.Soundness.{kind_width, IsWidth}
use Rattle.p4_typing_laws.proofs.Fine.{neither}

pub one_bit : IsWidth 1
one_bit = record { least = omega arith; most = omega arith }

pub two_bits : IsWidth 2
two_bits = record { least = omega arith; most = omega arith }

pub nonzero : (w : ℕ) (b : Bool) → nat_eq (suc w) 0 ≡ b → b ≡ false
nonzero w true e = absurd (let z : suc w ≡ 0 = eqb-true (suc w) 0 e in omega arith)
nonzero w false e = refl

-- a width of its own stays, whatever the place gives
pub kept : (v w : ℕ) → IsWidth v → either_width v w ≡ v
kept zero w is = absurd (let l = is.least in omega (arith, l))
kept (suc v) w is = refl

pub given : (v w : ℕ) → IsWidth v → IsWidth (either_width v w)
given v w is = subst IsWidth (sym (kept v w is)) is

pub twice : (v w : ℕ) → either_width v (either_width v w) ≡ either_width v w
twice zero w = refl
twice (suc v) w = refl

-- either operand's width, and the whole's place
pub first_given : (v u w : ℕ) → either_width v (either_width (either_width v u) w) ≡ either_width (either_width v u) w
first_given zero u w = refl
first_given (suc v) u w = refl

-- ---- kinds of numbers

-- what may stand where a number is wanted
abbrev pub Plain : Kind → Type 0
Plain k = kinds_differ k (Number 0) ≡ false

pub is_plain : (k want : Kind) → kinds_differ k (as_number want) ≡ false → Plain k
is_plain (Number w) want h = refl
is_plain Truth (Number w) h = h
is_plain Truth Truth h = h
is_plain Truth Error h = h
is_plain Truth Unknown h = h
is_plain Error (Number w) h = h
is_plain Error Truth h = h
is_plain Error Error h = h
is_plain Error Unknown h = h
is_plain Unknown want h = refl

-- a number keeps its width as one
pub plain_width : (k : Kind) → Plain k → kind_width (as_number k) ≡ kind_width k
plain_width (Number w) h = refl
plain_width Truth h = absurd (let c : true ≡ false = h in cc)
plain_width Error h = absurd (let c : true ≡ false = h in cc)
plain_width Unknown h = refl

pub width_in_plain : (k : Kind) → Plain k → width_in k ≡ kind_width k
width_in_plain (Number w) h = refl
width_in_plain Truth h = absurd (let c : true ≡ false = h in cc)
width_in_plain Error h = absurd (let c : true ≡ false = h in cc)
width_in_plain Unknown h = refl

-- what is wanted where a number stands
pub want_plain : (k want : Kind) → kinds_differ (as_number k) want ≡ false → Plain want
want_plain k (Number w) h = refl
want_plain (Number v) Truth h = h
want_plain Truth Truth h = h
want_plain Error Truth h = h
want_plain Unknown Truth h = h
want_plain (Number v) Error h = h
want_plain Truth Error h = h
want_plain Error Error h = h
want_plain Unknown Error h = h
want_plain k Unknown h = refl

pub pick_plain : (t : Bool) (a b : Kind) → Plain a → Plain b → Plain (cond t b a)
pick_plain true a b h k = k
pick_plain false a b h k = h

pub join_width : (a b : Kind) → kind_width (join a b) ≡ either_width (kind_width a) (kind_width b)
join_width (Number zero) b = refl
join_width (Number (suc w)) b = ap (λ (t : Bool). kind_width (cond t b (Number (suc w)))) (nonzero w (nat_eq (suc w) 0) refl)
join_width Truth b = refl
join_width Error b = refl
join_width Unknown b = refl

-- the width of a number's place, which two kinds give
pub join_plain : (a b : Kind) → Plain a → Plain b → kind_width (as_number (join a b)) ≡ either_width (kind_width a) (kind_width b)
join_plain a b h k = plain_width (join a b) (pick_plain (is_open a) a b h k) ∙ join_width a b

number_plain : (k : Kind) → Plain (as_number k)
number_plain (Number w) = refl
number_plain Truth = refl
number_plain Error = refl
number_plain Unknown = refl

-- the width of a number's place beside another operand: that of an operand, or of the whole's place
pub like_width : (a b want : Kind) → Plain a → Plain b → Plain want → kind_width (like_want a b want) ≡ either_width (either_width (kind_width a) (kind_width b)) (kind_width want)
like_width a b want h k l =
    join_plain (join (as_number a) (as_number b)) want (pick_plain (is_open (as_number a)) (as_number a) (as_number b) (number_plain a) (number_plain b)) l
    ∙ ap (λ v. either_width v (kind_width want)) (join_width (as_number a) (as_number b) ∙ ap₂ either_width (plain_width a h) (plain_width b k))

-- ---- kinds of values

-- a number or a truth value
abbrev pub is_value : Kind → Bool
is_value (Number w) = true
is_value Truth = true
is_value Error = false
is_value Unknown = false

-- a kind that some value has
abbrev pub is_some_kind : Kind → Bool
is_some_kind Unknown = false
is_some_kind _ = true

-- no error stands where a number or a truth value is wanted
abbrev pub no_error : Kind → Bool
no_error Error = false
no_error _ = true

pub value_no_error : (k : Kind) → no_error (as_value k) ≡ true
value_no_error (Number w) = refl
value_no_error Truth = refl
value_no_error Error = refl
value_no_error Unknown = refl

pub pick_no_error : (t : Bool) (a b : Kind) → no_error a ≡ true → no_error b ≡ true → no_error (cond t b a) ≡ true
pick_no_error true a b h k = k
pick_no_error false a b h k = h

pub choice_no_error : (a b want : Kind) → no_error (choice_want a b want) ≡ true
choice_no_error a b want =
    pick_no_error (is_open (choice_kind a b)) (choice_kind a b) (as_value want)
    (pick_no_error (is_open (as_value a)) (as_value a) (as_value b) (value_no_error a) (value_no_error b)) (value_no_error want)

-- where no error is wanted, what is of some kind is a value
pub is_value_there : (k want : Kind) → is_some_kind k ≡ true → no_error want ≡ true → kinds_differ k want ≡ false → is_value k ≡ true
is_value_there (Number w) want i n h = refl
is_value_there Truth want i n h = refl
is_value_there Error (Number w) i n h = absurd (let c : true ≡ false = h in cc)
is_value_there Error Truth i n h = absurd (let c : true ≡ false = h in cc)
is_value_there Error Error i n h = absurd (let c : false ≡ true = n in cc)
is_value_there Error Unknown i n h = absurd (let c : true ≡ false = h in cc)
is_value_there Unknown want i n h = absurd (let c : false ≡ true = i in cc)

pub as_value_is : (k : Kind) → is_value k ≡ true → as_value k ≡ k
as_value_is (Number w) h = refl
as_value_is Truth h = refl
as_value_is Error h = absurd (let c : false ≡ true = h in cc)
as_value_is Unknown h = absurd (let c : false ≡ true = h in cc)

pub pick_value : (t : Bool) (a b : Kind) → is_value a ≡ true → is_value b ≡ true → is_value (cond t b a) ≡ true
pick_value true a b h k = k
pick_value false a b h k = h

pub value_some : (k : Kind) → is_value k ≡ true → is_some_kind k ≡ true
value_some (Number w) h = refl
value_some Truth h = refl
value_some Error h = absurd (let c : false ≡ true = h in cc)
value_some Unknown h = absurd (let c : false ≡ true = h in cc)

-- a place where a value stands wants a value, and its width is that of the wanted value
pub value_want : (k want : Kind) → is_value k ≡ true → kinds_differ k want ≡ false → kind_width (as_value want) ≡ kind_width want
value_want k (Number w) i h = refl
value_want k Truth i h = refl
value_want (Number v) Error i h = absurd (let c : true ≡ false = h in cc)
value_want Truth Error i h = absurd (let c : true ≡ false = h in cc)
value_want Error Error i h = absurd (let c : false ≡ true = i in cc)
value_want Unknown Error i h = absurd (let c : false ≡ true = i in cc)
value_want k Unknown i h = refl

-- the width that a choice's place gives
pub choice_place : (a b want : Kind) → is_value a ≡ true → is_value b ≡ true → kinds_differ (choice_kind a b) want ≡ false → kind_width (choice_want a b want) ≡ either_width (either_width (kind_width a) (kind_width b)) (kind_width want)
choice_place a b want i j h =
    let whole : kind_width (choice_kind a b) ≡ either_width (kind_width a) (kind_width b) = join_width (as_value a) (as_value b) ∙ ap₂ (λ x y. either_width (kind_width x) (kind_width y)) (as_value_is a i) (as_value_is b j) in
    let is : is_value (choice_kind a b) ≡ true = pick_value (is_open (as_value a)) (as_value a) (as_value b) (ap is_value (as_value_is a i) ∙ i) (ap is_value (as_value_is b j) ∙ j) in
    join_width (choice_kind a b) (as_value want) ∙ ap₂ either_width whole (value_want (choice_kind a b) want is h)

pub choice_width : (a b : Kind) → is_value a ≡ true → is_value b ≡ true → kind_width (choice_kind a b) ≡ either_width (kind_width a) (kind_width b)
choice_width a b i j = join_width (as_value a) (as_value b) ∙ ap₂ (λ x y. either_width (kind_width x) (kind_width y)) (as_value_is a i) (as_value_is b j)

-- ---- widths of results

-- two numbers joined have the sum of their widths, where that is found fine
pub joined_is : (v w : ℕ) → IsWidth v → IsWidth w → (not (nat_eq v 0) && not (nat_eq w 0) && nat_eq (joined_width v w) 0) ≡ false → (joined_width v w ≡ v + w) × (v + w ≤ 128)
joined_is zero w i j h = absurd (let l = i.least in omega (arith, l))
joined_is (suc v) zero i j h = absurd (let l = j.least in omega (arith, l))
joined_is (suc v) (suc w) i j h = go (nat_lt 128 (suc v + suc w)) refl (nonzero v (nat_eq (suc v) 0) refl) (nonzero w (nat_eq (suc w) 0) refl)
  where
    wide : (x y : Bool) → x ≡ false → y ≡ false → (not x && not y && nat_eq (cond (x || y || true) 0 (suc v + suc w)) 0) ≡ true
    wide false false p q = refl
    wide false true p q = absurd (let c : true ≡ false = q in cc)
    wide true y p q = absurd (let c : true ≡ false = p in cc)

    summed : (x y : Bool) → x ≡ false → y ≡ false → cond (x || y || false) 0 (suc v + suc w) ≡ suc v + suc w
    summed false false p q = refl
    summed false true p q = absurd (let c : true ≡ false = q in cc)
    summed true y p q = absurd (let c : true ≡ false = p in cc)

    go : (b : Bool) → nat_lt 128 (suc v + suc w) ≡ b → nat_eq (suc v) 0 ≡ false → nat_eq (suc w) 0 ≡ false → (joined_width (suc v) (suc w) ≡ suc v + suc w) × (suc v + suc w ≤ 128)
    go true e p q =
        absurd (let there : (not (nat_eq (suc v) 0) && not (nat_eq (suc w) 0) && nat_eq (cond (nat_eq (suc v) 0 || nat_eq (suc w) 0 || true) 0 (suc v + suc w)) 0) ≡ false = subst (λ (b : Bool). (not (nat_eq (suc v) 0) && not (nat_eq (suc w) 0) && nat_eq (cond (nat_eq (suc v) 0 || nat_eq (suc w) 0 || b) 0 (suc v + suc w)) 0) ≡ false) e h in
        let here = wide (nat_eq (suc v) 0) (nat_eq (suc w) 0) p q in
        let c : true ≡ false = sym here ∙ there in cc)
    go false e p q =
        (ap (λ (b : Bool). cond (nat_eq (suc v) 0 || nat_eq (suc w) 0 || b) 0 (suc v + suc w)) e ∙ summed (nat_eq (suc v) 0) (nat_eq (suc w) 0) p q, grind (arith, nat_tests))

-- a slice that is found fine has the width that the meaning takes
pub slice_is : (h l : ℕ) (other : Bool) → (nat_eq (slice_width h l) 0 || other) ≡ false → (slice_width h l ≡ h + 1 - l) × IsWidth (h + 1 - l)
slice_is h l other e = go (nat_lt h l) (nat_lt 127 h) refl refl (neither (nat_eq (slice_width h l) 0) other e).0
  where
    go : (x y : Bool) → nat_lt h l ≡ x → nat_lt 127 h ≡ y → nat_eq (cond (x || y) 0 (h - l + 1)) 0 ≡ false → (cond (x || y) 0 (h - l + 1) ≡ h + 1 - l) × IsWidth (h + 1 - l)
    go true y p q k = absurd (let c : true ≡ false = k in cc)
    go false true p q k = absurd (let c : true ≡ false = k in cc)
    go false false p q k =
        let low : l ≤ h = grind (arith, nat_tests) in
        let high : h ≤ 127 = grind (arith, nat_tests) in
        (omega arith, record { least = omega arith; most = omega arith })

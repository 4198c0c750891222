-- The static width of a fine expression can be a width, by induction on the expression: what is read has a declared
-- width, a number takes that of its place, and an operator's is that of an operand.
use Rattle.std.proofs.Common.{◌≡◌, ℕ, ◌+◌, zero, suc, List, Bool, true, false, cond, not, ◌||◌, ◌&&◌, Option, Some, None, refl, sym, ap, ap₂, ◌∙◌, subst, nat_eq, nat_lt, min, inl, inr, ◌≤◌, arith}
use Rattle.std.specs.Prelude.{codes, nat_le, ◌⊎◌}
use Rattle.std.proofs.lemmas.Bool.{le-leb}
use Rattle.std.proofs.lemmas.Bool.Decides.{nat_tests}
use Rattle.std.proofs.Math.Nat.{min-eq_left, min-eq_right}
use Rattle.bit_values.specs.Widths.{either_width, sound_width}
use Rattle.bit_values.specs.Operators.{Class, like, shift, joined, compare, logic}
use Rattle.lex_text.specs.Names.{same_text}
use Rattle.indus_tree.specs.Tree.{Expr, Exprs, num, flag, read, count, index, member, negation, inversion, binary, cast, Shape, one, list, set, dict, Decl}
use Rattle.indus_tree.specs.State.{lookup, shape_width}
use Rattle.indus_tree.specs.Operators.{class_of}
use Rattle.indus_scopes.specs.Kinds.{is_open, join, as_number, width_in, kinds_differ, takes_either, like_want, class_left, class_right, class_kind}
use Rattle.indus_scopes.specs.Scopes.{Sight, role_of, role_from, scalar_kind, read_kind, index_kind, item_of, builtin_of, own}
use Rattle.indus_scopes.specs.Uses.{is_missing, is_scalar, reads, indexed}
use Rattle.indus_rules.specs.Sites.{expr_sites}
use Rattle.indus_rules.specs.Rules.{Fine, number_width, too_wide}
use Rattle.indus_rules.specs.declared.rule.Rule.TheVariants.{NoSuchName, KindDiffers, BadSize}
use Rattle.indus_scopes.specs.declared.kind.Kind.{Kind}
use Rattle.indus_scopes.specs.declared.kind.Kind.TheVariants.{Number, Truth, Unknown}
use Rattle.indus_types.specs.Fits.{kind_width}
use Rattle.indus_types.specs.StaticWidths.{static_width, IsWidth, IsSound}
use Rattle.indus_types.proofs.Widths.{neither, twice_not, kind_of_width, element_width, not_truth, nonzero, kind_fine}
use Rattle.indus_types.proofs.SoundSights.{good_bits, one_bit}

-- ---- widths

-- a width of its own stays, whatever the place gives
pub kept : (v w : ℕ) → IsWidth v → either_width v w ≡ v
kept zero w is = absurd (let l = is.least in omega (arith, l))
kept (suc v) w is = refl

-- a width that can be one is not cut
pub sound_is : (w : ℕ) → IsWidth w → sound_width w ≡ w
sound_is zero is = absurd (let l = is.least in omega (arith, l))
sound_is (suc w) is = ap (λ b. cond b (suc w) 128) (le-leb (suc w) 128 is.most)

given : (v w : ℕ) → IsWidth v → IsWidth (either_width v w)
given v w is = subst IsWidth (sym (kept v w is)) is

-- a place that is given twice
pub twice : (v w : ℕ) → either_width v (either_width v w) ≡ either_width v w
twice zero w = refl
twice (suc v) w = refl

-- the other operand's width, and the whole's place
both_given : (v u w : ℕ) → either_width v (either_width (either_width v u) w) ≡ either_width (either_width v u) w
both_given zero u w = refl
both_given (suc v) u w = refl

-- ---- what names read

pub scalar_width : (s : Shape) → is_scalar s ≡ true → shape_width s ≡ kind_width (scalar_kind s)
scalar_width (one t) h = sym (kind_of_width t)
scalar_width (list t n) h = absurd (let c : false ≡ true = h in cc)
scalar_width (set ks) h = absurd (let c : false ≡ true = h in cc)
scalar_width (dict ks t) h = absurd (let c : false ≡ true = h in cc)

builtin_wide : (k : Kind) (a b : Bool) → cond a (Some Truth) (cond b (Some (Number 16)) None) ≡ Some k → IsWidth (kind_width k)
builtin_wide k true b e = let same : Truth ≡ k = cc in subst (λ j. IsWidth (kind_width j)) same one_bit
builtin_wide k false true e = let same : Number 16 ≡ k = cc in subst (λ j. IsWidth (kind_width j)) same (record { least = omega arith; most = omega arith })
builtin_wide k false false e = absurd (let c : (let n : Option Kind = None in n) ≡ Some k = e in cc)

module _ (g : Sight) (is : IsSound g) (x : List ℕ) where
  read_step : (i b : Option Kind) (o : Option Decl) → item_of g.decls g.loops x ≡ i → builtin_of x ≡ b → lookup g.decls x ≡ o → is_missing (role_from i b o) ≡ false → reads (role_from i b o) ≡ true → IsWidth (kind_width (read_kind (role_from i b o)))
  read_step (Some k) b o e f q m h = is.items x k e
  read_step None (Some k) o e f q m h = builtin_wide k (same_text x (codes "first_hop") || same_text x (codes "last_hop")) (same_text x (codes "switch_id")) f
  read_step None None (Some d) e f q m h = subst IsWidth (scalar_width d.shape h) (is.decls x d q)
  read_step None None None e f q m h = absurd (let c : true ≡ false = m in cc)

  pub read_wide : is_missing (role_of g x) ≡ false → reads (role_of g x) ≡ true → IsWidth (kind_width (read_kind (role_of g x)))
  read_wide = read_step (item_of g.decls g.loops x) (builtin_of x) (lookup g.decls x) refl refl refl

  index_step : (ks : Exprs) (i b : Option Kind) (o : Option Decl) → lookup g.decls x ≡ o → is_missing (role_from i b o) ≡ false → indexed (role_from i b o) ks ≡ true → IsWidth (kind_width (index_kind (role_from i b o)))
  index_step ks (Some k) b o q m h = absurd (let c : false ≡ true = h in cc)
  index_step ks None (Some k) o q m h = absurd (let c : false ≡ true = h in cc)
  index_step ks None None (Some d) q m h = subst IsWidth (element_width d.kind d.shape ks h) (is.decls x d q)
  index_step ks None None None q m h = absurd (let c : true ≡ false = m in cc)

  pub index_wide : (ks : Exprs) → is_missing (role_of g x) ≡ false → indexed (role_of g x) ks ≡ true → IsWidth (kind_width (index_kind (role_of g x)))
  index_wide ks = index_step ks (item_of g.decls g.loops x) (builtin_of x) (lookup g.decls x) refl

-- ---- numbers

number_step : (v : ℕ) (want : Kind) → kinds_differ (Number v) want ≡ false → cond (nat_eq v 0) (width_in want) v ≡ either_width v (kind_width want)
number_step zero (Number w) h = refl
number_step zero Truth h = absurd (let c : true ≡ false = h in cc)
number_step zero Unknown h = refl
number_step (suc v) want h = ap (λ b. cond b (width_in want) (suc v)) (nonzero v (nat_eq (suc v) 0) refl)

bits_step : (z a b : Bool) → z ≡ false → (not z && (a || b)) ≡ false → (z || a) ≡ false
bits_step true a b e h = absurd (let c : true ≡ false = e in cc)
bits_step false a b e h = (neither a b h).0

number_wide : (w v : ℕ) → nat_eq w 0 ≡ false → too_wide w v ≡ false → IsWidth w
number_wide w v e h = good_bits w (bits_step (nat_eq w 0) (nat_lt 128 w) _ e h)

-- ---- operators

-- what is no truth value
abbrev pub Plain : Kind → Type 0
Plain k = kinds_differ k (Number 0) ≡ false

pub is_plain : (k want : Kind) → kinds_differ k (as_number want) ≡ false → Plain k
is_plain (Number w) want h = refl
is_plain Truth (Number w) h = absurd (let c : true ≡ false = h in cc)
is_plain Truth Truth h = absurd (let c : true ≡ false = h in cc)
is_plain Truth Unknown h = absurd (let c : true ≡ false = h in cc)
is_plain Unknown want h = refl

pub want_plain : (k want : Kind) → kinds_differ (as_number k) want ≡ false → Plain want
want_plain k (Number w) h = refl
want_plain (Number v) Truth h = absurd (let c : true ≡ false = h in cc)
want_plain Truth Truth h = absurd (let c : true ≡ false = h in cc)
want_plain Unknown Truth h = absurd (let c : true ≡ false = h in cc)
want_plain k Unknown h = refl

pub pick_plain : (t : Bool) (a b : Kind) → Plain a → Plain b → Plain (cond t b a)
pick_plain true a b h k = k
pick_plain false a b h k = h

pub join_any : (a b : Kind) → kind_width (join a b) ≡ either_width (kind_width a) (kind_width b)
join_any (Number zero) b = refl
join_any (Number (suc w)) b = ap (λ (t : Bool). kind_width (cond t b (Number (suc w)))) (nonzero w (nat_eq (suc w) 0) refl)
join_any Truth b = refl
join_any Unknown b = refl

-- the width of a number's place, which two kinds give
pub join_plain : (a b : Kind) → Plain a → Plain b → kind_width (as_number (join a b)) ≡ either_width (kind_width a) (kind_width b)
join_plain a b h k = not_truth (join a b) Unknown (pick_plain (is_open a) a b h k) ∙ join_any a b

number_plain : (k : Kind) → Plain (as_number k)
number_plain (Number w) = refl
number_plain Truth = refl
number_plain Unknown = refl

-- the width of a number's place beside another operand: that of an operand, or of the whole's place
pub like_width : (a b want : Kind) → Plain a → Plain b → Plain want → kind_width (like_want a b want) ≡ either_width (either_width (kind_width a) (kind_width b)) (kind_width want)
like_width a b want h k l =
    join_plain (join (as_number a) (as_number b)) want (pick_plain (is_open (as_number a)) (as_number a) (as_number b) (number_plain a) (number_plain b)) l
    ∙ ap (λ v. either_width v (kind_width want)) (join_any (as_number a) (as_number b) ∙ ap₂ either_width (not_truth a Unknown h) (not_truth b Unknown k))

-- a shift, and `~`, has a width where its operand has
shift_step : (a want : Kind) → kinds_differ (as_number a) want ≡ false → kinds_differ a (as_number (join a want)) ≡ false → IsWidth (either_width (kind_width a) (kind_width (as_number (join a want)))) → IsWidth (either_width (kind_width (as_number a)) (kind_width want))
shift_step a want h k is =
    let pa = is_plain a _ k in
    let pw = want_plain a want h in
    subst IsWidth
    (ap (either_width (kind_width a)) (join_plain a want pa pw) ∙ twice (kind_width a) (kind_width want) ∙ sym (ap (λ v. either_width v (kind_width want)) (not_truth a Unknown pa)))
    is

-- so has a concatenation
below_step : (a b : ℕ) (t : Bool) → nat_le a b ≡ t → (a ≤ b) ⊎ (b ≤ a)
below_step a b true e = inl (grind (arith, nat_tests))
below_step a b false e = inr (grind (arith, nat_tests))

capped_step : (n : ℕ) → (128 ≤ n) ⊎ (n ≤ 128) → 1 ≤ n → IsWidth (min 128 n)
capped_step n (inl h) k = subst IsWidth (sym (min-eq_left h)) (record { least = omega arith; most = omega arith })
capped_step n (inr h) k = subst IsWidth (sym (min-eq_right h)) (record { least = k; most = h })

joined_wide : (v u : ℕ) → IsWidth v → IsWidth (min 128 (v + u))
joined_wide v u is = capped_step (v + u) (below_step 128 (v + u) (nat_le 128 (v + u)) refl) (let least = is.least in omega arith)

joined_place : (a : Kind) → kinds_differ a (as_number a) ≡ false → either_width (kind_width a) (kind_width (as_number a)) ≡ width_in a
joined_place (Number zero) h = refl
joined_place (Number (suc w)) h = refl
joined_place Truth h = absurd (let c : true ≡ false = h in cc)
joined_place Unknown h = refl

-- an operator has a width where its left operand has
left_step : (c : Class) (t : Bool) (a b want : Kind) → kinds_differ (class_kind c a b) want ≡ false → kinds_differ a (class_left c t a b want) ≡ false → kinds_differ b (class_right c t a b want) ≡ false → IsWidth (either_width (kind_width a) (kind_width (class_left c t a b want))) → IsWidth (either_width (kind_width (class_kind c a b)) (kind_width want))
left_step like t a b want h k l is =
    let pa = is_plain a _ k in
    let pb = is_plain b _ l in
    let pw = want_plain (join a b) want h in
    subst IsWidth
    (ap (either_width (kind_width a)) (like_width a b want pa pb pw) ∙ both_given (kind_width a) (kind_width b) (kind_width want) ∙ sym (ap (λ v. either_width v (kind_width want)) (join_plain a b pa pb)))
    is
left_step shift t a b want h k l is = shift_step a want h k is
left_step joined t a b want h k l is = given _ (kind_width want) (joined_wide (width_in a) (width_in b) (subst IsWidth (joined_place a k) is))
left_step compare t a b want h k l is = given 1 (kind_width want) one_bit
left_step logic t a b want h k l is = given 1 (kind_width want) one_bit

-- ---- expressions

pub static_sound : (g : Sight) → IsSound g → (e : Expr) (want : Kind) → Fine (expr_sites g want e) → IsWidth (static_width g want e)
static_sound g is (num p n) want f =
    let k = neither (kinds_differ (Number n.width) want) (nat_eq (number_width n want) 0) (f KindDiffers) in
    subst IsWidth (number_step n.width want k.0) (number_wide (number_width n want) n.value k.1 (f BadSize))
static_sound g is (flag p b) want f = given 1 (kind_width want) one_bit
static_sound g is (read p x) want f = given _ (kind_width want) (read_wide g is x (f NoSuchName) (twice_not _ (neither _ _ (f KindDiffers)).1))
static_sound g is (count p x) want f = given 8 (kind_width want) (record { least = omega arith; most = omega arith })
static_sound g is (index p x ks) want f = given _ (kind_width want) (index_wide g is x ks (f.0 NoSuchName) (twice_not _ (neither _ _ (f.0 KindDiffers)).1))
static_sound g is (member p ks x) want f = given 1 (kind_width want) one_bit
static_sound g is (negation p a) want f = given 1 (kind_width want) one_bit
static_sound g is (inversion p a) want f = shift_step (own g a) want (kind_fine g want (inversion p a) f) (kind_fine g _ a f.1) (static_sound g is a _ f.1)
static_sound g is (binary p op a b) want f =
    left_step (class_of op) (takes_either op) (own g a) (own g b) want (kind_fine g want (binary p op a b) f) (kind_fine g _ a f.1.0) (kind_fine g _ b f.1.1) (static_sound g is a _ f.1.0)
static_sound g is (cast p v a) want f = given v (kind_width want) (good_bits v (f.0 BadSize))

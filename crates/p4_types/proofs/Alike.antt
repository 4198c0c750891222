-- Where the paths that an expression reads have the same words, and the headers that it asks are valid or not alike, it has
-- the same value.
use Rattle.std.proofs.Common.{◌≡◌, ℕ, List, Bool, false, cond, Option, Some, None, refl, ap, ap₂, ◌∙◌}
use Rattle.std.specs.Prelude.{not}
use Rattle.bit_values.specs.Bits.{Word}
use Rattle.bit_values.specs.Widths.{bit, holds, either_width, sound_width, cast_word}
use Rattle.bit_values.specs.Operators.{own_of, left_place, right_place}
use Rattle.p4_tree.specs.Tree.{Expr, num, flag, path, valid, applied, error_name, negation, inversion, opposite, binary, conditional, slice, cast}
use Rattle.p4_tree.specs.Operators.{class_of, operate}
use Rattle.p4_tree.specs.Reads.{EachRead}
use Rattle.p4_meaning.specs.Store.{Store, read}
use Rattle.p4_meaning.specs.Value.{value_of, own_width, is_valid, width_of, inverted, negated, sliced}

-- what holds of every path holds of each that is read
pub each_read : (Reads Asks : List (List ℕ) → Type 0) → ((q : List (List ℕ)) → Reads q) → ((q : List (List ℕ)) → Asks q) → (e : Expr) → EachRead Reads Asks e
each_read R A r a (num p n) = tt
each_read R A r a (flag p b) = tt
each_read R A r a (path p names) = r names
each_read R A r a (valid p header) = a header
each_read R A r a (applied p x i) = tt
each_read R A r a (error_name p x) = tt
each_read R A r a (negation p x) = each_read R A r a x
each_read R A r a (inversion p x) = each_read R A r a x
each_read R A r a (opposite p x) = each_read R A r a x
each_read R A r a (binary p op x y) = (each_read R A r a x, each_read R A r a y)
each_read R A r a (conditional p c x y) = (each_read R A r a c, each_read R A r a x, each_read R A r a y)
each_read R A r a (slice p x i j) = each_read R A r a x
each_read R A r a (cast p ty x) = each_read R A r a x

module _ (s t : Store) where
  abbrev IsRead : Expr → Type 0
  IsRead = EachRead (λ q. read s q ≡ read t q) (λ q. s.headers q ≡ t.headers q)

  width_alike : (e : Expr) → IsRead e → own_width e s ≡ own_width e t
  width_alike (num p n) r = refl
  width_alike (flag p b) r = refl
  width_alike (path p names) r = ap (λ (w : Word). w.width) r
  width_alike (valid p header) r = refl
  width_alike (applied p x i) r = refl
  width_alike (error_name p x) r = refl
  width_alike (negation p x) r = refl
  width_alike (inversion p x) r = width_alike x r
  width_alike (opposite p x) r = width_alike x r
  width_alike (binary p op x y) r = ap₂ (own_of (class_of op)) (width_alike x r.0) (width_alike y r.1)
  width_alike (conditional p c x y) r = ap₂ either_width (width_alike x r.1) (width_alike y r.2)
  width_alike (slice p x i j) r = refl
  width_alike (cast p ty x) r = refl

  -- a value that is taken at a width, and what is made of it
  at_width : (f : Word → Word) (v : ℕ → Word) (m n : ℕ) (w : Word) → n ≡ m → v m ≡ w → f (cast_word (sound_width n) (v n)) ≡ f (cast_word (sound_width m) w)
  at_width f v m n w e h = ap (λ i. f (cast_word (sound_width i) (v i))) e ∙ ap (λ u. f (cast_word (sound_width m) u)) h

  pub value_alike : (e : Expr) (w : ℕ) → IsRead e → value_of e w s ≡ value_of e w t
  value_alike (num p n) w r = refl
  value_alike (flag p b) w r = refl
  value_alike (path p names) w r = r
  value_alike (valid p header) w r = ap (λ (o : Option Bool). bit (is_valid o)) r
  value_alike (applied p x i) w r = refl
  value_alike (error_name p x) w r = refl
  value_alike (negation p x) w r = ap (λ v. bit (not (holds v))) (value_alike x 1 r)
  value_alike (inversion p x) w r =
      let m = either_width (own_width x t) w in
      at_width inverted (λ i. value_of x i s) m (either_width (own_width x s) w) _ (ap (λ i. either_width i w) (width_alike x r)) (value_alike x m r)
  value_alike (opposite p x) w r =
      let m = either_width (own_width x t) w in
      at_width negated (λ i. value_of x i s) m (either_width (own_width x s) w) _ (ap (λ i. either_width i w) (width_alike x r)) (value_alike x m r)
  value_alike (binary p op x y) w r =
      let m = left_place (class_of op) (own_width x t) (own_width y t) w in
      let n = right_place (class_of op) (own_width x t) (own_width y t) w in
      let left = ap₂ (λ i j. left_place (class_of op) i j w) (width_alike x r.0) (width_alike y r.1) in
      let right = ap₂ (λ i j. right_place (class_of op) i j w) (width_alike x r.0) (width_alike y r.1) in
      ap₂ (operate op)
      (at_width (λ v. v) (λ i. value_of x i s) m _ _ left (value_alike x m r.0))
      (at_width (λ v. v) (λ i. value_of y i s) n _ _ right (value_alike y n r.1))
  value_alike (conditional p c x y) w r =
      let m = either_width (either_width (own_width x t) (own_width y t)) w in
      let n = either_width (either_width (own_width x s) (own_width y s)) w in
      let same : n ≡ m = ap₂ (λ i j. either_width (either_width i j) w) (width_alike x r.1) (width_alike y r.2) in
      let then_x = at_width (λ v. v) (λ i. value_of x i s) m n _ same (value_alike x m r.1) in
      let else_y = at_width (λ v. v) (λ i. value_of y i s) m n _ same (value_alike y m r.2) in
      ap (λ v. cond (holds v) (cast_word (sound_width n) (value_of x n s)) (cast_word (sound_width n) (value_of y n s))) (value_alike c 1 r.0)
      ∙ ap₂ (cond (holds (value_of c 1 t))) then_x else_y
  value_alike (slice p x i j) w r = ap (sliced _ j) (value_alike x 0 r)
  value_alike (cast p ty x) w r = ap (cast_word (sound_width (width_of ty))) (value_alike x 0 r)

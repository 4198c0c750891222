-- The value of an expression under a scope is its value in what is seen.
use Rattle.std.proofs.Common.{◌≡◌, ℕ, List, [], ◌∷◌, Bool, true, false, cond, Option, Some, None, refl, sym, ap, ap₂, ◌∙◌, subst}
use Rattle.std.specs.List.{AllByRecursion}
use Rattle.std.specs.Prelude.{not}
use Rattle.bit_values.specs.Bits.{Word, IsWord}
use Rattle.bit_values.specs.Widths.{bit, holds, either_width, sound_width, cast_word}
use Rattle.bit_values.specs.Operators.{own_of, left_place, right_place}
use Rattle.lex_text.specs.Names.{same_text, parent}
use Rattle.p4_tree.specs.Tree.{Expr, num, flag, path, valid, applied, error_name, negation, inversion, opposite, binary, conditional, slice, cast}
use Rattle.p4_tree.specs.Operators.{class_of, operate}
use Rattle.p4_meaning.specs.Store.{Store, shown}
use Rattle.p4_meaning.specs.Value.{value_of, own_width, width_of, inverted, negated, sliced}
use Rattle.p4_meaning.specs.Scope.{Scope, path_under, constant_named, constant_at, constant_or, is_inner, seen}
use Rattle.p4_meaning.specs.Under.{constant_or_path, expr_under}
use Rattle.p4_meaning.specs.Laws.{AreWords}
use Rattle.p4_meaning.proofs.Words.{number_word}

-- the header that a path may be a field of
parent_under : (sc : Scope) (names : List (List ℕ)) → parent (path_under sc names) ≡ path_under sc (parent names)
parent_under sc [] = refl
parent_under sc (x ∷ []) = refl
parent_under sc (x ∷ y ∷ rest) = refl

-- the constant of a name has a word
constant_word : (cs : List (List ℕ × Word)) (x : List ℕ) (c : Word) → AllByRecursion (λ c. IsWord c.1) cs → constant_named cs x ≡ Some c → IsWord c
constant_word [] x c h e = absurd (cc)
constant_word (d ∷ cs) x c h e = go (same_text d.0 x) e (constant_word cs x c h.1)
  where
    go : (b : Bool) → cond b (Some d.1) (constant_named cs x) ≡ Some c → (constant_named cs x ≡ Some c → IsWord c) → IsWord c
    go true e more = let same : d.1 ≡ c = cc in subst IsWord same h.0
    go false e more = more e

unless_inner : (cs : List (List ℕ × Word)) (x : List ℕ) (c : Word) (b : Bool) → AllByRecursion (λ c. IsWord c.1) cs → cond b None (constant_named cs x) ≡ Some c → IsWord c
unless_inner cs x c true h e = absurd (cc)
unless_inner cs x c false h e = constant_word cs x c h e

module _ (sc : Scope) (s : Store) (words : AreWords sc) (plain : s.headers [] ≡ None) where
  -- a constant's word, in a store
  number : (p : ℕ) (c : Word) (w : ℕ) → IsWord c → value_of (num p (record { width = c.width; value = c.value })) w s ≡ c
  number p c w h = number_word c.width c.value w h.wide h.narrow h.in_range

  -- a path, where it is a constant or none
  named : (p : ℕ) (names : List (List ℕ)) (w : ℕ) (o : Option Word) → constant_at sc names ≡ o
      → value_of (constant_or_path p o (path_under sc names)) w s ≡ shown (s.headers (path_under sc (parent names))) (constant_or o (s.values (path_under sc names)))
  named p names w None e = ap (λ h. shown (s.headers h) (s.values (path_under sc names))) (parent_under sc names)
  named p [] w (Some c) e = absurd (cc)
  named p (x ∷ []) w (Some c) e = number p c w (unless_inner sc.constants x c (is_inner sc.inner x) words e) ∙ ap (λ h. shown h c) (sym plain)
  named p (x ∷ y ∷ rest) w (Some c) e = absurd (cc)

  wide : (p : ℕ) (names : List (List ℕ)) (o : Option Word) → constant_at sc names ≡ o
      → own_width (constant_or_path p o (path_under sc names)) s ≡ (shown (s.headers (path_under sc (parent names))) (constant_or o (s.values (path_under sc names)))).width
  wide p names None e = ap (λ h. (shown (s.headers h) (s.values (path_under sc names))).width) (parent_under sc names)
  wide p [] (Some c) e = absurd (cc)
  wide p (x ∷ []) (Some c) e = ap (λ h. (shown h c).width) (sym plain)
  wide p (x ∷ y ∷ rest) (Some c) e = absurd (cc)

  pub width_seen : (e : Expr) → own_width (expr_under sc e) s ≡ own_width e (seen sc s)
  width_seen (num p n) = refl
  width_seen (flag p t) = refl
  width_seen (path p names) = wide p names (constant_at sc names) refl
  width_seen (valid p header) = refl
  width_seen (applied p t i) = refl
  width_seen (error_name p x) = refl
  width_seen (negation p x) = refl
  width_seen (inversion p x) = width_seen x
  width_seen (opposite p x) = width_seen x
  width_seen (binary p op x y) = ap₂ (own_of (class_of op)) (width_seen x) (width_seen y)
  width_seen (conditional p t x y) = ap₂ either_width (width_seen x) (width_seen y)
  width_seen (slice p x i j) = refl
  width_seen (cast p ty x) = refl

  -- a value that is taken at a width, and what is made of it
  at_width : (f : Word → Word) (v : ℕ → Word) (m n : ℕ) (w : Word) → n ≡ m → v m ≡ w → f (cast_word (sound_width n) (v n)) ≡ f (cast_word (sound_width m) w)
  at_width f v m n w e h = ap (λ i. f (cast_word (sound_width i) (v i))) e ∙ ap (λ u. f (cast_word (sound_width m) u)) h

  pub value_seen : (e : Expr) (w : ℕ) → value_of (expr_under sc e) w s ≡ value_of e w (seen sc s)
  value_seen (num p n) w = refl
  value_seen (flag p t) w = refl
  value_seen (path p names) w = named p names w (constant_at sc names) refl
  value_seen (valid p header) w = refl
  value_seen (applied p t i) w = refl
  value_seen (error_name p x) w = refl
  value_seen (negation p x) w = ap (λ v. bit (not (holds v))) (value_seen x 1)
  value_seen (inversion p x) w =
      let m = either_width (own_width x (seen sc s)) w in
      at_width inverted (λ i. value_of (expr_under sc x) i s) m (either_width (own_width (expr_under sc x) s) w) _ (ap (λ i. either_width i w) (width_seen x)) (value_seen x m)
  value_seen (opposite p x) w =
      let m = either_width (own_width x (seen sc s)) w in
      at_width negated (λ i. value_of (expr_under sc x) i s) m (either_width (own_width (expr_under sc x) s) w) _ (ap (λ i. either_width i w) (width_seen x)) (value_seen x m)
  value_seen (binary p op x y) w =
      let m = left_place (class_of op) (own_width x (seen sc s)) (own_width y (seen sc s)) w in
      let n = right_place (class_of op) (own_width x (seen sc s)) (own_width y (seen sc s)) w in
      let left = ap₂ (λ i j. left_place (class_of op) i j w) (width_seen x) (width_seen y) in
      let right = ap₂ (λ i j. right_place (class_of op) i j w) (width_seen x) (width_seen y) in
      ap₂ (operate op)
      (at_width (λ v. v) (λ i. value_of (expr_under sc x) i s) m _ _ left (value_seen x m))
      (at_width (λ v. v) (λ i. value_of (expr_under sc y) i s) n _ _ right (value_seen y n))
  value_seen (conditional p t x y) w =
      let m = either_width (either_width (own_width x (seen sc s)) (own_width y (seen sc s))) w in
      let n = either_width (either_width (own_width (expr_under sc x) s) (own_width (expr_under sc y) s)) w in
      let same : n ≡ m = ap₂ (λ i j. either_width (either_width i j) w) (width_seen x) (width_seen y) in
      let then_x = at_width (λ v. v) (λ i. value_of (expr_under sc x) i s) m n _ same (value_seen x m) in
      let else_y = at_width (λ v. v) (λ i. value_of (expr_under sc y) i s) m n _ same (value_seen y m) in
      ap (λ v. cond (holds v) (cast_word (sound_width n) (value_of (expr_under sc x) n s)) (cast_word (sound_width n) (value_of (expr_under sc y) n s))) (value_seen t 1)
      ∙ ap₂ (cond (holds (value_of t 1 (seen sc s)))) then_x else_y
  value_seen (slice p x i j) w = ap (sliced _ j) (value_seen x 0)
  value_seen (cast p ty x) w = ap (cast_word (sound_width (width_of ty))) (value_seen x 0)

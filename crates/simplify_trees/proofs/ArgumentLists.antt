-- The loop over the arguments of a call.
use Rattle.std.proofs.Common.{arith, ◌≡◌, ℕ, suc, ◌+◌, ◌<◌, ◌≤◌, Bool, true, false, Result, Ok, Err, IfOk, List, [], ◌∷◌, ◌++◌, map, length, get_or, take, refl, sym, ap, ◌∙◌, subst}
use Rattle.std.proofs.lemmas.List.{take_all, take_more, length-take-le, length-map, map-append}
use Rattle.p4_tree.specs.Tree.{Expr, Arg}
use Rattle.p4_tree.specs.View.{arg_of}
use Rattle.p4_tree.specs.declared.statement.Arg as code
use Rattle.rewritten_programs.specs.Rewritten.{ArgRewritten, no_value, ArgsRewritten, no_args, arg_then}

module _ (E : Expr → Expr → Type 0) (v : ℕ → Bool) where
  behind : {n : ℕ} {xs ys : List Arg} → ArgsRewritten E v n xs ys → (a b : Arg) → ArgRewritten E (v (n + length xs)) a b → ArgsRewritten E v n (xs ++ a ∷ []) (ys ++ b ∷ [])
  behind (no_args n) a b r =
      let e : n + 0 ≡ n = omega arith in
      arg_then n (subst (λ (m : ℕ). ArgRewritten E (v m) a b) e r) (no_args (suc n))
  behind (arg_then {xs = xs} n q qs) a b r =
      let e : n + suc (length xs) ≡ suc n + length xs = omega arith in
      arg_then n q (behind qs a b (subst (λ (m : ℕ). ArgRewritten E (v m) a b) e r))

  -- the arguments that were gone over, and those made
  abbrev pub AreArgs : List code.Arg → List code.Arg → Type 0
  AreArgs xs ys = ArgsRewritten E v 0 (map arg_of xs) (map arg_of ys)

  pub none_yet : (made : List code.Arg) → made ≡ [] → AreArgs [] made
  none_yet made e = subst (AreArgs []) (sym e) (no_args 0)

  pub one_arg_more : (xs ys made : List code.Arg) (i : ℕ) (x y : code.Arg) → i < length xs → x ≡ get_or xs i x → AreArgs (take i xs) ys → ArgRewritten E (v i) (arg_of x) (arg_of y) → made ≡ ys ++ y ∷ [] → AreArgs (take (i + 1) xs) made
  one_arg_more xs ys made i x y lt is h r e =
      let given : map arg_of (take (i + 1) xs) ≡ map arg_of (take i xs) ++ arg_of x ∷ [] = ap (map arg_of) (take_more xs i x lt ∙ ap (λ (z : code.Arg). take i xs ++ z ∷ []) (sym is)) ∙ map-append arg_of (take i xs) (x ∷ []) in
      let new : map arg_of made ≡ map arg_of ys ++ arg_of y ∷ [] = ap (map arg_of) e ∙ map-append arg_of ys (y ∷ []) in
      let none : 0 + length (map arg_of (take i xs)) ≡ length (map arg_of (take i xs)) = omega arith in
      let long : i ≡ 0 + length (map arg_of (take i xs)) = sym (none ∙ (length-map (take i xs) arg_of ∙ length-take-le i xs (omega arith))) in
      let last = behind h (arg_of x) (arg_of y) (subst (λ (m : ℕ). ArgRewritten E (v m) (arg_of x) (arg_of y)) long r) in
      subst (λ (as' : List Arg). ArgsRewritten E v 0 as' (map arg_of made)) (sym given) (subst (ArgsRewritten E v 0 (map arg_of (take i xs) ++ arg_of x ∷ [])) (sym new) last)

  pub all_args : (xs ys : List code.Arg) (i : ℕ) → length xs ≤ i → AreArgs (take i xs) ys → AreArgs xs ys
  all_args xs ys i le h = subst (λ (zs : List code.Arg). AreArgs zs ys) (take_all i xs le) h

-- ---- one argument

module _ (E : Expr → Expr → Type 0) (v : Bool) where
  pub left_arg : {F : Type 0} → v ≡ false → (a : Arg) (r : Result code.Arg F) → IfOk r (λ b. arg_of b ≡ a) → IfOk r (λ b. ArgRewritten E v a (arg_of b))
  left_arg h a (Ok b) e = subst (λ (w : Bool). ArgRewritten E w a (arg_of b)) (sym h) (subst (ArgRewritten E false a) (sym e) (no_value a))
  left_arg h a (Err x) e = tt

  pub value_arg : v ≡ true → (a b c : Arg) → a ≡ b → ArgRewritten E true b c → ArgRewritten E v a c
  value_arg h a b c e r = subst (λ (w : Bool). ArgRewritten E w a c) (sym h) (subst (λ (x : Arg). ArgRewritten E true x c) (sym e) r)

-- A number that is read is at most the greatest that is allowed.
use Rattle.std.proofs.Common.{◌≡◌, ℕ, ◌≤◌, List, Bool, true, false, Option, Some, None, Result, Ok, Err, refl, arith, ltb-false, nat_lt}
use Rattle.serde_json.specs.Data.{Data}
use Rattle.json_parts.specs.Answers.{◌>>=◌}
use Rattle.json_parts.specs.Trees.{as_whole}
use Rattle.json_parts.specs.Object.{Object, maybe_at, number_in, number_if, number_at}
use Rattle.json_parts.specs.Paths.{below}
use Rattle.json_parts.specs.declared.fault.ShapeFault.{ShapeFault}
use Rattle.json_parts.specs.declared.fault.ShapeFault.TheVariants.{Shape}

module _ (o : Object) (name : List ℕ) (least greatest default n : ℕ) (low : default ≤ greatest) where
  tested : (m : ℕ) (a b : Bool) → nat_lt m least ≡ a → nat_lt greatest m ≡ b → number_in o name least greatest (Some m) ≡ Ok n → n ≤ greatest
  tested m true b p q h =
      let e : number_in o name least greatest (Some m) ≡ Err (Shape (below o.path name)) = rw (p) refl in absurd cc
  tested m false true p q h =
      let e : number_in o name least greatest (Some m) ≡ Err (Shape (below o.path name)) = rw (p, q) refl in absurd cc
  tested m false false p q h =
      let e : number_in o name least greatest (Some m) ≡ Ok m = rw (p, q) refl in
      let is : m ≡ n = cc in
      omega (arith, ltb-false)

  whole : (m : Option ℕ) → number_in o name least greatest m ≡ Ok n → n ≤ greatest
  whole None h = absurd cc
  whole (Some m) h = tested m (nat_lt m least) (nat_lt greatest m) refl refl h

  given : (d : Option Data) → number_if o name least greatest default d ≡ Ok n → n ≤ greatest
  given None h = let is : default ≡ n = cc in omega arith
  given (Some d) h = whole (as_whole d) h

  read : (r : Result (Option Data) ShapeFault) → (r >>= λ d. number_if o name least greatest default d) ≡ Ok n → n ≤ greatest
  read (Ok d) h = given d h
  read (Err e) h = absurd cc

pub number_is_low : (o : Object) (name : List ℕ) (least greatest default n : ℕ) → default ≤ greatest → number_at o name least greatest default ≡ Ok n → n ≤ greatest
unfolding number_at
number_is_low o name least greatest default n low h = read o name least greatest default n low (maybe_at o name) h

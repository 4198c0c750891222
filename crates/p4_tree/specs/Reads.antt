-- What is asked of each path that an expression reads. Read `Tree` before it.
use Rattle.std.specs.Prelude.{ℕ, List}
use Rattle.p4_tree.specs.Tree.{Expr, num, flag, path, valid, applied, error_name, negation, inversion, opposite, binary, conditional, slice, cast}

module _ (Reads Asks : List (List ℕ) → Type 0) where
  -- each path that the expression reads passes `Reads`, and each header that it asks to be valid passes `Asks`
  abbrev pub EachRead : Expr → Type 0
  EachRead (num p n) = Unit {0}
  EachRead (flag p b) = Unit {0}
  EachRead (path p names) = Reads names
  EachRead (valid p header) = Asks header
  EachRead (applied p table hit) = Unit {0}
  EachRead (error_name p x) = Unit {0}
  EachRead (negation p a) = EachRead a
  EachRead (inversion p a) = EachRead a
  EachRead (opposite p a) = EachRead a
  EachRead (binary p op a b) = EachRead a × EachRead b
  EachRead (conditional p t a b) = EachRead t × EachRead a × EachRead b
  EachRead (slice p a high low) = EachRead a
  EachRead (cast p ty a) = EachRead a

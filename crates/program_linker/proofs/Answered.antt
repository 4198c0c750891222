-- Programs with answers of rules in them, one by one.
use Rattle.std.proofs.Common.{ℕ, List, [], ◌∷◌, map, Option, All}
use Rattle.std.specs.List.{AllZip}
use Rattle.std.proofs.lemmas.List.Elements.{All-cons, All-head, All-tail}
use Rattle.p4_tree.specs.Tree.{Expr, Program}
use Rattle.p4_printer.specs.CanSpell.{CanSpell}
use Rattle.rewriting_laws.specs.Standing.{MayStandFor}
use Rattle.rewritten_programs.specs.Rewritten.{ProgramRewritten}
use Rattle.simplify_programs.specs.Simplified.{IsSimplifiedProgram}
use Rattle.program_linker.specs.Simpler.{StayLinked}

module _ (A : Expr → Option Expr → Type 0) where
  all_stand : (ps qs : List Program) → AllZip (IsSimplifiedProgram A) ps qs → AllZip (ProgramRewritten MayStandFor) ps qs
  all_stand [] [] h = h
  all_stand [] (q ∷ qs) h = absurd h
  all_stand (p ∷ ps) [] h = absurd h
  all_stand (p ∷ ps) (q ∷ qs) h = (h.0.stands, all_stand ps qs h.1)

  pub stay_linked : (ps qs : List Program) (rows : List (List ℕ × (List ℕ × Option ℕ))) → AllZip (IsSimplifiedProgram A) ps qs → StayLinked ps qs rows
  stay_linked ps qs rows h f property net is = record { exact = ps; linked = is; stand = all_stand ps qs h }

  pub stay_spelled : {X : Type 0} (view : X → Program) (xs ys : List X) → AllZip (IsSimplifiedProgram A) (map view xs) (map view ys) → All (λ x. CanSpell (view x)) xs → All (λ x. CanSpell (view x)) ys
  stay_spelled view [] [] h c = c
  stay_spelled view [] (y ∷ ys) h c = absurd h
  stay_spelled view (x ∷ xs) [] h c = absurd h
  stay_spelled {X} view (x ∷ xs) (y ∷ ys) h c =
      (let Can : X → Type 0 = λ z. CanSpell (view z) in
      All-cons Can y ys (h.0.spelled (All-head Can x xs c)) (stay_spelled view xs ys h.1 (All-tail Can x xs c)))

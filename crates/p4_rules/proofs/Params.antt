-- Parameters beside what they have to be.
use Rattle.std.proofs.Common.{◌≡◌, ℕ, zero, suc, ◌+◌, ◌<◌, ◌≤◌, List, [], ◌∷◌, Bool, true, false, not, nat_lt, map, length, drop, get_or, Option, refl, sym, ap, ◌∙◌, arith}
use Rattle.std.proofs.lemmas.Bool.Decides.{nat_tests}
use Rattle.std.proofs.lemmas.List.{drop_all}
use Rattle.rule_tests.specs.Tests.{Tests, test, both}
use Rattle.p4_tree.specs.declared.program.Param.{Param}
use Rattle.p4_statement_rules.specs.Ranks.{first_from}
use Rattle.p4_statement_rules.specs.declared.rule.ProgramRule.{ProgramRule}
use Rattle.p4_statement_rules.specs.declared.rule.ProgramRule.TheVariants.{BadMain}
use Rattle.p4_declaration_rules.proofs.Seen.{left_at}
use Rattle.p4_rules.specs.Mains.{Structs, Wanted, wanted_tests}
use Rattle.p4_rules.specs.Views.{wanted_of, wanted_at}
use Rattle.p4_rules.specs.declared.mains.Wanted as code

drop_one : {A : Type 0} (xs : List A) (i : ℕ) → drop (suc i) xs ≡ drop 1 (drop i xs)
drop_one [] zero = refl
drop_one [] (suc i) = refl
drop_one (x ∷ xs) zero = refl
drop_one (x ∷ xs) (suc i) = drop_one xs i

drop_more : {A : Type 0} (xs : List A) (i : ℕ) → drop (i + 1) xs ≡ drop 1 (drop i xs)
drop_more xs i = let e : i + 1 ≡ suc i = omega arith in ap (λ (n : ℕ). drop n xs) e ∙ drop_one xs i

module _ (at : ℕ) (r : Structs) where
  step : (ws : List code.Wanted) (q : Param) (qs : List Param) → wanted_tests at r (map wanted_of ws) (q ∷ qs) ≡ both (test q.at BadMain (not (wanted_at r (map wanted_of ws) q))) (wanted_tests at r (map wanted_of (drop 1 ws)) qs)
  step [] q qs = refl
  step (w ∷ ws) q qs = refl

  -- one parameter more is tested
  pub wanted_next : (found new whole : Option (ℕ × ProgramRule)) (wants : List code.Wanted) (params : List Param) (i : ℕ) (q : Param) (fits : Bool)
      → i < length params → q ≡ get_or params i q → fits ≡ wanted_at r (map wanted_of (drop i wants)) q
      → new ≡ first_from found (test q.at BadMain (not fits))
      → first_from found (wanted_tests at r (map wanted_of (drop i wants)) (drop i params)) ≡ whole
      → first_from new (wanted_tests at r (map wanted_of (drop (i + 1) wants)) (drop (i + 1) params)) ≡ whole
  wanted_next found new whole wants params i q fits lt is said tests before =
      ap (λ ws. first_from new (wanted_tests at r (map wanted_of ws) (drop (i + 1) params))) (drop_more wants i)
      ∙ ap (λ o. first_from o (wanted_tests at r (map wanted_of (drop 1 (drop i wants))) (drop (i + 1) params))) (tests ∙ ap (λ (b : Bool). first_from found (test q.at BadMain (not b))) said)
      ∙ sym (ap (λ (t : Tests ProgramRule). first_from found t) (step (drop i wants) q (drop (i + 1) params)))
      ∙ sym (ap (λ qs. first_from found (wanted_tests at r (map wanted_of (drop i wants)) qs)) (left_at params i q lt is))
      ∙ before

  none_below : (n : ℕ) → false ≡ nat_lt n 0
  none_below n = grind (arith, nat_tests)

  one_below : (n : ℕ) → true ≡ nat_lt 0 (suc n)
  one_below n = grind (arith, nat_tests)

  both_more : (m n : ℕ) → nat_lt m n ≡ nat_lt (suc m) (suc n)
  both_more m n = grind (arith, nat_tests)

  wanting : (found : Option (ℕ × ProgramRule)) (n : ℕ) (wants : List code.Wanted) → first_from found (wanted_tests at r (map wanted_of (drop n wants)) []) ≡ first_from found (test at BadMain (nat_lt n (length wants)))
  wanting found zero [] = ap (λ (b : Bool). first_from found (test at BadMain b)) (none_below 0)
  wanting found (suc n) [] = ap (λ (b : Bool). first_from found (test at BadMain b)) (none_below (suc n))
  wanting found zero (w ∷ ws) = ap (λ (b : Bool). first_from found (test at BadMain b)) (one_below (length ws))
  wanting found (suc n) (w ∷ ws) = wanting found n ws ∙ ap (λ (b : Bool). first_from found (test at BadMain b)) (both_more n (length ws))

  -- all parameters are tested
  pub wanted_last : (found new whole : Option (ℕ × ProgramRule)) (wants : List code.Wanted) (params : List Param) (i : ℕ)
      → length params ≤ i → i ≤ length params
      → new ≡ first_from found (test at BadMain (nat_lt (length params) (length wants)))
      → first_from found (wanted_tests at r (map wanted_of (drop i wants)) (drop i params)) ≡ whole
      → new ≡ whole
  wanted_last found new whole wants params i past few tests before =
      let e : i ≡ length params = omega (arith, past, few) in
      tests ∙ ap (λ (n : ℕ). first_from found (test at BadMain (nat_lt n (length wants)))) (sym e)
      ∙ sym (wanting found i wants)
      ∙ ap (λ qs. first_from found (wanted_tests at r (map wanted_of (drop i wants)) qs)) (sym (drop_all i params past))
      ∙ before

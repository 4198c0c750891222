use Rattle.std.proofs.Common.{ℕ, List, [], ◌∷◌, ◌++◌, sym, ap, ◌∙◌, map}
use Rattle.p4_tree.specs.View.{case_of, keyset_of}
use Rattle.std.proofs.lemmas.List.{append_assoc}
use Rattle.std.specs.Global.{Vec}
use Rattle.p4_tree.specs.declared.program.Keyset as code
use Rattle.link_faults.specs.WrittenNames.{first_taken, names_of_cases, names_of_keysets}
use Rattle.link_checks.proofs.Walks.{stops, goes}
use Rattle.link_checks.proofs.text.in_cases.Goals as goal

pub returns-then-is_some : goal.returns-then-is_some
returns-then-is_some c =
    stops (λ (xs : List (Vec code.Keyset × List ℕ)). names_of_cases (map case_of xs)) (λ (x : (Vec code.Keyset × List ℕ)). names_of_keysets (map keyset_of x.0.items) ++ x.1 ∷ []) (λ x xs. ap first_taken (append_assoc (names_of_keysets (map keyset_of x.0.items)) (x.1 ∷ []) (names_of_cases (map case_of xs)))) c.args.list.now c.loop-case.case-index c.case-item.result c.loop-case-test.true c.case-item.is c.loop-case.invariant
    c.first-taken.result (c.first-taken.ensures (names_of_keysets (map keyset_of c.case-item.result.0.items)) (c.case-item.result.1 ∷ []) (c.in_keysets.ensures ∙ ap (λ (ks : List code.Keyset). first_taken (names_of_keysets (map keyset_of ks))) c.deref.ensures.value) c.in_name.ensures) (sym c.is_some.ensures ∙ c.if-is_some.true)

pub loop-case-preserved : goal.loop-case-preserved
loop-case-preserved c =
    goes (λ (xs : List (Vec code.Keyset × List ℕ)). names_of_cases (map case_of xs)) (λ (x : (Vec code.Keyset × List ℕ)). names_of_keysets (map keyset_of x.0.items) ++ x.1 ∷ []) (λ x xs. ap first_taken (append_assoc (names_of_keysets (map keyset_of x.0.items)) (x.1 ∷ []) (names_of_cases (map case_of xs)))) c.args.list.now c.loop-case.case-index c.case-item.result c.loop-case-test.true c.case-item.is c.loop-case.invariant
    c.first-taken.result (c.first-taken.ensures (names_of_keysets (map keyset_of c.case-item.result.0.items)) (c.case-item.result.1 ∷ []) (c.in_keysets.ensures ∙ ap (λ (ks : List code.Keyset). first_taken (names_of_keysets (map keyset_of ks))) c.deref.ensures.value) c.in_name.ensures) (sym c.is_some.ensures ∙ c.if-is_some.false)

use Rattle.std.proofs.Common.{ℕ, List, [], ◌∷◌, ◌++◌, sym, ap, ◌∙◌}
use Rattle.std.proofs.lemmas.List.{append_assoc}
use Rattle.p4_tree.specs.declared.statement.PTy.{PTy}
use Rattle.link_faults.specs.WrittenNames.{first_taken, names_of_fields, names_of_type}
use Rattle.link_checks.proofs.Walks.{stops, goes}
use Rattle.link_checks.proofs.text.in_fields.Goals as goal

pub returns-then-is_some : goal.returns-then-is_some
returns-then-is_some c =
    stops (λ (xs : List (PTy × List ℕ)). names_of_fields xs) (λ (x : (PTy × List ℕ)). names_of_type x.0 ++ x.1 ∷ []) (λ x xs. ap first_taken (append_assoc (names_of_type x.0) (x.1 ∷ []) (names_of_fields xs))) c.args.fields.now c.loop-f.f-index c.f-item.result c.loop-f-test.true c.f-item.is c.loop-f.invariant
    c.first-taken.result (c.first-taken.ensures (names_of_type c.f-item.result.0) (c.f-item.result.1 ∷ []) c.in_type.ensures c.in_name.ensures) (sym c.is_some.ensures ∙ c.if-is_some.true)

pub loop-f-preserved : goal.loop-f-preserved
loop-f-preserved c =
    goes (λ (xs : List (PTy × List ℕ)). names_of_fields xs) (λ (x : (PTy × List ℕ)). names_of_type x.0 ++ x.1 ∷ []) (λ x xs. ap first_taken (append_assoc (names_of_type x.0) (x.1 ∷ []) (names_of_fields xs))) c.args.fields.now c.loop-f.f-index c.f-item.result c.loop-f-test.true c.f-item.is c.loop-f.invariant
    c.first-taken.result (c.first-taken.ensures (names_of_type c.f-item.result.0) (c.f-item.result.1 ∷ []) c.in_type.ensures c.in_name.ensures) (sym c.is_some.ensures ∙ c.if-is_some.false)

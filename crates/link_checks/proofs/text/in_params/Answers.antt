use Rattle.std.proofs.Common.{ℕ, List, [], ◌∷◌, ◌++◌, sym, ap, ◌∙◌}
use Rattle.std.proofs.lemmas.List.{append_assoc}
use Rattle.p4_tree.specs.declared.program.Param.{Param}
use Rattle.link_faults.specs.WrittenNames.{first_taken, names_of_params, names_of_type}
use Rattle.link_checks.proofs.Walks.{stops, goes}
use Rattle.link_checks.proofs.text.in_params.Goals as goal

pub returns-then-is_some : goal.returns-then-is_some
returns-then-is_some c =
    stops (λ (xs : List Param). names_of_params xs) (λ (x : Param). names_of_type x.ty ++ x.name ∷ []) (λ x xs. ap first_taken (append_assoc (names_of_type x.ty) (x.name ∷ []) (names_of_params xs))) c.args.params.now c.loop-p.p-index c.p-item.result c.loop-p-test.true c.p-item.is c.loop-p.invariant
    c.first-taken.result (c.first-taken.ensures (names_of_type c.p-item.result.ty) (c.p-item.result.name ∷ []) c.in_type.ensures c.in_name.ensures) (sym c.is_some.ensures ∙ c.if-is_some.true)

pub loop-p-preserved : goal.loop-p-preserved
loop-p-preserved c =
    goes (λ (xs : List Param). names_of_params xs) (λ (x : Param). names_of_type x.ty ++ x.name ∷ []) (λ x xs. ap first_taken (append_assoc (names_of_type x.ty) (x.name ∷ []) (names_of_params xs))) c.args.params.now c.loop-p.p-index c.p-item.result c.loop-p-test.true c.p-item.is c.loop-p.invariant
    c.first-taken.result (c.first-taken.ensures (names_of_type c.p-item.result.ty) (c.p-item.result.name ∷ []) c.in_type.ensures c.in_name.ensures) (sym c.is_some.ensures ∙ c.if-is_some.false)

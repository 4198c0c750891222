use Rattle.std.proofs.Common.{sym, subst}
use Rattle.indus_tree.specs.Tree.{Property}
use Rattle.indus_tree.specs.View.{property_of}
use Rattle.indus_rules.specs.Rules.{IsWellTyped}
use Rattle.indus_types.specs.declared.typed.Tabled.{Tabled}
use Rattle.indus_types.proofs.typed.TypedProperty.copy.Goals as goal

pub with_names-requires : goal.with_names-requires
with_names-requires c =
    let P : Property → Type 0 = λ p. IsWellTyped p in
    let Q : Tabled → Type 0 = λ t. IsWellTyped (property_of t.property) in
    subst P (sym c.in_ok-property.ensures) (subst Q (sym c.deref.ensures) c.self.invariant.typed)

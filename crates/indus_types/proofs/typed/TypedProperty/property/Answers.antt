use Rattle.std.proofs.Common.{subst}
use Rattle.indus_tree.specs.View.{property_of}
use Rattle.indus_tree.specs.declared.tree.Property.{Property}
use Rattle.indus_rules.specs.Rules.{IsWellTyped}
use Rattle.indus_types.proofs.typed.TypedProperty.property.Goals as goal

pub returns-clause-typed : goal.returns-clause-typed
returns-clause-typed c = let P : Property → Type 0 = λ p. IsWellTyped (property_of p) in subst P c.self.view_is c.self.invariant.typed

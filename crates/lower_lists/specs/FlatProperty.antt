-- The flat code of a property, and why it has none. Read `Flat` before it.
use Rattle.std.specs.Prelude.{◌≡◌, ℕ, ◌<◌, ◌≤◌, map}
use Rattle.indus_tree.specs.Tree.{Property}
use Rattle.indus_tree.specs.View.{stmt_of}
use Rattle.indus_types.specs.Sums.{cut, property_weight}
use Rattle.lower_lists.specs.Flat.{flat_of}
use Rattle.lower_lists.specs.declared.property.FlatProperty.{FlatProperty}
use Rattle.lower_lists.specs.declared.fault.LowerFault.{LowerFault}
use Rattle.lower_lists.specs.declared.fault.LowerFault.TheVariants.{TooLarge, NoMemory}

-- the three blocks are the flat code of the property's
pub record IsFlatOf (p : Property) (f : FlatProperty) : Type 0 where
  pub init : map stmt_of f.init.items ≡ flat_of p.decls p.init
  pub tele : map stmt_of f.tele.items ≡ flat_of p.decls p.tele
  pub check : map stmt_of f.check.items ≡ flat_of p.decls p.check

-- the greatest weight of a property that is made flat
abbrev pub greatest_weight : ℕ
greatest_weight = 16384

-- the weight is greater, and it is named, cut at the greatest number of 32 bits; want of memory says that it isn't
abbrev pub HasCause : Property → LowerFault → Type 0
HasCause p (TooLarge w) = (greatest_weight < property_weight p) × (w ≡ cut (property_weight p))
HasCause p NoMemory = property_weight p ≤ greatest_weight

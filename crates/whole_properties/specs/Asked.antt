-- What is asked of a property that is lowered, and of what its header variables read. Read `Whole` before it.
use Rattle.std.specs.Prelude.{◌≤◌, ◌^◌, List}
use Rattle.std.specs.List.{AllByRecursion}
use Rattle.bit_values.specs.Bits.{Word}
use Rattle.indus_tree.specs.Reports.{HasReportsBelow}
use Rattle.indus_types.specs.Sums.{property_weight}
use Rattle.indus_types.specs.Views.{header_widths, HaveWidths}
use Rattle.lower_lists.specs.FlatProperty.{greatest_weight}
use Rattle.flat_laws.specs.Meaning.{IsPlainProperty}
use Rattle.monitor_laws.specs.MonitorLaws.{IsView}
use Rattle.whole_properties.specs.Whole.{Given, views_in}

-- a well-typed property that is made flat, whose reports have numbers of 16 bits, as those of a text have, and whose
-- header variables read no path of the monitor's, which the linker tests
pub record IsGiven (g : Given) : Type 0 where
  pub plain : IsPlainProperty g.property
  pub light : property_weight g.property ≤ greatest_weight
  pub reports : HasReportsBelow (2 ^ 16) g.property
  pub own_views : AllByRecursion IsView (views_in g.property.decls)

-- the view has words of the widths with which the header variables are declared
abbrev pub FitsView : Given → List Word → Type 0
FitsView g view = HaveWidths (header_widths g.property.decls) view

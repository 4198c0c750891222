-- Declared fields give header variables what fits them. Read `Widths` of `linked_halves` and `Asked` of
-- `whole_properties` before it.
use Rattle.indus_types.specs.Views.{header_widths}
use Rattle.p4_meaning.specs.Store.{Store}
use Rattle.p4_meaning.specs.Parts.{Parts}
use Rattle.switch_machines.specs.Programs.{view_of}
use Rattle.linked_halves.specs.Widths.{HasWidths, AreViewsOf}
use Rattle.whole_properties.specs.Whole.{Given, lower_monitor}
use Rattle.whole_properties.specs.Asked.{FitsView}

-- where a program declares the fields with the widths of the header variables, these fit in each store that keeps to what
-- is declared. This is what a host's `views` asks
abbrev pub FieldsGiveViews : Type 0
FieldsGiveViews =
    (g : Given) (f : Parts) → AreViewsOf f (header_widths g.property.decls) (lower_monitor g).views →
    (s : Store) → HasWidths f s → FitsView g (view_of (lower_monitor g).views s)

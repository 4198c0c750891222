-- What it gives that the test of header variables finds no fault. Read `HeaderFields`, `FieldPaths` and `Taken` before it,
-- `Whole` and `Asked` of `whole_properties`, and `Widths` of `linked_halves`.
use Rattle.std.specs.Prelude.{◌≡◌, None}
use Rattle.std.specs.List.{AllByRecursion}
use Rattle.indus_rules.specs.Rules as indus
use Rattle.p4_tree.specs.Tree.{Program}
use Rattle.p4_meaning.specs.Store.{Store}
use Rattle.p4_meaning.specs.Parts.{parts_of}
use Rattle.p4_rules.specs.ProgramRules.{program_scope, IsWellTyped}
use Rattle.exit_programs.specs.Programs.{program_without}
use Rattle.switch_machines.specs.Programs.{view_of}
use Rattle.monitor_laws.specs.MonitorLaws.{IsView}
use Rattle.linked_halves.specs.Widths.{HasWidths}
use Rattle.whole_properties.specs.Whole.{Given, lower_monitor}
use Rattle.whole_properties.specs.Asked.{FitsView}
use Rattle.link_faults.specs.HeaderFields.{fields_fault}
use Rattle.link_faults.specs.WrittenNames.{names_of_program, first_taken}

-- the test is of the program as it is written. What is linked has no exits, and header variables fit in each store that
-- keeps to what it declares, as the law of linkage asks
abbrev pub FoundViewsFit : Type 0
FoundViewsFit =
    (g : Given) → indus.IsWellTyped g.property → (f : Program) → IsWellTyped f →
    fields_fault (program_scope f) f g.property.decls ≡ None → first_taken (names_of_program f) ≡ None →
    (s : Store) → HasWidths (parts_of (program_without f)) s → FitsView g (view_of (lower_monitor g).views s)

-- and they read the program's own fields and headers, none that a monitor adds
abbrev pub FoundViewsAreOwn : Type 0
FoundViewsAreOwn =
    (g : Given) → indus.IsWellTyped g.property → (f : Program) → IsWellTyped f →
    fields_fault (program_scope f) f g.property.decls ≡ None → first_taken (names_of_program f) ≡ None →
    AllByRecursion IsView (lower_monitor g).views

-- What the test of header variables finds in a program stands in what is linked of it. Read `Fields` of `monitor_rules` before
-- it, `HeaderFields` of `link_faults` and `Trees` of `tree_linkage`.
use Rattle.std.specs.Prelude.{◌≡◌, None}
use Rattle.std.specs.List.{AllByRecursion}
use Rattle.indus_tree.specs.Tree.{Property}
use Rattle.indus_rules.specs.Rules as indus
use Rattle.p4_tree.specs.Tree.{Program}
use Rattle.p4_rules.specs.ProgramRules.{program_scope, IsWellTyped}
use Rattle.p4_printer.specs.CanSpell.{CanSpellExpr, CanSpell}
use Rattle.linked_programs.specs.Linked.{headers_type, metadata_type}
use Rattle.tree_linkage.specs.Trees.{linked_form}
use Rattle.whole_properties.specs.Whole.{views_in}
use Rattle.monitor_rules.specs.Fields.{HasFields}
use Rattle.link_faults.specs.HeaderFields.{fields_fault}
use Rattle.link_faults.specs.WrittenNames.{names_of_program, first_taken}

-- f: the program as it is written. What is linked has no exits, and two structs
abbrev pub FoundFieldsAreShown : Type 0
FoundFieldsAreShown =
    (property : Property) → indus.IsWellTyped property → (f : Program) → IsWellTyped f → first_taken (names_of_program f) ≡ None →
    fields_fault (program_scope f) f property.decls ≡ None →
    HasFields (program_scope (linked_form f)) (headers_type (linked_form f)) (metadata_type (linked_form f)) property.decls

-- and what header variables read there can be spelled, as the program can
abbrev pub FoundViewsAreWords : Type 0
FoundViewsAreWords =
    (property : Property) → indus.IsWellTyped property → (f : Program) → IsWellTyped f → CanSpell f →
    fields_fault (program_scope f) f property.decls ≡ None → AllByRecursion CanSpellExpr (views_in property.decls)

use Rattle.std.proofs.Common.{◌≡◌, drop, map}
use Rattle.indus_tree.specs.View.{decl_of}
use Rattle.p4_tree.specs.View.{program_of}
use Rattle.p4_rules.specs.ProgramRules.{program_scope}
use Rattle.link_faults.specs.HeaderFields.{fields_fault}
use Rattle.link_checks.proofs.fields.check_fields.Given as goal

-- what is left from here has the fault of all
abbrev pub invariant-loop-d : goal.invariant-loop-d
invariant-loop-d l =
    fields_fault (program_scope (program_of l.program)) (program_of l.program) (map decl_of (drop l.d-index l.decls))
    ≡ fields_fault (program_scope (program_of l.program)) (program_of l.program) (map decl_of l.decls)

-- The parts of a table may stand in any order in a text, and the tree has them in one. It makes no difference to which name
-- is the first that is taken: what stands in them was written before. Read `WrittenNames` before it.
use Rattle.std.specs.Prelude.{◌≡◌, [], map, None}
use Rattle.p4_tree.specs.Tree.{Local, local_table, Top, control, Program}
use Rattle.p4_rules.specs.ProgramRules.{IsWellTyped}
use Rattle.link_faults.specs.WrittenNames.{names_of_program, first_taken}

-- a table with nothing but its name
abbrev pub bare_local : Local → Local
bare_local (local_table p t) = local_table p (record t { keys = []; actions = []; default = None })
bare_local l = l

abbrev pub bare_top : Top → Top
bare_top (control p c) = control p (record c { locals = map bare_local c.locals })
bare_top t = t

abbrev pub with_bare_tables : Program → Program
with_bare_tables p = record p { tops = map bare_top p.tops }

-- without the parts of its tables a well-typed program has the same first name that is taken, or none as well
abbrev pub TablesNameNothingNew : Type 0
TablesNameNothingNew =
    (p : Program) → IsWellTyped p →
    first_taken (names_of_program (with_bare_tables p)) ≡ first_taken (names_of_program p)

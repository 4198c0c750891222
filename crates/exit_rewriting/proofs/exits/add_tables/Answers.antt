use Rattle.std.proofs.Common.{ℕ, List, map, ap₂, subst}
use Rattle.p4_tree.specs.View.{control_of, local_of}
use Rattle.p4_tree.specs.declared.program.Local as code
use Rattle.exit_programs.specs.Programs.{name_in}
use Rattle.exit_rewriting.specs.Marks.{Mark, AreMarks, from_each}
use Rattle.exit_rewriting.specs.Groups.{is_marked_in}
use Rattle.exit_rewriting.specs.Exiting.{table_marks}
use Rattle.exit_rewriting.proofs.Grouping.{grows}
use Rattle.exit_rewriting.proofs.exits.add_tables.Goals as goal

pub returns : goal.returns
returns c =
    let marks = c.in_ok-marks.marks in
    let exits = is_marked_in c.args.actions.now in
    let P : List Mark → Type 0 = λ ms. AreMarks marks ms in
    grows c.args.groups.now c.add.new.self (record { control = c.in_ok-control.control; marks = marks }) c.args.c.now.name
    (from_each (table_marks exits (name_in (control_of c.args.c.now))) (map local_of c.args.c.now.locals.items))
    c.in_ok-add.ensures c.in_ok-control.ensures
    (subst P (ap₂ (λ (f : List ℕ → List ℕ) (ls : List code.Local). from_each (table_marks exits f) (map local_of ls)) c.in_ok-place.ensures c.deref.ensures.value) c.in_ok-marks.ensures)

use Rattle.std.proofs.Common.{List, map, subst}
use Rattle.p4_tree.specs.View.{local_of}
use Rattle.p4_tree.specs.declared.program.Local as code
use Rattle.exit_rewriting.specs.Marks.{AreMarks, from_each}
use Rattle.exit_rewriting.specs.Exiting.{action_marks}
use Rattle.exit_rewriting.proofs.Grouping.{grows}
use Rattle.exit_rewriting.proofs.exits.add_actions.Goals as goal

pub returns : goal.returns
returns c =
    let marks = c.in_ok-marks.marks in
    let P : List code.Local → Type 0 = λ ls. AreMarks marks (from_each action_marks (map local_of ls)) in
    grows c.args.groups.now c.add.new.self (record { control = c.in_ok-control.control; marks = marks }) c.args.c.now.name (from_each action_marks (map local_of c.args.c.now.locals.items))
    c.in_ok-add.ensures c.in_ok-control.ensures (subst P c.deref.ensures.value c.in_ok-marks.ensures)

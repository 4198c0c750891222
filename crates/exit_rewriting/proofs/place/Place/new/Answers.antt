use Rattle.std.proofs.Common.{map, List, subst}
use Rattle.p4_tree.specs.View.{control_of, local_of}
use Rattle.p4_tree.specs.declared.program.Local as code
use Rattle.exit_rewriting.specs.Marks.{AreMarks, from_each}
use Rattle.exit_rewriting.specs.Exiting.{own_marks}
use Rattle.exit_rewriting.proofs.Exited.{names_at}
use Rattle.exit_rewriting.proofs.place.Place.new.Goals as goal

pub returns : goal.returns
returns c =
    let P : List code.Local → Type 0 = λ ls. AreMarks c.in_ok-own.own (from_each own_marks (map local_of ls)) in
    names_at (record { control = c.in_ok-control.control; own = c.in_ok-own.own }) (control_of c.args.control.now) (subst P c.deref.ensures.value c.in_ok-own.ensures) c.in_ok-control.ensures

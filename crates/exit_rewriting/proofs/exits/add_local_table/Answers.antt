use Rattle.std.proofs.Common.{subst, sym}
use Rattle.std.specs.Result.{IfOk}
use Rattle.p4_tree.specs.View.{local_of}
use Rattle.p4_tree.specs.declared.program.Local as code
use Rattle.exit_rewriting.specs.Marks.{Adds}
use Rattle.exit_rewriting.specs.Groups.{is_marked_in}
use Rattle.exit_rewriting.specs.Exiting.{table_marks, name_at}
use Rattle.exit_rewriting.proofs.exits.add_local_table.Goals as goal

pub returns-in-Tab : goal.returns-in-Tab
returns-in-Tab c =
    let P : code.Local → Type 0 = λ l. IfOk c.add_table.result (λ _. Adds c.args.marks.now c.add_table.new.marks (table_marks (is_marked_in c.args.actions.now) (name_at c.args.place.now) (local_of l))) in
    subst P (sym c.in-Tab.is) c.add_table.ensures

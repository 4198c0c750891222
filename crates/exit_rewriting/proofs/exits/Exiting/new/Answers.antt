use Rattle.std.proofs.Common.{map, List, subst}
use Rattle.p4_tree.specs.View.{program_of, top_of}
use Rattle.p4_tree.specs.declared.program.Top as code
use Rattle.exit_rewriting.specs.Marks.{from_each}
use Rattle.exit_rewriting.specs.Groups.{AreGroups, is_marked_in}
use Rattle.exit_rewriting.specs.Exiting.{all_action_marks, all_table_marks}
use Rattle.exit_rewriting.proofs.Exited.{exits_same}
use Rattle.exit_rewriting.proofs.exits.Exiting.new.Goals as goal

pub returns : goal.returns
returns c =
    let actions = c.in_ok-actions.actions in
    let tables = c.in_ok-tables.tables in
    let P : List code.Top → Type 0 = λ ts. AreGroups actions (from_each all_action_marks (map top_of ts)) in
    let Q : List code.Top → Type 0 = λ ts. AreGroups tables (from_each (all_table_marks (is_marked_in actions)) (map top_of ts)) in
    exits_same (record { actions = actions; tables = tables }) (program_of c.args.program.now) (subst P c.deref.ensures.value c.in_ok-actions.ensures) (subst Q c.deref-2.ensures.value c.in_ok-tables.ensures)

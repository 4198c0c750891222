use Rattle.std.proofs.Common.{subst, sym}
use Rattle.std.specs.Result.{IfOk}
use Rattle.p4_tree.specs.View.{top_of}
use Rattle.p4_tree.specs.declared.program.Top as code
use Rattle.exit_rewriting.specs.Groups.{Grows, is_marked_in}
use Rattle.exit_rewriting.specs.Exiting.{all_table_marks}
use Rattle.exit_rewriting.proofs.exits.add_top_tables.Goals as goal

pub returns-in-Ctl : goal.returns-in-Ctl
returns-in-Ctl c =
    let P : code.Top → Type 0 = λ t. IfOk c.add_tables.result (λ _. Grows c.args.groups.now c.add_tables.new.groups (all_table_marks (is_marked_in c.args.actions.now) (top_of t))) in
    subst P (sym c.in-Ctl.is) c.add_tables.ensures

use Rattle.std.proofs.Common.{ℕ, map, sym, subst}
use Rattle.indus_tree.specs.State.{Contents}
use Rattle.indus_tree.specs.View.{decl_of}
use Rattle.indus_values.specs.View.{contents_of, contents_from}
use Rattle.p4_tree.specs.View.{program_of}
use Rattle.p4_tables.specs.State.{entries_in}
use Rattle.set_contents.specs.Maps.{map_of}
use Rattle.loaded_tables.specs.Rows.{numbered_rows}
use Rattle.loaded_tables.specs.Loading.{AreTaken}
use Rattle.linked_net.proofs.Loading.{same_contents, are_loaded}
use Rattle.linked_net.proofs.tables.loaded_switch.Goals as goal

pub loaded-requires-clause-taken : goal.loaded-requires-clause-taken
loaded-requires-clause-taken c =
    let ds = map decl_of c.args.decls.now in
    let numbers = numbered_rows (program_of c.args.program.now) ds c.args.rows.now.tables.items in
    subst (λ (w : ℕ → Contents). AreTaken (entries_in c.args.held.now) numbers w) (sym (same_contents ds c.args.contents.now)) c.requires.taken

pub returns : goal.returns
returns c =
    let ds = map decl_of c.args.decls.now in
    let cs = c.args.contents.now in
    are_loaded (program_of c.args.given.now) ds c.args.rows.now.tables.items (λ r. r.0) (λ r. map_of r.1.items) (program_of c.args.program.now) c.args.held.now (map contents_of cs)
    (contents_from ds cs) (same_contents ds cs) c.loaded.result c.loaded.ensures.state c.loaded.ensures.map c.loaded.ensures.mapped (c.loaded.ensures.own c.requires.can.own) c.loaded.ensures.entries

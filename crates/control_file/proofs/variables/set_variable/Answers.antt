use Rattle.std.proofs.lemmas.List.{map-set}
use Rattle.serde_json.specs.View.{view}
use Rattle.indus_tree.specs.View.{decl_of}
use Rattle.indus_values.specs.View.{contents_of}
use Rattle.control_file.specs.Views.{decls_of, contents_view}
use Rattle.control_file.proofs.SeatLemmas.{set_is}
use Rattle.control_file.proofs.variables.set_variable.Goals as goal

pub returns : goal.returns
returns c =
    rw (c.put.ensures, map-set contents_of c.args.held.now.items c.in-Some.seat c.in_ok-contents.contents)
    (set_is c.args.path.now (decls_of c.args.property.now) (contents_view c.args.held.now) c.args.name.now (view c.args.value.now) c.as_str.result.now c.in-Some.seat (decl_of c.in-Some.decl.now) (contents_of c.in_ok-contents.contents) c.in-Some.ensures (rw c.as_str.ensures c.in_ok-path.ensures) c.in_ok-contents.ensures)

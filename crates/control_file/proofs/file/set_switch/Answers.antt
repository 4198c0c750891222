use Rattle.std.proofs.lemmas.List.{map-set}
use Rattle.serde_json.specs.View.{view}
use Rattle.control_file.specs.Views.{decls_of, contents_view, switches_view}
use Rattle.control_file.proofs.SeatLemmas.{switch_is}
use Rattle.control_file.proofs.file.set_switch.Goals as goal

pub returns : goal.returns
returns c =
    rw (c.put.ensures, map-set contents_view c.args.held.now.items c.in-Some.switch c.in_ok-contents.contents)
    (switch_is (decls_of c.args.property.now) c.args.network.now.names (switches_view c.args.held.now) c.args.name.now (view c.args.value.now) c.as_str.result.now c.in-Some.switch (contents_view c.in_ok-contents.contents) c.in-Some.ensures.number (rw c.as_str.ensures c.in_ok-path.ensures) c.in_ok-contents.ensures)

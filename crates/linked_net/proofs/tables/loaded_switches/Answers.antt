use Rattle.std.proofs.Common.{◌∷◌, [], map, ap, ◌∙◌}
use Rattle.std.proofs.lemmas.List.{map-append}
use Rattle.indus_tree.specs.View.{decl_of}
use Rattle.indus_values.specs.View.{contents_of}
use Rattle.p4_tree.specs.View.{program_of}
use Rattle.control_file.specs.Views.{contents_view}
use Rattle.set_contents.specs.Maps.{map_of, maps_of}
use Rattle.linked_net.proofs.Loading.{can_here, loaded_here}
use Rattle.linked_net.proofs.tables.loaded_switches.Goals as goal

pub loaded_switch-requires : goal.loaded_switch-requires
loaded_switch-requires c =
    can_here (program_of c.args.given.now) (map decl_of c.args.decls.now) c.args.rows.now.tables.items program_of contents_view c.args.programs.now c.args.tables.now c.args.contents.now
    c.requires c.loop-i.i c.index-programs-i.result c.index-tables-i.result c.index-contents-i.result (map contents_of c.deref.result.now)
    c.loop-i-test.true c.index-programs-i.is c.index-tables-i.is c.index-contents-i.is (ap (map contents_of) c.deref.ensures.value)

pub loop-i-preserved : goal.loop-i-preserved
loop-i-preserved c =
    let mapped = ap maps_of c.in_ok-push-2.ensures.items ∙ map-append (λ v. map_of v.items) c.loop-i.maps.items (c.in_ok-state.map ∷ []) in
    loaded_here (program_of c.args.given.now) (map decl_of c.args.decls.now) c.args.rows.now.tables.items program_of contents_view c.args.programs.now c.args.tables.now c.args.contents.now
    c.requires c.loop-i.i c.index-programs-i.result c.index-tables-i.result c.index-contents-i.result (map contents_of c.deref.result.now)
    c.loop-i-test.true c.index-programs-i.is c.index-tables-i.is c.index-contents-i.is (ap (map contents_of) c.deref.ensures.value)
    c.loop-i.states.items c.push.new.self.items (maps_of c.loop-i.maps.items) (maps_of c.push-in-loop-i.new.self.items) c.in_ok-state.state (map_of c.in_ok-state.map.items) c.in_ok-state.ensures
    c.in_ok-push.ensures.items mapped c.loop-i.invariant

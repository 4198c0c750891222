use Rattle.std.proofs.Common.{◌<◌, length, map, refl, sym, ap, ◌∙◌, subst, arith}
use Rattle.std.specs.Option.{option_map}
use Rattle.std.proofs.lemmas.List.{length-map}
use Rattle.std.proofs.lemmas.Option.{slice_get-map, slice_get_read}
use Rattle.indus_tree.specs.State.{Contents}
use Rattle.indus_tree.specs.View.{decl_of}
use Rattle.indus_values.specs.View.{contents_of, contents_from}
use Rattle.p4_tables.specs.Faults.{IsReplaceable}
use Rattle.control_tables.specs.Contents.{entries_for, default_for}
use Rattle.control_maps.specs.Numbers.{Numbered, put_in}
use Rattle.control_maps.proofs.Places.{all_at}
use Rattle.set_contents.specs.Maps.{map_of, numbered_of}
use Rattle.loaded_tables.proofs.Filled.{there, takes, loaded_next, as_many_seats, contents_are}
use Rattle.loaded_tables.proofs.filling.load.Goals as goal

pub index-requires : goal.index-requires
index-requires c =
    let items = c.args.mapped.now in
    let i = c.loop-item.item-index in
    let x = c.item-item.result in
    let here = slice_get-map numbered_of items i ∙ ap (option_map numbered_of) (slice_get_read items (length items) i x refl c.loop-item-test.true c.item-item.is) in
    let declared : x.2 < length c.args.decls.now = all_at (λ (n : Numbered). n.variable < length c.args.decls.now) (map_of items) i (numbered_of x) here c.requires.declared in
    let many = as_many_seats (map decl_of c.args.decls.now) c.in_ok-seats.seats.items c.in_ok-seats.ensures in
    let long = length-map c.args.decls.now decl_of in
    let size = c.in_ok-seats.seats.ok.0 in
    omega (arith, declared, many, long, size)

pub fill-requires-clause-there : goal.fill-requires-clause-there
fill-requires-clause-there c =
    let items = c.args.mapped.now in
    let i = c.loop-item.item-index in
    let x = c.item-item.result in
    let here = slice_get-map numbered_of items i ∙ ap (option_map numbered_of) (slice_get_read items (length items) i x refl c.loop-item-test.true c.item-item.is) in
    there (map_of items) (contents_from (map decl_of c.args.decls.now) c.args.contents.now) c.args.tables.now c.loop-item.tables i (numbered_of x) here c.loop-item.invariant

pub fill-requires-clause-taken : goal.fill-requires-clause-taken
fill-requires-clause-taken c =
    let items = c.args.mapped.now in
    let i = c.loop-item.item-index in
    let x = c.item-item.result in
    let here = slice_get-map numbered_of items i ∙ ap (option_map numbered_of) (slice_get_read items (length items) i x refl c.loop-item-test.true c.item-item.is) in
    let declared : x.2 < length c.args.decls.now = all_at (λ (n : Numbered). n.variable < length c.args.decls.now) (map_of items) i (numbered_of x) here c.requires.declared in
    let long = length-map c.args.decls.now decl_of in
    let value = contents_are (map decl_of c.args.decls.now) c.args.contents.now c.in_ok-seats.seats.items x.2 c.index.result.now (contents_of c.value_at-value.result.now) c.in_ok-seats.ensures (omega (arith, declared, long)) c.index.ensures c.value_at-value.ensures in
    subst (λ (w : Contents). IsReplaceable c.loop-item.tables x.0 (entries_for x.1 w) (default_for x.1 w)) (sym value)
    (takes (map_of items) (contents_from (map decl_of c.args.decls.now) c.args.contents.now) c.args.tables.now c.loop-item.tables i (numbered_of x) here c.loop-item.invariant)

pub loop-item-preserved : goal.loop-item-preserved
loop-item-preserved c =
    let items = c.args.mapped.now in
    let i = c.loop-item.item-index in
    let x = c.item-item.result in
    let here = slice_get-map numbered_of items i ∙ ap (option_map numbered_of) (slice_get_read items (length items) i x refl c.loop-item-test.true c.item-item.is) in
    let declared : x.2 < length c.args.decls.now = all_at (λ (n : Numbered). n.variable < length c.args.decls.now) (map_of items) i (numbered_of x) here c.requires.declared in
    let long = length-map c.args.decls.now decl_of in
    let value = contents_are (map decl_of c.args.decls.now) c.args.contents.now c.in_ok-seats.seats.items x.2 c.index.result.now (contents_of c.value_at-value.result.now) c.in_ok-seats.ensures (omega (arith, declared, long)) c.index.ensures c.value_at-value.ensures in
    loaded_next (map_of items) (contents_from (map decl_of c.args.decls.now) c.args.contents.now) c.args.tables.now c.loop-item.tables i (numbered_of x) here c.loop-item.invariant c.fill.new.tables
    (c.in_ok-fill.ensures.tables ∙ ap (λ (w : Contents). put_in (numbered_of x) w c.loop-item.tables) value)

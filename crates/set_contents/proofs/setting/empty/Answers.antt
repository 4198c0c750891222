use Rattle.std.proofs.Common.{List, [], map, None, ap, ◌∙◌}
use Rattle.table_entries.specs.View.{entry_of}
use Rattle.p4_tables.specs.State.{replaced}
use Rattle.p4_meaning.specs.Parts.{parts_of}
use Rattle.set_contents.specs.Maps.{map_of, numbered_of}
use Rattle.set_contents.proofs.Filling.{item_there, in_map, others_next, empties, empties_other, others_same}
use Rattle.set_contents.proofs.setting.empty.Goals as goal
use Rattle.set_contents.proofs.setting.empty.Goals.{then-item-variable+in_ok-set_table, else-item-variable}

pub set_table-requires-clause-there : goal.set_table-requires-clause-there
set_table-requires-clause-there g c =
    let f = parts_of (g.P.Pass.program c.args.switch.now) in
    let items = c.args.map.now in
    let i = c.loop-item.item-index in
    let x = c.item-item.result in
    let here = item_there items i x c.loop-item-test.true c.item-item.is in
    in_map f (map_of items) c.args.variable i (numbered_of x) here (g.P.Pass.tables c.loop-item.switch) c.loop-item.invariant.emptied.map

pub loop-item-preserved : goal.loop-item-preserved
loop-item-preserved g c =
    let f = parts_of (g.P.Pass.program c.args.switch.now) in
    let items = c.args.map.now in
    let i = c.loop-item.item-index in
    let x = c.item-item.result in
    let here = item_there items i x c.loop-item-test.true c.item-item.is in
    let old = g.P.Pass.tables c.args.switch.now in
    let now = g.P.Pass.tables c.loop-item.switch in
    let before = c.loop-item.invariant in
    elim c.if-item-variable.branch [
      | then-item-variable+in_ok-set_table w ↦
          (let is = ap (λ s. g.P.Pass.tables s) w.switch-is ∙ (w.in_ok-set_table.ensures.tables ∙ ap (λ (es : List _). replaced now x.0 (map entry_of es) None) w.new.ensures.items) in
          record {
            program = ap (λ s. g.P.Pass.program s) w.switch-is ∙ (w.set_table.ensures.program ∙ before.program);
            cells = ap (λ s. g.P.Pass.cells s) w.switch-is ∙ (w.set_table.ensures.cells ∙ before.cells);
            emptied = empties f (map_of items) c.args.variable i (numbered_of x) here w.if-item-variable.true old now _ is before.emptied;
            others = others_next f (map_of items) c.args.variable i (numbered_of x) here w.if-item-variable.true old now _ [] None before.emptied.map is before.others;
          })
      | else-item-variable w ↦
          (let is = ap (λ s. g.P.Pass.tables s) w.switch-is in
          record {
            program = ap (λ s. g.P.Pass.program s) w.switch-is ∙ before.program;
            cells = ap (λ s. g.P.Pass.cells s) w.switch-is ∙ before.cells;
            emptied = empties_other f (map_of items) c.args.variable i (numbered_of x) here w.if-item-variable.false old now _ is before.emptied;
            others = others_same f (map_of items) c.args.variable i (numbered_of x) here w.if-item-variable.false old now _ is before.others;
          })
    ]

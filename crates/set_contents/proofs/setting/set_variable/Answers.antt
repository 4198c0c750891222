use Rattle.std.proofs.Common.{ap, ◌∙◌}
use Rattle.p4_meaning.specs.Parts.{parts_of}
use Rattle.indus_values.specs.View.{contents_of}
use Rattle.control_tables.specs.Contents.{entries_for, default_for}
use Rattle.set_contents.specs.Maps.{map_of, numbered_of}
use Rattle.set_contents.proofs.Filling.{item_there, in_map, others_next, takes, fills, fills_other, others_same}
use Rattle.set_contents.proofs.setting.set_variable.Goals as goal
use Rattle.set_contents.proofs.setting.set_variable.Goals.{then-item-variable+in_ok-fill, else-item-variable}

pub fill-requires-clause-there : goal.fill-requires-clause-there
fill-requires-clause-there g c =
    let f = parts_of (g.P.Pass.program c.args.switch.now) in
    let items = c.args.map.now in
    let i = c.loop-item.item-index in
    let x = c.item-item.result in
    let here = item_there items i x c.loop-item-test.true c.item-item.is in
    in_map f (map_of items) c.args.variable i (numbered_of x) here (g.P.Pass.tables c.loop-item.switch) c.loop-item.invariant.filled.map

pub fill-requires-clause-taken : goal.fill-requires-clause-taken
fill-requires-clause-taken g c =
    let f = parts_of (g.P.Pass.program c.args.switch.now) in
    let items = c.args.map.now in
    let i = c.loop-item.item-index in
    let x = c.item-item.result in
    let here = item_there items i x c.loop-item-test.true c.item-item.is in
    takes f (map_of items) c.args.variable i (numbered_of x) here c.if-item-variable.true (contents_of c.args.contents.now)
    (g.P.Pass.tables c.args.switch.now) (g.P.Pass.tables c.loop-item.switch) c.loop-item.invariant.filled c.requires.settable

pub loop-item-preserved : goal.loop-item-preserved
loop-item-preserved g c =
    let f = parts_of (g.P.Pass.program c.args.switch.now) in
    let items = c.args.map.now in
    let i = c.loop-item.item-index in
    let x = c.item-item.result in
    let here = item_there items i x c.loop-item-test.true c.item-item.is in
    let v = contents_of c.args.contents.now in
    let old = g.P.Pass.tables c.args.switch.now in
    let now = g.P.Pass.tables c.loop-item.switch in
    let before = c.loop-item.invariant in
    elim c.if-item-variable.branch [
      | then-item-variable+in_ok-fill w ↦
          (let is = ap (λ s. g.P.Pass.tables s) w.switch-is ∙ w.in_ok-fill.ensures.tables in
          record {
            program = ap (λ s. g.P.Pass.program s) w.switch-is ∙ (w.fill.ensures.program ∙ before.program);
            cells = ap (λ s. g.P.Pass.cells s) w.switch-is ∙ (w.fill.ensures.cells ∙ before.cells);
            filled = fills f (map_of items) c.args.variable i (numbered_of x) here w.if-item-variable.true v old now before.filled c.requires.settable _ is;
            others = others_next f (map_of items) c.args.variable i (numbered_of x) here w.if-item-variable.true old now _ (entries_for x.1 v) (default_for x.1 v) before.filled.map is before.others;
          })
      | else-item-variable w ↦
          (let is = ap (λ s. g.P.Pass.tables s) w.switch-is in
          record {
            program = ap (λ s. g.P.Pass.program s) w.switch-is ∙ before.program;
            cells = ap (λ s. g.P.Pass.cells s) w.switch-is ∙ before.cells;
            filled = fills_other f (map_of items) c.args.variable i (numbered_of x) here w.if-item-variable.false old now _ is v before.filled;
            others = others_same f (map_of items) c.args.variable i (numbered_of x) here w.if-item-variable.false old now _ is before.others;
          })
    ]

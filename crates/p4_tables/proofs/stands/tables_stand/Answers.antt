use Rattle.std.proofs.Common.{◌<◌, length, map, sym, ap, ap₂, ◌∙◌, arith}
use Rattle.std.proofs.lemmas.List.{length-map, get_or-map}
use Rattle.p4_parts.specs.PartsIn.{action_in, table_in}
use Rattle.p4_parts.specs.declared.parts.Table as code_table
use Rattle.table_shapes.specs.Shapes.{Shape}
use Rattle.table_shapes.specs.View.{shape_of}
use Rattle.p4_tables.specs.StandsTests.{table_stands, tables_stand}
use Rattle.p4_tables.proofs.Decided.{one_missing, one_standing}
use Rattle.p4_tables.proofs.stands.tables_stand.Goals as goal

pub returns-then-not-branch : goal.returns-then-not-branch
returns-then-not-branch c =
    let from = map action_in c.args.from.now.actions.now in
    let to = map action_in c.args.to.now.actions.now in
    let tables = map table_in c.args.tables.now in
    let items = c.args.own_tables.now in
    let own = c.args.own.now in
    let i = c.loop-i.i in
    let t = c.index-own_tables-i.result in
    let g = c.index-own-i.result in
    let low : c.loop-i.i < length own = omega arith in
    let many = c.requires in
    let long = length-map items table_in in
    let lt : c.loop-i.i < length items = omega (arith, low, many, long) in
    let all = tables_stand from to tables c.args.others.now (map table_in items) own in
    one_missing from to tables c.args.others.now (map table_in items) own all i (table_in t) g _ (omega (arith, low, many)) low
    (ap table_in c.index-own_tables-i.is ∙ sym (get_or-map table_in items i t (table_in t) lt)) c.index-own-i.is
    (c.in_ok-table_stands.ensures ∙ ap₂ (λ x (s : Shape). table_stands from to tables c.args.others.now x s) (c.as_str-name.ensures ∙ ap (λ (a : code_table.Table). a.name) (sym c.index-own_tables-i.is)) c.shape.ensures)
    c.if-not-branch.true c.loop-i.invariant

pub loop-i-preserved : goal.loop-i-preserved
loop-i-preserved c =
    let from = map action_in c.args.from.now.actions.now in
    let to = map action_in c.args.to.now.actions.now in
    let tables = map table_in c.args.tables.now in
    let items = c.args.own_tables.now in
    let own = c.args.own.now in
    let i = c.loop-i.i in
    let t = c.index-own_tables-i.result in
    let g = c.index-own-i.result in
    let low : c.loop-i.i < length own = omega arith in
    let many = c.requires in
    let long = length-map items table_in in
    let lt : c.loop-i.i < length items = omega (arith, low, many, long) in
    let all = tables_stand from to tables c.args.others.now (map table_in items) own in
    one_standing from to tables c.args.others.now (map table_in items) own all i (table_in t) g _ (omega (arith, low, many)) low
    (ap table_in c.index-own_tables-i.is ∙ sym (get_or-map table_in items i t (table_in t) lt)) c.index-own-i.is
    (c.in_ok-table_stands.ensures ∙ ap₂ (λ x (s : Shape). table_stands from to tables c.args.others.now x s) (c.as_str-name.ensures ∙ ap (λ (a : code_table.Table). a.name) (sym c.index-own_tables-i.is)) c.shape.ensures)
    c.if-not-branch.false c.loop-i.invariant

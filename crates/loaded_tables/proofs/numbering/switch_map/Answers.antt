use Rattle.std.proofs.Common.{◌≡◌, List, length, map, refl, sym, ap, ◌∙◌, subst}
use Rattle.std.specs.Prelude.{slice_get}
use Rattle.std.proofs.lemmas.Option.{slice_get_read}
use Rattle.indus_tree.specs.View.{decl_of}
use Rattle.p4_tree.specs.View.{program_of}
use Rattle.p4_tree.specs.declared.program.Program as code
use Rattle.p4_meaning.specs.Parts.{Parts, parts_of}
use Rattle.p4_parts.specs.PartsIn.{parts_in}
use Rattle.p4_tables.specs.Programs.{shapes}
use Rattle.table_shapes.specs.Shapes.{Shape}
use Rattle.loaded_tables.specs.Rows.{Row, numbered_row}
use Rattle.loaded_tables.specs.Steps.{IsNumberable}
use Rattle.loaded_tables.proofs.Numbered.{numberable, next_row}
use Rattle.loaded_tables.proofs.numbering.switch_map.Goals as goal

pub mapped-requires : goal.mapped-requires
mapped-requires c =
    let p = program_of c.args.program.now in
    let ds = map decl_of c.args.decls.now in
    let items = c.deref-row-items.result.now in
    let i = c.loop-row.row-index in
    let x = c.row-item.result in
    let here = ap (λ (l : List Row). slice_get l i) (sym c.deref-row-items.ensures.value) ∙ slice_get_read items (length items) i x refl c.loop-row-test.true c.row-item.is in
    let parts : parts_in c.in_ok-parts.parts ≡ parts_of p = c.in_ok-parts.ensures ∙ ap (λ (q : code.Program). parts_of (program_of q)) c.program.ensures.same in
    subst (λ (f : Parts). IsNumberable f.tables c.args.tables.now ds x) (sym parts)
    (numberable p c.args.tables.now ds c.args.rows.now.tables.items c.requires.state.same c.requires.map i x here)

pub loop-row-preserved : goal.loop-row-preserved
loop-row-preserved c =
    let p = program_of c.args.program.now in
    let ds = map decl_of c.args.decls.now in
    let items = c.deref-row-items.result.now in
    let i = c.loop-row.row-index in
    let x = c.row-item.result in
    let here = ap (λ (l : List Row). slice_get l i) (sym c.deref-row-items.ensures.value) ∙ slice_get_read items (length items) i x refl c.loop-row-test.true c.row-item.is in
    let parts : parts_in c.in_ok-parts.parts ≡ parts_of p = c.in_ok-parts.ensures ∙ ap (λ (q : code.Program). parts_of (program_of q)) c.program.ensures.same in
    next_row p ds c.args.rows.now.tables.items i x c.loop-row.all.items c.push.new.self.items c.in_ok-mapped.field-0 here c.loop-row.invariant c.in_ok-push.ensures.items
    (c.in_ok-mapped.ensures
    ∙ (ap (λ (f : Parts). numbered_row f.tables (shapes c.args.tables.now) ds x) parts
    ∙ ap (λ (ss : List Shape). numbered_row (parts_of p).tables ss ds x) c.requires.state.same))

use Rattle.std.proofs.Common.{◌≡◌, map, length, true, false, sym, ap, ◌∙◌, arith}
use Rattle.std.specs.Prelude.{slice_get}
use Rattle.std.proofs.lemmas.List.{length-map}
use Rattle.lex_text.specs.Names.{same_text}
use Rattle.p4_meaning.specs.Statements.{cell_at}
use Rattle.p4_machine.specs.Passages.{name_or}
use Rattle.p4_parts.specs.PartsIn.{cells_decl}
use Rattle.register_texts.specs.Rows.{first_cell}
use Rattle.register_texts.proofs.Rows.{view_at, first_other, first_found, first_past}
use Rattle.register_texts.proofs.cells.first_cell.Goals as goal

pub returns-then-same_text : goal.returns-then-same_text
returns-then-same_text g c =
    let rs = map cells_decl c.args.registers.now in
    let cells = g.P.Pass.cells c.args.switch.now in
    let x = c.args.name.now in
    let i = c.loop-number.number in
    let r = cells_decl c.index-registers-number.result in
    let at = view_at cells_decl c.args.registers.now i c.index-registers-number.result (omega arith) c.index-registers-number.is in
    let named = c.as_str.ensures ∙ ap (λ y. (cells_decl y).name) (sym c.index-registers-number.is) in
    let same : same_text r.name x ≡ true = ap (λ y. same_text y x) (sym named) ∙ sym c.same_text.ensures ∙ c.if-same_text.true in
    let read : c.cell.result ≡ cell_at (cells r.name) 0 = c.cell.ensures ∙ ap (λ o. cell_at (cells (name_or o)) 0) (ap (λ qs. slice_get qs i) c.requires ∙ at) in
    ap (λ w. w.value) (c.result.view_is ∙ read) ∙ sym (first_found rs cells x i r at same) ∙ c.loop-number.invariant

pub loop-number-preserved : goal.loop-number-preserved
loop-number-preserved g c =
    let rs = map cells_decl c.args.registers.now in
    let cells = g.P.Pass.cells c.args.switch.now in
    let x = c.args.name.now in
    let i = c.loop-number.number in
    let r = cells_decl c.index-registers-number.result in
    let at = view_at cells_decl c.args.registers.now i c.index-registers-number.result (omega arith) c.index-registers-number.is in
    let named = c.as_str.ensures ∙ ap (λ y. (cells_decl y).name) (sym c.index-registers-number.is) in
    let other : same_text r.name x ≡ false = ap (λ y. same_text y x) (sym named) ∙ sym c.same_text.ensures ∙ c.if-same_text.false in
    sym (first_other rs cells x i r at other) ∙ c.loop-number.invariant

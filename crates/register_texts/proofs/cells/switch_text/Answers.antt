use Rattle.std.proofs.Common.{◌+◌, ◌++◌, map, drop, string_bytes, ap, ◌∙◌, arith}
use Rattle.std.specs.Prelude.{slice_get}
use Rattle.std.proofs.lemmas.List.{length-map}
use Rattle.p4_parts.specs.PartsIn.{cells_decl}
use Rattle.report_writer.specs.Texts.{cells_of}
use Rattle.register_texts.specs.Rows.{register_cells, registers_cells}
use Rattle.register_texts.specs.Which.{is_one_of}
use Rattle.register_texts.proofs.Rows.{view_at, cells_more, cells_done, register_next, registers_past}
use Rattle.register_texts.proofs.cells.switch_text.Goals as goal

pub meant_text-requires : goal.meant_text-requires
meant_text-requires g c =
    ap (λ rs. slice_get rs c.loop-number.number) c.requires.registers
    ∙ view_at cells_decl c.args.registers.now c.loop-number.number c.index-registers-number.result (omega arith) c.index-registers-number.is

pub loop-number-preserved : goal.loop-number-preserved
loop-number-preserved g c =
    let P = is_one_of c.args.which in
    let n = c.args.name.now in
    let xs = map string_bytes c.args.names.now in
    let rs = map cells_decl c.args.registers.now in
    let cells = g.P.Pass.cells c.args.switch.now in
    let i = c.loop-number.number in
    let x = string_bytes c.index-names-number.result in
    let r = cells_decl c.index-registers-number.result in
    let piece = register_cells P n cells x r in
    let rest = registers_cells P n cells (drop (i + 1) xs) (drop (i + 1) rs) in
    let named = view_at string_bytes c.args.names.now i c.index-names-number.result (omega (arith, c.requires.names)) c.index-names-number.is in
    let there = view_at cells_decl c.args.registers.now i c.index-registers-number.result (omega arith) c.index-registers-number.is in
    let line = c.as_str.ensures.value ∙ c.in_ok-cells.ensures ∙ ap (λ y. cells_of (register_cells P n cells y r)) c.as_str-shown.ensures.value in
    ap (λ t. t ++ cells_of rest) c.in_ok-push_str.ensures.bytes
    ∙ cells_more (string_bytes c.loop-number.text) _ _ _ piece rest c.loop-number.invariant (register_next P n cells xs rs i x r named there) line

pub returns : goal.returns
returns g c =
    let xs = map string_bytes c.args.names.now in
    cells_done (string_bytes c.loop-number.text) _ _ c.loop-number.invariant (registers_past (is_one_of c.args.which) c.args.name.now (g.P.Pass.cells c.args.switch.now) xs (map cells_decl c.args.registers.now) c.loop-number.number (omega (arith, c.requires.names, length-map c.args.names.now string_bytes)))

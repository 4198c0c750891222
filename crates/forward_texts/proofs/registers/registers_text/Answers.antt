use Rattle.std.proofs.Common.{◌≡◌, ◌+◌, ◌++◌, map, drop, string_bytes, true, sym, ap, ap₂, ◌∙◌, arith}
use Rattle.p4_tree.specs.View.{program_of}
use Rattle.p4_meaning.specs.Parts.{parts_of}
use Rattle.p4_parts.specs.PartsIn.{cells_decl}
use Rattle.report_writer.specs.Texts.{cells_of}
use Rattle.p4_types.specs.Numbers.{names, registers}
use Rattle.register_texts.specs.Rows.{registers_cells}
use Rattle.forward_texts.specs.Rows.{switches_cells}
use Rattle.path_runner.specs.Switches.{switch_of}
use Rattle.register_texts.proofs.Named.{each_named}
use Rattle.register_texts.proofs.Rows.{view_at, cells_more, cells_done}
use Rattle.forward_texts.proofs.Rows.{switch_next, switches_past}
use Rattle.forward_texts.proofs.registers.registers_text.Goals as goal

pub switch_text-requires-clause-names : goal.switch_text-requires-clause-names
switch_text-requires-clause-names g c =
    each_named (program_of c.program.result.now) string_bytes cells_decl _ _ (ap (map string_bytes) c.deref.ensures.value ∙ c.in_ok-names.ensures ∙ ap (λ q. names registers (program_of q)) (c.program-2.ensures.same ∙ sym c.program.ensures.same)) (ap (map cells_decl) c.deref-in-loop-switch.ensures.value ∙ ap (λ q. q.registers) c.in_ok-parts.ensures)

pub switch_text-requires-clause-registers : goal.switch_text-requires-clause-registers
switch_text-requires-clause-registers g c =
    let i = c.loop-switch.switch in
    let x = c.index-switches-switch.result in
    let at = view_at (switch_of g.P.Pass.program g.P.Pass.tables g.P.Pass.cells) c.args.switches.now i x (omega arith) c.index-switches-switch.is in
    sym (ap (λ p. p.registers) (c.requires.programs i ((switch_of g.P.Pass.program g.P.Pass.tables g.P.Pass.cells) x) at))
    ∙ ap (λ q. (parts_of (program_of q)).registers) (sym c.program.ensures.same)
    ∙ sym (ap (λ p. p.registers) c.in_ok-parts.ensures)
    ∙ ap (map cells_decl) (sym c.deref-in-loop-switch.ensures.value)

pub loop-switch-preserved : goal.loop-switch-preserved
loop-switch-preserved g c = λ keeps are.
    let p = program_of c.args.program.now in
    let ns = c.args.network.now.names in
    let i = c.loop-switch.switch in
    let n = c.name-name.result.now in
    let x = c.index-switches-switch.result in
    let at = view_at (switch_of g.P.Pass.program g.P.Pass.tables g.P.Pass.cells) c.args.switches.now i x (omega arith) c.index-switches-switch.is in
    let piece = registers_cells (λ x. true) n (keeps i).registers (names registers p) (parts_of p).registers in
    let rest = switches_cells p keeps (i + 1) (drop (i + 1) ns) in
    let shown : map string_bytes c.deref.result.now ≡ names registers p = ap (map string_bytes) c.deref.ensures.value ∙ c.in_ok-names.ensures ∙ ap (λ q. names registers (program_of q)) c.program-2.ensures.same in
    let listed : map cells_decl c.deref-in-loop-switch.result.now ≡ (parts_of p).registers = ap (map cells_decl) c.deref-in-loop-switch.ensures.value ∙ ap (λ q. q.registers) c.in_ok-parts.ensures ∙ ap (λ q. (parts_of (program_of q)).registers) c.program.ensures.same in
    let line = c.as_str.ensures.value
    ∙ c.in_ok-cells.ensures
    ∙ ap₂ (λ xs rs. cells_of (registers_cells (λ x. true) n (g.P.Pass.cells x) xs rs)) shown listed
    ∙ ap (λ k. cells_of (registers_cells (λ x. true) n k (names registers p) (parts_of p).registers)) (sym (ap (λ k. k.registers) (are i ((switch_of g.P.Pass.program g.P.Pass.tables g.P.Pass.cells) x) at))) in
    ap (λ t. t ++ cells_of rest) c.in_ok-push_str.ensures.bytes
    ∙ cells_more (string_bytes c.loop-switch.text) _ _ _ piece rest (c.loop-switch.invariant keeps are) (switch_next p keeps ns i n c.name-name.ensures) line

pub returns : goal.returns
returns g c = λ keeps are.
    let ns = c.args.network.now.names in
    cells_done (string_bytes c.loop-switch.text) _ _ (c.loop-switch.invariant keeps are) (switches_past (program_of c.args.program.now) keeps ns c.loop-switch.switch (omega (arith, c.count-switch-end.ensures.count)))

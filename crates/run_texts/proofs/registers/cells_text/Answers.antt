use Rattle.std.proofs.Common.{map, string_bytes, sym, ap, ap₂, ◌∙◌}
use Rattle.p4_tree.specs.View.{program_of}
use Rattle.p4_meaning.specs.Parts.{parts_of}
use Rattle.p4_parts.specs.PartsIn.{cells_decl}
use Rattle.p4_types.specs.Numbers.{names, registers}
use Rattle.report_writer.specs.Texts.{cells_of}
use Rattle.register_texts.specs.Rows.{registers_cells}
use Rattle.register_texts.specs.Which.{is_one_of}
use Rattle.register_texts.specs.declared.which.Which.{Which}
use Rattle.register_texts.specs.declared.which.Which.TheVariants.{Forwarding, Sensors, Rejects}
use Rattle.register_texts.proofs.Named.{each_named}
use Rattle.run_texts.specs.Registers.{meant_cells}
use Rattle.run_texts.proofs.Switches.{three_groups}
use Rattle.run_texts.proofs.registers.cells_text.Goals as goal

pub switch_text-requires-clause-names : goal.switch_text-requires-clause-names
switch_text-requires-clause-names g c =
    let shown = ap (map string_bytes) c.as_slice-names.ensures.value ∙ c.in_ok-names.ensures ∙ ap (λ p. names registers (program_of p)) c.program-2.ensures.same in
    let listed = ap (map cells_decl) c.as_slice-registers.ensures.value ∙ ap (λ p. p.registers) c.in_ok-parts.ensures ∙ ap (λ p. (parts_of (program_of p)).registers) c.program.ensures.same in
    each_named (program_of c.args.program.now) string_bytes cells_decl _ _ shown listed

pub switch_text-requires-2-clause-names : goal.switch_text-requires-2-clause-names
switch_text-requires-2-clause-names g c =
    let shown = ap (map string_bytes) c.as_slice-names.ensures.value ∙ c.in_ok-names.ensures ∙ ap (λ p. names registers (program_of p)) c.program-2.ensures.same in
    let listed = ap (map cells_decl) c.as_slice-registers.ensures.value ∙ ap (λ p. p.registers) c.in_ok-parts.ensures ∙ ap (λ p. (parts_of (program_of p)).registers) c.program.ensures.same in
    each_named (program_of c.args.program.now) string_bytes cells_decl _ _ shown listed

pub switch_text-requires-3-clause-names : goal.switch_text-requires-3-clause-names
switch_text-requires-3-clause-names g c =
    let shown = ap (map string_bytes) c.as_slice-names.ensures.value ∙ c.in_ok-names.ensures ∙ ap (λ p. names registers (program_of p)) c.program-2.ensures.same in
    let listed = ap (map cells_decl) c.as_slice-registers.ensures.value ∙ ap (λ p. p.registers) c.in_ok-parts.ensures ∙ ap (λ p. (parts_of (program_of p)).registers) c.program.ensures.same in
    each_named (program_of c.args.program.now) string_bytes cells_decl _ _ shown listed

pub switch_text-requires-clause-registers : goal.switch_text-requires-clause-registers
switch_text-requires-clause-registers g c =
    let listed = ap (map cells_decl) c.as_slice-registers.ensures.value ∙ ap (λ p. p.registers) c.in_ok-parts.ensures ∙ ap (λ p. (parts_of (program_of p)).registers) c.program.ensures.same in
    ap (λ p. (parts_of p).registers) c.requires ∙ sym listed

pub switch_text-requires-2-clause-registers : goal.switch_text-requires-2-clause-registers
switch_text-requires-2-clause-registers g c =
    let listed = ap (map cells_decl) c.as_slice-registers.ensures.value ∙ ap (λ p. p.registers) c.in_ok-parts.ensures ∙ ap (λ p. (parts_of (program_of p)).registers) c.program.ensures.same in
    ap (λ p. (parts_of p).registers) c.requires ∙ sym listed

pub switch_text-requires-3-clause-registers : goal.switch_text-requires-3-clause-registers
switch_text-requires-3-clause-registers g c =
    let listed = ap (map cells_decl) c.as_slice-registers.ensures.value ∙ ap (λ p. p.registers) c.in_ok-parts.ensures ∙ ap (λ p. (parts_of (program_of p)).registers) c.program.ensures.same in
    ap (λ p. (parts_of p).registers) c.requires ∙ sym listed

pub returns : goal.returns
returns g c =
    let q = program_of c.args.program.now in
    let n = c.args.name.now in
    let cells = g.P.Pass.cells c.args.switch.now in
    let shown = ap (map string_bytes) c.as_slice-names.ensures.value ∙ c.in_ok-names.ensures ∙ ap (λ p. names registers (program_of p)) c.program-2.ensures.same in
    let listed = ap (map cells_decl) c.as_slice-registers.ensures.value ∙ ap (λ p. p.registers) c.in_ok-parts.ensures ∙ ap (λ p. (parts_of (program_of p)).registers) c.program.ensures.same in
    let group = λ (which : Which). ap₂ (λ xs rs. cells_of (registers_cells (is_one_of which) n cells xs rs)) shown listed in
    three_groups _ _ _ _ _ (meant_cells Forwarding q n cells) (meant_cells Sensors q n cells) (meant_cells Rejects q n cells)
    (c.in_ok-text.ensures ∙ group Forwarding)
    (c.as_str.ensures.value ∙ c.in_ok-sensors.ensures ∙ group Sensors)
    (c.as_str-2.ensures.value ∙ c.in_ok-rejects.ensures ∙ group Rejects)
    c.in_ok-push_str.ensures.bytes
    c.in_ok-push_str-2.ensures.bytes

use Rattle.std.proofs.Common.{◌%◌, map, sym, ap, ◌∙◌}
use Rattle.p4_tree.specs.View.{program_of}
use Rattle.p4_meaning.specs.Parts.{parts_of}
use Rattle.p4_parts.specs.PartsIn.{cells_decl}
use Rattle.monitor_laws.specs.Names.{rejects_register}
use Rattle.register_texts.specs.Rows.{first_cell}
use Rattle.run_texts.proofs.counts.rejected_by.Goals as goal

pub first_cell-requires : goal.first_cell-requires
first_cell-requires g c =
    let listed = ap (map cells_decl) c.as_slice-registers.ensures.value ∙ ap (λ p. p.registers) c.in_ok-parts.ensures ∙ ap (λ p. (parts_of (program_of p)).registers) c.program.ensures.same in
    ap (λ p. (parts_of p).registers) c.requires ∙ sym listed

pub returns-clause-value : goal.returns-clause-value
returns-clause-value g c =
    let cells = g.P.Pass.cells c.args.switch.now in
    let listed = ap (map cells_decl) c.as_slice-registers.ensures.value ∙ ap (λ p. p.registers) c.in_ok-parts.ensures ∙ ap (λ p. (parts_of (program_of p)).registers) c.program.ensures.same in
    ap (λ n. n % 4294967296) (c.in_ok-count.ensures ∙ ap (λ rs. first_cell rs cells rejects_register) listed)

use Rattle.std.proofs.Common.{◌+◌, ◌≤◌, ◌++◌, length, map, drop, string_bytes, sym, ap, ◌∙◌, arith}
use Rattle.std.proofs.lemmas.List.{length-map}
use Rattle.p4_tree.specs.View.{program_of}
use Rattle.report_writer.specs.Texts.{cells_of}
use Rattle.path_runner.specs.Switches.{switch_of}
use Rattle.register_texts.proofs.Rows.{view_at, cells_more, cells_done}
use Rattle.run_texts.specs.Registers.{switch_cells, switches_cells}
use Rattle.run_texts.proofs.Switches.{as_many, runs_at, switch_next, switches_past}
use Rattle.run_texts.proofs.registers.registers_text.Goals as goal

pub cells_text-requires : goal.cells_text-requires
cells_text-requires g c =
    runs_at (switch_of g.P.Pass.program g.P.Pass.tables g.P.Pass.cells) program_of c.args.switches.now c.args.programs.now c.requires.programs c.loop-switch.switch
    c.index-switches-at.result c.index-programs-at.result (omega arith) c.index-switches-at.is c.index-programs-at.is

pub loop-switch-preserved : goal.loop-switch-preserved
loop-switch-preserved g c = λ keeps are.
    let qs = map program_of c.args.programs.now in
    let ns = c.args.network.now.names in
    let i = c.loop-switch.switch in
    let n = c.name-name.result.now in
    let x = c.index-switches-at.result in
    let q = c.index-programs-at.result in
    let many = as_many (switch_of g.P.Pass.program g.P.Pass.tables g.P.Pass.cells) program_of c.args.switches.now c.args.programs.now c.requires.programs in
    let at = view_at (switch_of g.P.Pass.program g.P.Pass.tables g.P.Pass.cells) c.args.switches.now i x (omega arith) c.index-switches-at.is in
    let here = view_at program_of c.args.programs.now i q (omega (arith, many)) c.index-programs-at.is in
    let piece = switch_cells (program_of q) n (keeps i).registers in
    let rest = switches_cells (drop (i + 1) qs) keeps (i + 1) (drop (i + 1) ns) in
    let line = c.as_str.ensures.value ∙ c.in_ok-cells.ensures ∙ ap (λ k. cells_of (switch_cells (program_of q) n k)) (sym (ap (λ k. k.registers) (are i ((switch_of g.P.Pass.program g.P.Pass.tables g.P.Pass.cells) x) at))) in
    ap (λ t. t ++ cells_of rest) c.in_ok-push_str.ensures.bytes
    ∙ cells_more (string_bytes c.loop-switch.text) _ _ _ piece rest (c.loop-switch.invariant keeps are) (switch_next qs keeps i ns (program_of q) n here c.name-name.ensures) line

pub returns : goal.returns
returns g c = λ keeps are.
    let qs = map program_of c.args.programs.now in
    let ns = c.args.network.now.names in
    let many = as_many (switch_of g.P.Pass.program g.P.Pass.tables g.P.Pass.cells) program_of c.args.switches.now c.args.programs.now c.requires.programs in
    let past : length qs ≤ c.loop-switch.switch = omega (arith, many, length-map c.args.programs.now program_of, c.requires.count, c.count-switch-end.ensures.count) in
    cells_done (string_bytes c.loop-switch.text) _ _ (c.loop-switch.invariant keeps are) (switches_past qs keeps c.loop-switch.switch ns past)

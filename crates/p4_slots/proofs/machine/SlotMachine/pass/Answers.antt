use Rattle.std.proofs.Common.{◌≡◌, ◌++◌, ℕ, List, map, drop, ◌%◌, Option, Some, None, ap, ◌∙◌}
use Rattle.bit_values.specs.Bytes.{bits_of}
use Rattle.p4_tree.specs.View.{program_of}
use Rattle.p4_tree.specs.declared.program.Program.{Program}
use Rattle.p4_meaning.specs.Statements.{Digest}
use Rattle.p4_meaning.specs.Parts.{parts_of}
use Rattle.p4_meaning.specs.Pass.{Queued}
use Rattle.p4_tables.specs.Named.{tables_in}
use Rattle.p4_passages.proofs.HalvesLemmas.{rest_bits}
use Rattle.p4_machine.specs.Passages.{Passage, entry_in, exit_from}
use Rattle.p4_machine.specs.Buffers.{goes_out}
use Rattle.p4_statements.specs.Runs.{digest_of}
use Rattle.slot_terms.specs.States.{state_of}
use Rattle.slot_controls.specs.Steps.{slot_run}
use Rattle.slot_passages.specs.Halves.{SlotLeft, entered_of}
use Rattle.p4_slots.specs.SlotPlaces.{queued_by}
use Rattle.p4_slots.specs.Machines.{MachineState, machine_of, cells_by, cells_of}
use Rattle.p4_slots.specs.declared.plan.SlotPlan.{SlotPlan}
use Rattle.p4_slots.proofs.MachineLemmas.{left_by, cells_after, entered_by, entered_at, passage_is}
use Rattle.p4_slots.proofs.machine.SlotMachine.pass.Goals as goal

pub returns-in-None-clause-cells : goal.returns-in-None-clause-cells
returns-in-None-clause-cells c =
    let x = c.as_ref-plan.result.now in
    let n = c.args.self.now in
    let entry = entry_in (program_of n.program) n.tables (cells_of n) c.args.port c.args.frame.now in
    let e = entered_by x (machine_of c.self.inside) n (entered_of c.go_in-at.result (slot_run c.go_in-at.new.s c.go_in-at.new.x) c.args.frame.now) c.args.port c.args.frame.now (ap (λ (z : SlotPlan). z.program) c.as_ref-plan.ensures) c.self.view_is c.go_in-at.ensures.enters in
    let at = entered_at n c.go_in-at.result None (slot_run c.go_in-at.new.s c.go_in-at.new.x) c.args.port c.args.frame.now c.in-None.is e in
    ap (λ (p : Program). cells_by p c.go_in-at.new.x.registers.items) (ap (λ (z : MachineState). z.program) c.self.view_is) ∙ cells_after n.program c.go_in-at.new.x.registers.items _ e.cells
    ∙ ap (λ (o : Option Queued). (exit_from (parts_of (program_of n.program)) (tables_in (parts_of (program_of n.program)) n.tables) entry.registers entry.digests o).registers) at.queued

pub returns-in-Some-clause-cells : goal.returns-in-Some-clause-cells
returns-in-Some-clause-cells c =
    let x = c.as_ref-plan.result.now in
    let n = c.args.self.now in
    let entry = entry_in (program_of n.program) n.tables (cells_of n) c.args.port c.args.frame.now in
    let e = entered_by x (machine_of c.self.inside) n (entered_of c.go_in-at.result (slot_run c.go_in-at.new.s c.go_in-at.new.x) c.args.frame.now) c.args.port c.args.frame.now (ap (λ (z : SlotPlan). z.program) c.as_ref-plan.ensures) c.self.view_is c.go_in-at.ensures.enters in
    let at = entered_at n c.go_in-at.result (Some c.in-Some.at) (slot_run c.go_in-at.new.s c.go_in-at.new.x) c.args.port c.args.frame.now c.in-Some.is e in
    let cells = c.go_in-at.new.x.registers.items in
    let s = state_of c.go_in-at.new.s in
    let rest = drop (c.in-Some.at % 8) (bits_of c.bytes_from-rest.result.now) in
    let l = left_by x (record (machine_of c.self.inside) { registers = cells }) (record n { registers = cells }) (let y : SlotLeft = record { run = slot_run c.go_out-passed.new.s c.go_out-passed.new.x; going = goes_out c.go_out-passed.result c.go_out-passed.new.buf.frame } in y) s rest (ap (λ (z : SlotPlan). z.program) c.as_ref-plan.ensures) (ap (λ (z : MachineState). (let y : MachineState = record z { registers = cells } in y)) c.self.view_is) c.go_out-passed.ensures.leaves in
    let queued : Some (queued_by n.program s rest) ≡ entry.queued = ap (λ (z : List ℕ). Some (queued_by n.program s (drop (c.in-Some.at % 8) (bits_of z)))) c.bytes_from-rest.ensures ∙ ap (λ (z : List ℕ). Some (queued_by n.program s z)) (rest_bits c.args.frame.now c.in-Some.at) ∙ at.queued in
    let whole = passage_is n.program n.tables (cells_of n) c.args.port c.args.frame.now cells s rest e.cells queued in
    ap (λ (p : Program). cells_by p c.go_out-passed.new.x.registers.items) (ap (λ (z : MachineState). z.program) c.self.view_is) ∙ cells_after n.program c.go_out-passed.new.x.registers.items _ l.cells
    ∙ ap (λ (z : Passage). z.registers) whole

pub returns-in-Some-clause-out : goal.returns-in-Some-clause-out
returns-in-Some-clause-out c =
    let x = c.as_ref-plan.result.now in
    let n = c.args.self.now in
    let entry = entry_in (program_of n.program) n.tables (cells_of n) c.args.port c.args.frame.now in
    let e = entered_by x (machine_of c.self.inside) n (entered_of c.go_in-at.result (slot_run c.go_in-at.new.s c.go_in-at.new.x) c.args.frame.now) c.args.port c.args.frame.now (ap (λ (z : SlotPlan). z.program) c.as_ref-plan.ensures) c.self.view_is c.go_in-at.ensures.enters in
    let at = entered_at n c.go_in-at.result (Some c.in-Some.at) (slot_run c.go_in-at.new.s c.go_in-at.new.x) c.args.port c.args.frame.now c.in-Some.is e in
    let cells = c.go_in-at.new.x.registers.items in
    let s = state_of c.go_in-at.new.s in
    let rest = drop (c.in-Some.at % 8) (bits_of c.bytes_from-rest.result.now) in
    let l = left_by x (record (machine_of c.self.inside) { registers = cells }) (record n { registers = cells }) (let y : SlotLeft = record { run = slot_run c.go_out-passed.new.s c.go_out-passed.new.x; going = goes_out c.go_out-passed.result c.go_out-passed.new.buf.frame } in y) s rest (ap (λ (z : SlotPlan). z.program) c.as_ref-plan.ensures) (ap (λ (z : MachineState). (let y : MachineState = record z { registers = cells } in y)) c.self.view_is) c.go_out-passed.ensures.leaves in
    let queued : Some (queued_by n.program s rest) ≡ entry.queued = ap (λ (z : List ℕ). Some (queued_by n.program s (drop (c.in-Some.at % 8) (bits_of z)))) c.bytes_from-rest.ensures ∙ ap (λ (z : List ℕ). Some (queued_by n.program s z)) (rest_bits c.args.frame.now c.in-Some.at) ∙ at.queued in
    let whole = passage_is n.program n.tables (cells_of n) c.args.port c.args.frame.now cells s rest e.cells queued in
    ap (goes_out c.go_out-passed.result) c.add_digests-in-Some.ensures.frame ∙ l.going ∙ ap (λ (z : Passage). z.out) whole

pub returns-in-Some-clause-digests : goal.returns-in-Some-clause-digests
returns-in-Some-clause-digests c =
    let x = c.as_ref-plan.result.now in
    let n = c.args.self.now in
    let entry = entry_in (program_of n.program) n.tables (cells_of n) c.args.port c.args.frame.now in
    let e = entered_by x (machine_of c.self.inside) n (entered_of c.go_in-at.result (slot_run c.go_in-at.new.s c.go_in-at.new.x) c.args.frame.now) c.args.port c.args.frame.now (ap (λ (z : SlotPlan). z.program) c.as_ref-plan.ensures) c.self.view_is c.go_in-at.ensures.enters in
    let at = entered_at n c.go_in-at.result (Some c.in-Some.at) (slot_run c.go_in-at.new.s c.go_in-at.new.x) c.args.port c.args.frame.now c.in-Some.is e in
    let cells = c.go_in-at.new.x.registers.items in
    let s = state_of c.go_in-at.new.s in
    let rest = drop (c.in-Some.at % 8) (bits_of c.bytes_from-rest.result.now) in
    let l = left_by x (record (machine_of c.self.inside) { registers = cells }) (record n { registers = cells }) (let y : SlotLeft = record { run = slot_run c.go_out-passed.new.s c.go_out-passed.new.x; going = goes_out c.go_out-passed.result c.go_out-passed.new.buf.frame } in y) s rest (ap (λ (z : SlotPlan). z.program) c.as_ref-plan.ensures) (ap (λ (z : MachineState). (let y : MachineState = record z { registers = cells } in y)) c.self.view_is) c.go_out-passed.ensures.leaves in
    let queued : Some (queued_by n.program s rest) ≡ entry.queued = ap (λ (z : List ℕ). Some (queued_by n.program s (drop (c.in-Some.at % 8) (bits_of z)))) c.bytes_from-rest.ensures ∙ ap (λ (z : List ℕ). Some (queued_by n.program s z)) (rest_bits c.args.frame.now c.in-Some.at) ∙ at.queued in
    let whole = passage_is n.program n.tables (cells_of n) c.args.port c.args.frame.now cells s rest e.cells queued in
    c.add_digests-in-Some.ensures.digests
    ∙ ap (λ (d : List Digest). d ++ map digest_of c.go_out-passed.new.x.digests.items) (c.go_out-passed.ensures.digests ∙ c.add_digests.ensures.digests ∙ ap (λ (d : List Digest). d ++ map digest_of c.go_in-at.new.x.digests.items) c.clear.ensures.digests ∙ e.digests)
    ∙ ap (λ (d : List Digest). entry.digests ++ d) l.digests ∙ ap (λ (z : Passage). z.digests) whole

use Rattle.std.proofs.Common.{◌≡◌, ◌++◌, List, [], length, map, drop, Option, refl, sym, ap, ◌∙◌, subst, arith}
use Rattle.bit_values.specs.Bytes.{bits_of}
use Rattle.p4_tree.specs.View.{program_of}
use Rattle.p4_tree.specs.declared.program.Program.{Program}
use Rattle.p4_meaning.specs.Statements.{Digest}
use Rattle.p4_meaning.specs.Pass.{Queued}
use Rattle.p4_machine.specs.Passages.{exit_in}
use Rattle.p4_machine.specs.Buffers.{IsMadeFor, goes_out}
use Rattle.p4_statements.specs.Runs.{digest_of}
use Rattle.slot_terms.specs.States.{state_of}
use Rattle.slot_controls.specs.Steps.{slot_run}
use Rattle.slot_passages.specs.Halves.{SlotLeft}
use Rattle.p4_slots.specs.Machines.{MachineState, machine_of, cells_by, cells_of}
use Rattle.p4_slots.specs.declared.plan.SlotPlan.{SlotPlan}
use Rattle.p4_slots.proofs.SlotLemmas.{ready_after}
use Rattle.p4_slots.proofs.PlaceLemmas.{size_along, size_back, stored_back}
use Rattle.p4_slots.proofs.MachineLemmas.{lent_plan, lent_tables, lent_ready, left_by, waits, none_waits, cells_after, most_is, bytes_are, size_in, size_out, stored_in}
use Rattle.p4_slots.proofs.machine.SlotMachine.leave.Goals as goal

pub release-requires-clause-size : goal.release-requires-clause-size
release-requires-clause-size c =
    let n = c.args.self.now in
    size_along (program_of n.program) (program_of c.args.q.now.program) c.requires.place (state_of c.self.inside.state) (size_out n (machine_of c.self.inside) (state_of c.self.inside.state) c.self.view_is c.self.invariant.ready.size)

pub go_out-passed-requires-clause-plan : goal.go_out-passed-requires-clause-plan
go_out-passed-requires-clause-plan c = lent_plan c.as_ref-plan.result.now c.self.inside.plan.value c.as_ref-plan.ensures c.self.invariant.plan

pub go_out-passed-requires-clause-tables : goal.go_out-passed-requires-clause-tables
go_out-passed-requires-clause-tables c = lent_tables c.as_ref-plan.result.now c.self.inside.plan.value c.self.inside.tables c.as_ref-plan.ensures c.self.invariant.tables

pub go_out-passed-requires-clause-ready : goal.go_out-passed-requires-clause-ready
go_out-passed-requires-clause-ready c =
    let n = c.args.self.now in
    lent_ready c.as_ref-plan.result.now c.self.inside.plan.value c.self.inside.work c.release.new.state c.self.inside.externs c.as_ref-plan.ensures
    (ready_after c.self.inside.plan.value c.self.inside.work c.self.inside.work c.self.inside.state c.release.new.state c.self.inside.externs c.self.inside.externs c.self.invariant.ready refl refl (size_in n (machine_of c.self.inside) (state_of c.release.new.state) c.self.view_is (size_back (program_of n.program) (program_of c.args.q.now.program) c.requires.place (state_of c.release.new.state) c.release.ensures.size)) c.self.invariant.ready.cells c.self.invariant.ready.none refl)

pub go_out-passed-requires-clause-stored : goal.go_out-passed-requires-clause-stored
go_out-passed-requires-clause-stored c =
    let x = c.as_ref-plan.result.now in
    let n = c.args.self.now in
    let own : x.program ≡ n.program = ap (λ (z : SlotPlan). z.program) c.as_ref-plan.ensures ∙ ap (λ (z : MachineState). z.program) c.self.view_is in
    stored_in n.program x.program (state_of c.release.new.state) own (stored_back (program_of n.program) (program_of c.args.q.now.program) c.requires.place (state_of c.release.new.state) c.release.ensures.stored)

pub go_out-passed-requires-clause-bytes : goal.go_out-passed-requires-clause-bytes
go_out-passed-requires-clause-bytes c = omega (arith, c.self.invariant.frame, c.self.inside.frame.ok.0, ap (λ (z : SlotPlan). z.header_bytes) c.as_ref-plan.ensures)

pub go_out-passed-requires-clause-fits : goal.go_out-passed-requires-clause-fits
go_out-passed-requires-clause-fits c =
    let x = c.as_ref-plan.result.now in
    let n = c.args.self.now in
    let own : x.program ≡ n.program = ap (λ (z : SlotPlan). z.program) c.as_ref-plan.ensures ∙ ap (λ (z : MachineState). z.program) c.self.view_is in
    bytes_are x n.program c.clear.new.self.needs (lent_plan x c.self.inside.plan.value c.as_ref-plan.ensures c.self.invariant.plan) own (subst (IsMadeFor (program_of n.program)) (sym c.clear.ensures.needs) c.requires.buffer)

pub add_digests-requires : goal.add_digests-requires
add_digests-requires c =
    let x = c.as_ref-plan.result.now in
    let n = c.args.self.now in
    let own : x.program ≡ n.program = ap (λ (z : SlotPlan). z.program) c.as_ref-plan.ensures ∙ ap (λ (z : MachineState). z.program) c.self.view_is in
    let is = lent_plan x c.self.inside.plan.value c.as_ref-plan.ensures c.self.invariant.plan in
    omega (arith, ap (λ (d : List Digest). length d) (c.go_out-passed.ensures.digests ∙ c.clear.ensures.digests), c.go_out-passed.new.x.digests.ok.0, c.go_out-passed.ensures.told, is.fits.digests, most_is x n.program c.go_out-passed.new.buf.needs is own (subst (IsMadeFor (program_of n.program)) (sym (c.go_out-passed.ensures.needs ∙ c.clear.ensures.needs)) c.requires.buffer))

pub returns-then-full-clause-cells : goal.returns-then-full-clause-cells
returns-then-full-clause-cells c =
    let x = c.as_ref-plan.result.now in
    let n = c.args.self.now in
    let own : x.program ≡ n.program = ap (λ (z : SlotPlan). z.program) c.as_ref-plan.ensures ∙ ap (λ (z : MachineState). z.program) c.self.view_is in
    let l = left_by x (machine_of c.self.inside) n (let y : SlotLeft = record { run = slot_run c.go_out-passed.new.s c.go_out-passed.new.x; going = goes_out c.go_out-passed.result c.go_out-passed.new.buf.frame } in y) (state_of c.release.new.state) (drop c.skip.result (bits_of c.rest.result.now)) (ap (λ (z : SlotPlan). z.program) c.as_ref-plan.ensures) c.self.view_is c.go_out-passed.ensures.leaves in
    let w = waits n.program c.args.q.now (state_of c.release.new.state) c.rest.result.now c.skip.result c.requires.place (let a = c.full.ensures in let b = c.if-full.true in cc) c.release.ensures.state (c.rest.ensures.rest ∙ c.release.ensures.rest) (c.skip.ensures.skip ∙ c.release.ensures.skip) in
    ap (λ (p : Program). cells_by p c.go_out-passed.new.x.registers.items) (ap (λ (z : MachineState). z.program) c.self.view_is) ∙ cells_after n.program c.go_out-passed.new.x.registers.items _ l.cells
    ∙ ap (λ (o : Option Queued). (exit_in (program_of n.program) n.tables (cells_of n) [] o).registers) w

pub returns-then-full-clause-out : goal.returns-then-full-clause-out
returns-then-full-clause-out c =
    let x = c.as_ref-plan.result.now in
    let n = c.args.self.now in
    let own : x.program ≡ n.program = ap (λ (z : SlotPlan). z.program) c.as_ref-plan.ensures ∙ ap (λ (z : MachineState). z.program) c.self.view_is in
    let l = left_by x (machine_of c.self.inside) n (let y : SlotLeft = record { run = slot_run c.go_out-passed.new.s c.go_out-passed.new.x; going = goes_out c.go_out-passed.result c.go_out-passed.new.buf.frame } in y) (state_of c.release.new.state) (drop c.skip.result (bits_of c.rest.result.now)) (ap (λ (z : SlotPlan). z.program) c.as_ref-plan.ensures) c.self.view_is c.go_out-passed.ensures.leaves in
    let w = waits n.program c.args.q.now (state_of c.release.new.state) c.rest.result.now c.skip.result c.requires.place (let a = c.full.ensures in let b = c.if-full.true in cc) c.release.ensures.state (c.rest.ensures.rest ∙ c.release.ensures.rest) (c.skip.ensures.skip ∙ c.release.ensures.skip) in
    ap (goes_out c.go_out-passed.result) c.add_digests.ensures.frame ∙ l.going ∙ ap (λ (o : Option Queued). (exit_in (program_of n.program) n.tables (cells_of n) [] o).out) w

pub returns-then-full-clause-digests : goal.returns-then-full-clause-digests
returns-then-full-clause-digests c =
    let x = c.as_ref-plan.result.now in
    let n = c.args.self.now in
    let own : x.program ≡ n.program = ap (λ (z : SlotPlan). z.program) c.as_ref-plan.ensures ∙ ap (λ (z : MachineState). z.program) c.self.view_is in
    let l = left_by x (machine_of c.self.inside) n (let y : SlotLeft = record { run = slot_run c.go_out-passed.new.s c.go_out-passed.new.x; going = goes_out c.go_out-passed.result c.go_out-passed.new.buf.frame } in y) (state_of c.release.new.state) (drop c.skip.result (bits_of c.rest.result.now)) (ap (λ (z : SlotPlan). z.program) c.as_ref-plan.ensures) c.self.view_is c.go_out-passed.ensures.leaves in
    let w = waits n.program c.args.q.now (state_of c.release.new.state) c.rest.result.now c.skip.result c.requires.place (let a = c.full.ensures in let b = c.if-full.true in cc) c.release.ensures.state (c.rest.ensures.rest ∙ c.release.ensures.rest) (c.skip.ensures.skip ∙ c.release.ensures.skip) in
    c.add_digests.ensures.digests ∙ ap (λ (d : List Digest). d ++ map digest_of c.go_out-passed.new.x.digests.items) (c.go_out-passed.ensures.digests ∙ c.clear.ensures.digests) ∙ l.digests
    ∙ ap (λ (o : Option Queued). (exit_in (program_of n.program) n.tables (cells_of n) [] o).digests) w

pub returns-else-full-clause-cells : goal.returns-else-full-clause-cells
returns-else-full-clause-cells c = ap (λ (o : Option Queued). (exit_in (program_of c.args.self.now.program) c.args.self.now.tables (cells_of c.args.self.now) [] o).registers) (none_waits c.args.q.now (let a = c.full.ensures in let b = c.if-full.false in cc))

pub returns-else-full-clause-out : goal.returns-else-full-clause-out
returns-else-full-clause-out c = ap (λ (o : Option Queued). (exit_in (program_of c.args.self.now.program) c.args.self.now.tables (cells_of c.args.self.now) [] o).out) (none_waits c.args.q.now (let a = c.full.ensures in let b = c.if-full.false in cc))

pub returns-else-full-clause-digests : goal.returns-else-full-clause-digests
returns-else-full-clause-digests c = c.clear.ensures.digests ∙ ap (λ (o : Option Queued). (exit_in (program_of c.args.self.now.program) c.args.self.now.tables (cells_of c.args.self.now) [] o).digests) (none_waits c.args.q.now (let a = c.full.ensures in let b = c.if-full.false in cc))

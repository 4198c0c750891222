use Rattle.std.proofs.Common.{◌≡◌, ◌++◌, List, length, map, Some, None, sym, ap, ◌∙◌, subst, arith}
use Rattle.p4_tree.specs.View.{program_of}
use Rattle.p4_tree.specs.declared.program.Program.{Program}
use Rattle.p4_meaning.specs.Statements.{Digest}
use Rattle.p4_machine.specs.Buffers.{IsMadeFor}
use Rattle.p4_statements.specs.Runs.{digest_of}
use Rattle.slot_terms.specs.States.{state_of}
use Rattle.slot_controls.specs.Steps.{slot_run}
use Rattle.slot_passages.specs.Halves.{entered_of}
use Rattle.p4_slots.specs.Machines.{MachineState, machine_of, cells_by}
use Rattle.p4_slots.specs.declared.plan.SlotPlan.{SlotPlan}
use Rattle.p4_slots.proofs.SlotLemmas.{ready_after}
use Rattle.p4_slots.proofs.PlaceLemmas.{size_along, size_back, stored_along}
use Rattle.p4_slots.proofs.MachineLemmas.{lent_plan, lent_tables, lent_ready, entered_by, entered_at, cells_after, held, most_is, size_in, wide_in}
use Rattle.p4_slots.proofs.machine.SlotMachine.enter.Goals as goal

pub go_in-at-requires-clause-plan : goal.go_in-at-requires-clause-plan
go_in-at-requires-clause-plan c = lent_plan c.as_ref-plan.result.now c.self.inside.plan.value c.as_ref-plan.ensures c.self.invariant.plan

pub go_in-at-requires-clause-tables : goal.go_in-at-requires-clause-tables
go_in-at-requires-clause-tables c = lent_tables c.as_ref-plan.result.now c.self.inside.plan.value c.self.inside.tables c.as_ref-plan.ensures c.self.invariant.tables

pub go_in-at-requires-clause-ready : goal.go_in-at-requires-clause-ready
go_in-at-requires-clause-ready c = lent_ready c.as_ref-plan.result.now c.self.inside.plan.value c.self.inside.work c.self.inside.state c.self.inside.externs c.as_ref-plan.ensures c.self.invariant.ready

pub add_digests-requires : goal.add_digests-requires
add_digests-requires c =
    let x = c.as_ref-plan.result.now in
    let n = c.args.self.now in
    let own : x.program ≡ n.program = ap (λ (z : SlotPlan). z.program) c.as_ref-plan.ensures ∙ ap (λ (z : MachineState). z.program) c.self.view_is in
    let is = lent_plan x c.self.inside.plan.value c.as_ref-plan.ensures c.self.invariant.plan in
    omega (arith, ap (λ (l : List Digest). length l) c.clear.ensures.digests, c.go_in-at.new.x.digests.ok.0, c.go_in-at.ensures.told, is.fits.digests, most_is x n.program c.clear.new.self.needs is own (subst (IsMadeFor (program_of n.program)) (sym c.clear.ensures.needs) c.requires.buffer))

pub hold-requires-clause-size : goal.hold-requires-clause-size
hold-requires-clause-size c =
    let x = c.as_ref-plan.result.now in
    let n = c.args.self.now in
    let own : x.program ≡ n.program = ap (λ (z : SlotPlan). z.program) c.as_ref-plan.ensures ∙ ap (λ (z : MachineState). z.program) c.self.view_is in
    let e = entered_by x (machine_of c.self.inside) n (entered_of c.go_in-at.result (slot_run c.go_in-at.new.s c.go_in-at.new.x) c.args.frame.now) c.args.port c.args.frame.now (ap (λ (z : SlotPlan). z.program) c.as_ref-plan.ensures) c.self.view_is c.go_in-at.ensures.enters in
    size_along (program_of n.program) (program_of c.args.q.now.program) c.requires.place (state_of c.go_in-at.new.s) e.size

pub hold-requires-clause-stored : goal.hold-requires-clause-stored
hold-requires-clause-stored c =
    let x = c.as_ref-plan.result.now in
    let n = c.args.self.now in
    let own : x.program ≡ n.program = ap (λ (z : SlotPlan). z.program) c.as_ref-plan.ensures ∙ ap (λ (z : MachineState). z.program) c.self.view_is in
    let e = entered_by x (machine_of c.self.inside) n (entered_of c.go_in-at.result (slot_run c.go_in-at.new.s c.go_in-at.new.x) c.args.frame.now) c.args.port c.args.frame.now (ap (λ (z : SlotPlan). z.program) c.as_ref-plan.ensures) c.self.view_is c.go_in-at.ensures.enters in
    let at = entered_at n c.go_in-at.result (Some c.in-Some.at) (slot_run c.go_in-at.new.s c.go_in-at.new.x) c.args.port c.args.frame.now c.in-Some.is e in
    stored_along (program_of n.program) (program_of c.args.q.now.program) c.requires.place (state_of c.go_in-at.new.s) at.stored

pub invariant_of-self : goal.invariant_of-self
invariant_of-self c =
    let x = c.as_ref-plan.result.now in
    let n = c.args.self.now in
    let own : x.program ≡ n.program = ap (λ (z : SlotPlan). z.program) c.as_ref-plan.ensures ∙ ap (λ (z : MachineState). z.program) c.self.view_is in
    let e = entered_by x (machine_of c.self.inside) n (entered_of c.go_in-at.result (slot_run c.go_in-at.new.s c.go_in-at.new.x) c.args.frame.now) c.args.port c.args.frame.now (ap (λ (z : SlotPlan). z.program) c.as_ref-plan.ensures) c.self.view_is c.go_in-at.ensures.enters in
    record {
      plan = c.self.invariant.plan;
      tables = c.self.invariant.tables;
      ready = ready_after c.self.inside.plan.value c.self.inside.work c.go_in-at.new.w c.self.inside.state c.hold.new.state c.self.inside.externs _ c.self.invariant.ready c.go_in-at.ensures.passed c.go_in-at.ensures.keys
          (size_in n (machine_of c.self.inside) (state_of c.hold.new.state) c.self.view_is (size_back (program_of n.program) (program_of c.args.q.now.program) c.requires.place (state_of c.hold.new.state) c.hold.ensures.size))
          (wide_in n (machine_of c.self.inside) _ c.self.view_is e.cells.wide) c.add_digests.ensures.taken (c.add_digests.ensures.room ∙ c.go_in-at.ensures.room);
      frame = c.self.invariant.frame;
    }

pub invariant_of-self-in-None : goal.invariant_of-self-in-None
invariant_of-self-in-None c =
    let x = c.as_ref-plan.result.now in
    let n = c.args.self.now in
    let own : x.program ≡ n.program = ap (λ (z : SlotPlan). z.program) c.as_ref-plan.ensures ∙ ap (λ (z : MachineState). z.program) c.self.view_is in
    let e = entered_by x (machine_of c.self.inside) n (entered_of c.go_in-at.result (slot_run c.go_in-at.new.s c.go_in-at.new.x) c.args.frame.now) c.args.port c.args.frame.now (ap (λ (z : SlotPlan). z.program) c.as_ref-plan.ensures) c.self.view_is c.go_in-at.ensures.enters in
    record {
      plan = c.self.invariant.plan;
      tables = c.self.invariant.tables;
      ready = ready_after c.self.inside.plan.value c.self.inside.work c.go_in-at.new.w c.self.inside.state c.go_in-at.new.s c.self.inside.externs _ c.self.invariant.ready c.go_in-at.ensures.passed c.go_in-at.ensures.keys
          (size_in n (machine_of c.self.inside) (state_of c.go_in-at.new.s) c.self.view_is e.size)
          (wide_in n (machine_of c.self.inside) _ c.self.view_is e.cells.wide) c.add_digests.ensures.taken (c.add_digests.ensures.room ∙ c.go_in-at.ensures.room);
      frame = c.self.invariant.frame;
    }

pub returns-in-Some-clause-cells : goal.returns-in-Some-clause-cells
returns-in-Some-clause-cells c =
    let x = c.as_ref-plan.result.now in
    let n = c.args.self.now in
    let own : x.program ≡ n.program = ap (λ (z : SlotPlan). z.program) c.as_ref-plan.ensures ∙ ap (λ (z : MachineState). z.program) c.self.view_is in
    let e = entered_by x (machine_of c.self.inside) n (entered_of c.go_in-at.result (slot_run c.go_in-at.new.s c.go_in-at.new.x) c.args.frame.now) c.args.port c.args.frame.now (ap (λ (z : SlotPlan). z.program) c.as_ref-plan.ensures) c.self.view_is c.go_in-at.ensures.enters in
    ap (λ (p : Program). cells_by p c.go_in-at.new.x.registers.items) (ap (λ (z : MachineState). z.program) c.self.view_is) ∙ cells_after n.program c.go_in-at.new.x.registers.items _ e.cells

pub returns-in-Some-clause-digests : goal.returns-in-Some-clause-digests
returns-in-Some-clause-digests c =
    let x = c.as_ref-plan.result.now in
    let n = c.args.self.now in
    let own : x.program ≡ n.program = ap (λ (z : SlotPlan). z.program) c.as_ref-plan.ensures ∙ ap (λ (z : MachineState). z.program) c.self.view_is in
    let e = entered_by x (machine_of c.self.inside) n (entered_of c.go_in-at.result (slot_run c.go_in-at.new.s c.go_in-at.new.x) c.args.frame.now) c.args.port c.args.frame.now (ap (λ (z : SlotPlan). z.program) c.as_ref-plan.ensures) c.self.view_is c.go_in-at.ensures.enters in
    c.add_digests.ensures.digests ∙ ap (λ (l : List Digest). l ++ map digest_of c.go_in-at.new.x.digests.items) c.clear.ensures.digests ∙ e.digests

pub returns-in-Some-clause-queued : goal.returns-in-Some-clause-queued
returns-in-Some-clause-queued c =
    let x = c.as_ref-plan.result.now in
    let n = c.args.self.now in
    let own : x.program ≡ n.program = ap (λ (z : SlotPlan). z.program) c.as_ref-plan.ensures ∙ ap (λ (z : MachineState). z.program) c.self.view_is in
    let e = entered_by x (machine_of c.self.inside) n (entered_of c.go_in-at.result (slot_run c.go_in-at.new.s c.go_in-at.new.x) c.args.frame.now) c.args.port c.args.frame.now (ap (λ (z : SlotPlan). z.program) c.as_ref-plan.ensures) c.self.view_is c.go_in-at.ensures.enters in
    let at = entered_at n c.go_in-at.result (Some c.in-Some.at) (slot_run c.go_in-at.new.s c.go_in-at.new.x) c.args.port c.args.frame.now c.in-Some.is e in
    held n.program c.args.q.now c.hold.new.self (state_of c.go_in-at.new.s) _ _ c.requires.place c.hold.ensures.waiting at.queued

pub returns-in-None-clause-cells : goal.returns-in-None-clause-cells
returns-in-None-clause-cells c =
    let x = c.as_ref-plan.result.now in
    let n = c.args.self.now in
    let own : x.program ≡ n.program = ap (λ (z : SlotPlan). z.program) c.as_ref-plan.ensures ∙ ap (λ (z : MachineState). z.program) c.self.view_is in
    let e = entered_by x (machine_of c.self.inside) n (entered_of c.go_in-at.result (slot_run c.go_in-at.new.s c.go_in-at.new.x) c.args.frame.now) c.args.port c.args.frame.now (ap (λ (z : SlotPlan). z.program) c.as_ref-plan.ensures) c.self.view_is c.go_in-at.ensures.enters in
    ap (λ (p : Program). cells_by p c.go_in-at.new.x.registers.items) (ap (λ (z : MachineState). z.program) c.self.view_is) ∙ cells_after n.program c.go_in-at.new.x.registers.items _ e.cells

pub returns-in-None-clause-digests : goal.returns-in-None-clause-digests
returns-in-None-clause-digests c =
    let x = c.as_ref-plan.result.now in
    let n = c.args.self.now in
    let own : x.program ≡ n.program = ap (λ (z : SlotPlan). z.program) c.as_ref-plan.ensures ∙ ap (λ (z : MachineState). z.program) c.self.view_is in
    let e = entered_by x (machine_of c.self.inside) n (entered_of c.go_in-at.result (slot_run c.go_in-at.new.s c.go_in-at.new.x) c.args.frame.now) c.args.port c.args.frame.now (ap (λ (z : SlotPlan). z.program) c.as_ref-plan.ensures) c.self.view_is c.go_in-at.ensures.enters in
    c.add_digests.ensures.digests ∙ ap (λ (l : List Digest). l ++ map digest_of c.go_in-at.new.x.digests.items) c.clear.ensures.digests ∙ e.digests

pub returns-in-None-clause-queued : goal.returns-in-None-clause-queued
returns-in-None-clause-queued c =
    let x = c.as_ref-plan.result.now in
    let n = c.args.self.now in
    let own : x.program ≡ n.program = ap (λ (z : SlotPlan). z.program) c.as_ref-plan.ensures ∙ ap (λ (z : MachineState). z.program) c.self.view_is in
    let e = entered_by x (machine_of c.self.inside) n (entered_of c.go_in-at.result (slot_run c.go_in-at.new.s c.go_in-at.new.x) c.args.frame.now) c.args.port c.args.frame.now (ap (λ (z : SlotPlan). z.program) c.as_ref-plan.ensures) c.self.view_is c.go_in-at.ensures.enters in
    let at = entered_at n c.go_in-at.result None (slot_run c.go_in-at.new.s c.go_in-at.new.x) c.args.port c.args.frame.now c.in-None.is e in
    c.requires.empty ∙ at.queued

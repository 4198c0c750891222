use Rattle.std.proofs.Common.{◌≡◌, ap, ◌∙◌, subst}
use Rattle.std.specs.Prelude.{IfOk, OnOk}
use Rattle.p4_statements.specs.Runs.{cells_in}
use Rattle.p4_machine.specs.Buffers.{goes_out}
use Rattle.p4_machine.specs.Passages.{Passage}
use Rattle.p4_slots.specs.declared.switch.Kind.TheVariants as kind
use Rattle.p4_slots.specs.declared.switch.PlaceKind.TheVariants as place
use Rattle.p4_slots.proofs.KindLemmas.{left_as}
use Rattle.p4_slots.proofs.switch.SlotSwitchPass.leave.Goals as goal

pub returns-in-Slots-kind-clause-cells : goal.returns-in-Slots-kind-clause-cells
returns-in-Slots-kind-clause-cells c = c.leave.ensures.cells ∙ ap (λ (x : Passage). x.registers) (left_as c.args.self.now.kind (kind.Slots c.in-Slots.machine) c.args.q.now.kind (place.Slots c.in-Slots-kind.q) c.in-Slots.is c.in-Slots-kind.is)

pub returns-in-Slots-kind-clause-out : goal.returns-in-Slots-kind-clause-out
returns-in-Slots-kind-clause-out c = c.leave.ensures.out ∙ ap (λ (x : Passage). x.out) (left_as c.args.self.now.kind (kind.Slots c.in-Slots.machine) c.args.q.now.kind (place.Slots c.in-Slots-kind.q) c.in-Slots.is c.in-Slots-kind.is)

pub returns-in-Slots-kind-clause-digests : goal.returns-in-Slots-kind-clause-digests
returns-in-Slots-kind-clause-digests c = c.leave.ensures.digests ∙ ap (λ (x : Passage). x.digests) (left_as c.args.self.now.kind (kind.Slots c.in-Slots.machine) c.args.q.now.kind (place.Slots c.in-Slots-kind.q) c.in-Slots.is c.in-Slots-kind.is)

pub returns-in-Names-kind-2-clause-cells : goal.returns-in-Names-kind-2-clause-cells
returns-in-Names-kind-2-clause-cells c =
    subst (λ (x : Passage). OnOk c.leave-in-Names-kind-2.result (cells_in c.leave-in-Names-kind-2.new.self.registers ≡ x.registers)) (left_as c.args.self.now.kind (kind.Names c.in-Names.switch) c.args.q.now.kind (place.Names c.in-Names-kind-2.q) c.in-Names.is c.in-Names-kind-2.is) c.leave-in-Names-kind-2.ensures.cells

pub returns-in-Names-kind-2-clause-out : goal.returns-in-Names-kind-2-clause-out
returns-in-Names-kind-2-clause-out c =
    subst (λ (x : Passage). IfOk c.leave-in-Names-kind-2.result (λ y. goes_out y c.leave-in-Names-kind-2.new.buf.frame ≡ x.out)) (left_as c.args.self.now.kind (kind.Names c.in-Names.switch) c.args.q.now.kind (place.Names c.in-Names-kind-2.q) c.in-Names.is c.in-Names-kind-2.is) c.leave-in-Names-kind-2.ensures.out

pub returns-in-Names-kind-2-clause-digests : goal.returns-in-Names-kind-2-clause-digests
returns-in-Names-kind-2-clause-digests c =
    subst (λ (x : Passage). OnOk c.leave-in-Names-kind-2.result (c.leave-in-Names-kind-2.new.buf.digests ≡ x.digests)) (left_as c.args.self.now.kind (kind.Names c.in-Names.switch) c.args.q.now.kind (place.Names c.in-Names-kind-2.q) c.in-Names.is c.in-Names-kind-2.is) c.leave-in-Names-kind-2.ensures.digests

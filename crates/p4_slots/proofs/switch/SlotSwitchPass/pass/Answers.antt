use Rattle.std.proofs.Common.{◌≡◌, ap, ◌∙◌, subst}
use Rattle.std.specs.Prelude.{IfOk}
use Rattle.p4_machine.specs.Buffers.{goes_out}
use Rattle.p4_machine.specs.Passages.{Passage}
use Rattle.p4_slots.specs.declared.switch.Kind.TheVariants as kind
use Rattle.p4_slots.proofs.KindLemmas.{passed_as}
use Rattle.p4_slots.proofs.switch.SlotSwitchPass.pass.Goals as goal

pub returns-in-Slots-clause-digests : goal.returns-in-Slots-clause-digests
returns-in-Slots-clause-digests c = c.pass.ensures.digests ∙ ap (λ (x : Passage). x.digests) (passed_as c.args.port c.args.frame.now c.args.self.now.kind (kind.Slots c.in-Slots.machine) c.in-Slots.is)

pub returns-in-Names-clause-out : goal.returns-in-Names-clause-out
returns-in-Names-clause-out c =
    subst (λ (x : Passage). IfOk c.pass-in-Names.result (λ y. goes_out y c.pass-in-Names.new.buf.frame ≡ x.out)) (passed_as c.args.port c.args.frame.now c.args.self.now.kind (kind.Names c.in-Names.switch) c.in-Names.is) c.pass-in-Names.ensures.out

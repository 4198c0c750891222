use Rattle.std.proofs.Common.{map, ap, ◌∙◌}
use Rattle.std.specs.Option.{option_map}
use Rattle.p4_tree.specs.View.{program_of}
use Rattle.p4_parts.specs.PartsIn.{parts_in}
use Rattle.p4_statements.specs.Runs.{digest_of}
use Rattle.p4_passages.specs.Waiting.{waiting_of}
use Rattle.p4_machine.specs.Passages.{Passage}
use Rattle.p4_machine.specs.Buffers.{goes_out}
use Rattle.p4_machine.specs.State.{state_of}
use Rattle.p4_machine.proofs.SwitchLemmas.{lent_parts, parts_fit, left_by}
use Rattle.p4_machine.proofs.switch.SwitchPass.leave.Goals as goal

pub go_out-requires-clause-fits : goal.go_out-requires-clause-fits
go_out-requires-clause-fits c = parts_fit (parts_in c.as_ref-plan.result.now.parts) (program_of c.self.inside.plan.value.program) c.self.inside.tables (lent_parts c.as_ref-plan.result.now c.self.inside.plan.value c.as_ref-plan.ensures c.self.invariant.plan) c.self.invariant.tables c.self.invariant.plan.few

pub returns-clause-cells : goal.returns-clause-cells
returns-clause-cells c =
    c.in_ok-passed.ensures.registers
    ∙ ap (λ (x : Passage). x.registers) (left_by (parts_in c.as_ref-plan.result.now.parts) (state_of c.self.inside) c.args.self.now (map digest_of c.new-told.result.items) (option_map waiting_of c.take-waiting.result) (option_map waiting_of c.args.q.now.waiting) (lent_parts c.as_ref-plan.result.now c.self.inside.plan.value c.as_ref-plan.ensures c.self.invariant.plan) c.self.view_is (ap (map digest_of) c.new-told.ensures.items) c.take-waiting.ensures.taken)

pub returns-clause-out : goal.returns-clause-out
returns-clause-out c =
    ap (goes_out c.in_ok-passed.passed) c.take_digests.ensures.frame ∙ c.in_ok-passed.ensures.out
    ∙ ap (λ (x : Passage). x.out) (left_by (parts_in c.as_ref-plan.result.now.parts) (state_of c.self.inside) c.args.self.now (map digest_of c.new-told.result.items) (option_map waiting_of c.take-waiting.result) (option_map waiting_of c.args.q.now.waiting) (lent_parts c.as_ref-plan.result.now c.self.inside.plan.value c.as_ref-plan.ensures c.self.invariant.plan) c.self.view_is (ap (map digest_of) c.new-told.ensures.items) c.take-waiting.ensures.taken)

pub returns-clause-digests : goal.returns-clause-digests
returns-clause-digests c =
    c.take_digests.ensures.digests ∙ c.in_ok-passed.ensures.told
    ∙ ap (λ (x : Passage). x.digests) (left_by (parts_in c.as_ref-plan.result.now.parts) (state_of c.self.inside) c.args.self.now (map digest_of c.new-told.result.items) (option_map waiting_of c.take-waiting.result) (option_map waiting_of c.args.q.now.waiting) (lent_parts c.as_ref-plan.result.now c.self.inside.plan.value c.as_ref-plan.ensures c.self.invariant.plan) c.self.view_is (ap (map digest_of) c.new-told.ensures.items) c.take-waiting.ensures.taken)

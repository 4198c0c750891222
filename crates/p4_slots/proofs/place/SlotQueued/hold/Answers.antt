use Rattle.std.proofs.Common.{ℕ, List, ◌%◌, drop, Some, ap, ◌∙◌}
use Rattle.bit_values.specs.Bytes.{bits_of}
use Rattle.p4_passages.proofs.HalvesLemmas.{rest_bits}
use Rattle.slot_terms.specs.States.{state_of}
use Rattle.slot_terms.specs.declared.state.State.{State}
use Rattle.p4_slots.specs.SlotPlaces.{SlotPlace, queued_by}
use Rattle.p4_slots.proofs.place.SlotQueued.hold.Goals as goal

pub returns-clause-waiting : goal.returns-clause-waiting
returns-clause-waiting c =
    let p = c.self.inside.plan.value.program in
    ap (λ (z : State). Some (queued_by p (state_of z) (drop (c.args.at % 8) (bits_of c.put_rest.new.rest.items)))) c.swap.ensures.x_after
    ∙ ap (λ (l : List ℕ). Some (queued_by p (state_of c.args.state.now) (drop (c.args.at % 8) (bits_of l)))) c.put_rest.ensures.rest
    ∙ ap (λ (l : List ℕ). Some (queued_by p (state_of c.args.state.now) l)) (rest_bits c.args.frame.now c.args.at)
    ∙ ap (λ (z : SlotPlace). Some (queued_by z.program (state_of c.args.state.now) (drop c.args.at (bits_of c.args.frame.now)))) c.self.view_is

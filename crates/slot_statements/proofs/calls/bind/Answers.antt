use Rattle.std.proofs.Common.{sym, ◌∙◌}
use Rattle.std.proofs.lemmas.Slice.Zip.{either_empty_from_Zip}
use Rattle.slot_terms.specs.States.{state_of}
use Rattle.slot_statements.proofs.CallLemmas.{bind_none}
use Rattle.slot_statements.proofs.calls.bind.Goals as goal

pub returns : goal.returns
returns c =
    sym (bind_none c.loop-slot.slot-iterator.a.rest.now c.loop-slot.slot-iterator.b.rest.now (state_of c.loop-slot.s) (either_empty_from_Zip c.loop-slot.slot-iterator c.next.new.self c.next.result c.in-None.is c.next.ensures.steps))
    ∙ c.loop-slot.invariant

use Rattle.std.proofs.Common.{◌≡◌, map}
use Rattle.slot_terms.specs.Terms.{term_of}
use Rattle.slot_terms.specs.States.{state_of}
use Rattle.slot_statements.specs.Actions.{bind}
use Rattle.slot_statements.proofs.calls.bind.Given as goal

abbrev pub invariant-loop-slot : goal.invariant-loop-slot
invariant-loop-slot l = bind l.slot-iterator.a.rest.now (map term_of l.slot-iterator.b.rest.now) (state_of l.s) ≡ bind l.slots (map term_of l.args) (state_of l.fn.s)

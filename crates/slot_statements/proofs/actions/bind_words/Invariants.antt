use Rattle.std.proofs.Common.{◌≡◌, drop}
use Rattle.slot_terms.specs.States.{state_of}
use Rattle.slot_statements.specs.Actions.{bind_words}
use Rattle.slot_statements.proofs.actions.bind_words.Given as goal

abbrev pub invariant-loop-p : goal.invariant-loop-p
invariant-loop-p l = bind_words (drop l.p-index l.params) l.left.rest.now (state_of l.s) ≡ bind_words l.params l.words (state_of l.fn.s)

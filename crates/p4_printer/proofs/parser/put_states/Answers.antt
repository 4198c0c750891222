use Rattle.std.proofs.Common.{map, refl}
use Rattle.p4_tree.specs.View.{state_of}
use Rattle.p4_printer.specs.Layout.{in_row}
use Rattle.p4_printer.specs.Programs.{lexemes_of_state}
use Rattle.p4_printer.proofs.Loops.{step}
use Rattle.p4_printer.proofs.parser.put_states.Goals as goal

pub loop-state-preserved : goal.loop-state-preserved
loop-state-preserved c =
    step (λ xs. in_row (map lexemes_of_state (map state_of xs))) (λ x. lexemes_of_state (state_of x)) refl (λ x xs. refl) c.args.out.now c.loop-state.out c.put_state.new.out c.args.states.now c.state-item.result c.loop-state.state-index
    c.loop-state-test.true c.state-item.is c.loop-state.invariant c.in_ok-put_state.ensures

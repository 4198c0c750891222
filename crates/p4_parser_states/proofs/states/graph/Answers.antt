use Rattle.std.proofs.Common.{◌≡◌, ℕ, ◌<◌, List, [], ◌∷◌, ◌++◌, Some, map, length, take, sym, ◌∙◌, subst, arith}
use Rattle.p4_tree.specs.Tree.{ParserState}
use Rattle.p4_tree.specs.View.{state_of}
use Rattle.p4_parser_states.specs.Graphs.{graph_of}
use Rattle.p4_parser_states.specs.Numbers.{number_in, HasSteps}
use Rattle.p4_parser_states.proofs.Opening.{length_graph}
use Rattle.p4_parser_states.proofs.Numbered.{number_below, no_steps, steps_more, map_more}
use Rattle.p4_parser_states.proofs.states.graph.Goals as goal

pub loop-state-init : goal.loop-state-init
loop-state-init c = record {
  steps = no_steps (number_in c.args.names.now.keys) (graph_of c.in_ok-follows.follows.items) c.in_ok-follows.ensures.none;
  len = c.in_ok-follows.ensures.len ∙ c.len.ensures.len;
}

pub loop-state-preserved : goal.loop-state-preserved
loop-state-preserved c =
    let ks = c.args.names.now.keys in
    let fs = c.loop-state.follows.items in
    let st : ParserState = state_of c.state-item.result in
    let front : List ParserState = map state_of (take c.loop-state.state-index c.args.states.now) in
    let within : (n : ℕ) → number_in ks st.name ≡ Some n → n < length (graph_of fs) = λ n e. (let k : n < length ks = number_below ks st.name n e in omega (arith, k, length_graph fs, c.loop-state.invariant.len)) in
    let P : List ParserState → List (List ℕ) → Type 0 = λ sts g. HasSteps (number_in ks) sts g in
    record {
      steps = subst (λ (sts : List ParserState). P sts (graph_of c.add_state.new.follows.items)) (sym (map_more state_of c.args.states.now c.loop-state.state-index c.state-item.result c.loop-state-test.true c.state-item.is))
          (subst (λ (g : List (List ℕ)). P (front ++ st ∷ []) g) (sym c.in_ok-add_state.ensures.added) (steps_more (number_in ks) front st (graph_of fs) c.loop-state.invariant.steps within));
      len = c.in_ok-add_state.ensures.len ∙ c.loop-state.invariant.len;
    }

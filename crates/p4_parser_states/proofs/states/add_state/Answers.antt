use Rattle.std.proofs.Common.{◌≡◌, ℕ, ◌<◌, List, [], ◌++◌, Option, length, get_or, set, sym, ◌∙◌, ap, arith, Vec, Global}
use Rattle.std.proofs.lemmas.List.{map-set}
use Rattle.std.specs.List.{filter_map}
use Rattle.p4_tree.specs.View.{transition_of}
use Rattle.p4_parser_states.specs.Cycles.{targets}
use Rattle.p4_parser_states.specs.Graphs.{graph_of}
use Rattle.p4_parser_states.specs.Numbers.{number_in, add_to}
use Rattle.p4_parser_states.proofs.Opening.{row_of}
use Rattle.p4_parser_states.proofs.states.add_state.Goals as goal

pub returns-in_ok-add_targets-in-Some-clause-added : goal.returns-in_ok-add_targets-in-Some-clause-added
returns-in_ok-add_targets-in-Some-clause-added c =
    let fs = c.args.follows.now.items in
    let g = graph_of fs in
    let i = c.in-Some.from in
    let ys : List ℕ = filter_map (number_in c.args.names.now.keys) (targets (transition_of c.args.state.now.next)) in
    let k : i < length fs = omega (arith, c.requires, c.in-Some.ensures.within) in
    let row : get_or g i [] ≡ c.index_mut.result.now.items = row_of fs i c.index_mut.result.now k c.index_mut.ensures.value in
    map-set (λ (v : Vec ℕ Global). v.items) fs i c.add_targets.new.row
    ∙ ap (λ (xs : List ℕ). set g i xs) (c.in_ok-add_targets-in-Some.ensures ∙ ap (λ (xs : List ℕ). xs ++ ys) (sym row))
    ∙ ap (λ (o : Option ℕ). add_to g o ys) c.in-Some.ensures.number

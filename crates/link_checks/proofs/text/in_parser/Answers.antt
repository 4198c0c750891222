use Rattle.std.proofs.Common.{ℕ, List, [], ◌∷◌, ◌++◌, map, ap, ◌∙◌}
use Rattle.p4_tree.specs.View.{state_of}
use Rattle.p4_tree.specs.declared.program.Param.{Param}
use Rattle.p4_tree.specs.declared.program.ParserState as code_state
use Rattle.link_faults.specs.WrittenNames.{first_taken, names_of_params, names_of_states}
use Rattle.link_checks.proofs.text.in_parser.Goals as goal

pub returns : goal.returns
returns c =
    let d = c.args.d.now in
    let states = names_of_states (map state_of d.states.items) in
    c.first-2.ensures (d.name ∷ []) (names_of_params d.params.items ++ states) c.in_name.ensures
    (c.first.ensures (names_of_params d.params.items) states (c.in_params.ensures ∙ ap (λ (ps : List Param). first_taken (names_of_params ps)) c.deref.ensures.value)
    (c.in_states.ensures ∙ ap (λ (ss : List code_state.ParserState). first_taken (names_of_states (map state_of ss))) c.deref-2.ensures.value))

use Rattle.std.proofs.Common.{ℕ, List, map, take, sym, ◌∙◌, subst}
use Rattle.std.proofs.lemmas.List.{take_all}
use Rattle.p4_tree.specs.declared.program.ParserState as code
use Rattle.p4_parser_states.proofs.Numbered.{HasNames, names_more, map_more}
use Rattle.p4_parser_states.proofs.states.names_of.Goals as goal

pub loop-state-init : goal.loop-state-init
loop-state-init c = λ x i. absurd i

pub loop-state-preserved : goal.loop-state-preserved
loop-state-preserved c =
    let i = c.loop-state.state-index in
    let x = c.state-item.result in
    let P : List (List ℕ) → Type 0 = λ xs. HasNames xs c.insert.new.self.keys in
    subst P (sym (map_more (λ (st : code.ParserState). st.name) c.args.states.now i x c.loop-state-test.true c.state-item.is))
    (names_more (map (λ (st : code.ParserState). st.name) (take i c.args.states.now)) x.name c.loop-state.names.keys c.insert.new.self.keys c.in_ok-from_str.field-0 c.loop-state.invariant
    (c.in_ok-from_str.ensures.ok ∙ c.as_str.ensures) c.in_ok-insert.ensures.keys)

pub returns : goal.returns
returns c =
    let P : List code.ParserState → Type 0 = λ xs. HasNames (map (λ (st : code.ParserState). st.name) xs) c.loop-state.names.keys in
    subst P (take_all c.loop-state.state-index c.args.states.now c.loop-state-test.false) c.loop-state.invariant

use Rattle.std.proofs.Common.{ℕ, ◌<◌, List, Bool, false, map, length, get_or, ◌∙◌, sym, ap, subst, Vec, Global}
use Rattle.p4_tree.specs.Tree.{ParserState}
use Rattle.p4_tree.specs.View.{state_of}
use Rattle.p4_tree.specs.declared.program.ParserState as code
use Rattle.p4_parser_states.specs.Graphs.{IsGraph, Follows, Tells, graph_of}
use Rattle.p4_parser_states.specs.Numbers.{number_in, answer_at}
use Rattle.p4_parser_states.proofs.Opening.{length_graph}
use Rattle.p4_parser_states.proofs.Numbered.{graph_within, answered, all_answered, names_known}
use Rattle.p4_parser_states.proofs.states.on_cycles.Goals as goal

pub on_cycles-requires : goal.on_cycles-requires
on_cycles-requires c =
    let fs = c.in_ok-follows.follows.items in
    let P : List (Vec ℕ Global) → Type 0 = λ us. IsGraph (graph_of us) in
    subst P (sym c.deref.ensures.value)
    (graph_within c.in_ok-names.names.keys (map state_of c.args.states.now) (graph_of fs) c.in_ok-follows.ensures.steps (length_graph fs ∙ c.in_ok-follows.ensures.len))

pub returns : goal.returns
returns c =
    let ks = c.in_ok-names.names.keys in
    let xs = c.args.states.now in
    let sts : List ParserState = map state_of xs in
    let fs = c.in_ok-follows.follows.items in
    let bs = c.in_ok-cyclic.cyclic.items in
    let P : List (Vec ℕ Global) → Type 0 = λ us. (x : ℕ) → x < length us → Tells (Follows (graph_of us)) (get_or bs x false) x in
    let each : (x : ℕ) → x < length fs → Tells (Follows (graph_of fs)) (get_or bs x false) x = subst P c.deref.ensures.value c.in_ok-cyclic.ensures.each in
    let Q : ℕ → Type 0 = λ n. (x : ℕ) → x < n → Tells (Follows (graph_of fs)) (get_or bs x false) x in
    let tells : (x : ℕ) → x < length (graph_of fs) → Tells (Follows (graph_of fs)) (get_or bs x false) x = subst Q (sym (length_graph fs)) each in
    c.in_ok-answers.ensures ∙ ap (λ (cs : List Bool). map (λ (st : code.ParserState). answer_at cs (number_in ks st.name)) xs) c.deref-2.ensures.value
    ∙ all_answered sts ks bs xs
    (answered ks sts (graph_of fs) c.in_ok-follows.ensures.steps (names_known ks xs c.in_ok-names.ensures) bs (length_graph fs ∙ c.in_ok-follows.ensures.len) tells)

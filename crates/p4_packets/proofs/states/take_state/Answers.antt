use Rattle.std.proofs.Common.{◌≡◌, ◌<◌, length, get_or, ap, sym, ◌∙◌, arith, rules, Bor}
use Rattle.lex_text.specs.Names.{same_text}
use Rattle.p4_meaning.specs.Parsing.{found_state}
use Rattle.p4_tree.specs.View.{state_of}
use Rattle.p4_tree.specs.declared.program.ParserState as code_state
use Rattle.p4_packets.specs.Left.{states_in}
use Rattle.p4_packets.proofs.LeftLemmas.{taken_here, taken_later}
use Rattle.p4_packets.proofs.states.take_state.Goals as goal

pub returns-then-same_text : goal.returns-then-same_text
returns-then-same_text c =
    let bs = c.loop-i.left.items in
    let within : c.loop-i.i < length bs = omega arith in
    let same : same_text (state_of (get_or bs c.loop-i.i c.index.result.now).now).name c.args.name.now ≡ c.same_text.result = search rules in
    taken_here (λ (s : Bor code_state.ParserState). state_of s.now) bs c.remove.new.self.items c.loop-i.i c.args.name.now c.index.result.now c.remove.result within (same ∙ c.if-same_text.true) c.remove.ensures.value c.remove.ensures.by_index.2
    ∙ c.loop-i.invariant.rest
    ∙ ap (λ l. found_state (states_in l) c.args.name.now) (search rules)

pub loop-i-preserved : goal.loop-i-preserved
loop-i-preserved c =
    let bs = c.loop-i.left.items in
    let within : c.loop-i.i < length bs = omega arith in
    let same : same_text (state_of (get_or bs c.loop-i.i c.index.result.now).now).name c.args.name.now ≡ c.same_text.result = search rules in
    record {
      same = c.loop-i.invariant.same;
      rest = taken_later (λ (s : Bor code_state.ParserState). state_of s.now) bs c.loop-i.i c.args.name.now c.index.result.now within (same ∙ c.if-same_text.false) ∙ c.loop-i.invariant.rest;
    }

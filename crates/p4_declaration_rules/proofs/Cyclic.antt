-- What is known of each state, one by one.
use Rattle.std.proofs.Common.{◌≡◌, ℕ, zero, suc, ◌+◌, ◌<◌, List, [], ◌∷◌, Bool, false, Option, map, length, drop, get_or, sym, ap, ◌∙◌, arith}
use Rattle.p4_tree.specs.Tree.{ParserState}
use Rattle.p4_tree.specs.View.{state_of}
use Rattle.p4_tree.specs.declared.program.ParserState as code
use Rattle.p4_scopes.specs.Scopes.{Scope}
use Rattle.p4_parser_states.specs.Cycles.{is_on_cycle}
use Rattle.p4_statement_rules.specs.Ranks.{first_from}
use Rattle.p4_statement_rules.specs.declared.rule.ProgramRule.{ProgramRule}
use Rattle.p4_declaration_rules.specs.Parsers.{state_tests, states_tests}
use Rattle.p4_declaration_rules.proofs.Seen.{left_at}

answered : (f : ParserState → Bool) (states : List code.ParserState) (i : ℕ) (st : code.ParserState) → i < length states → st ≡ get_or states i st → get_or (map f (map state_of states)) i false ≡ f (state_of st)
answered f [] i st lt is = absurd (omega (arith, lt))
answered f (s ∷ states) zero st lt is = ap (λ (x : code.ParserState). f (state_of x)) (sym is)
answered f (s ∷ states) (suc i) st lt is = answered f states i st (omega (arith, lt)) is

-- one state more is tested
pub states_next : (s : Scope) (found new whole : Option (ℕ × ProgramRule)) (all : List ParserState) (cyclic : List Bool) (states : List code.ParserState) (i : ℕ) (st : code.ParserState) (b : Bool)
    → i < length states → st ≡ get_or states i st → cyclic ≡ map (is_on_cycle all) (map state_of states) → b ≡ get_or cyclic i false
    → (b ≡ is_on_cycle all (state_of st) → new ≡ first_from found (state_tests all s (state_of st)))
    → first_from found (states_tests all s (map state_of (drop i states))) ≡ whole
    → first_from new (states_tests all s (map state_of (drop (i + 1) states))) ≡ whole
states_next s found new whole all cyclic states i st b lt is known read tests before =
    let said : b ≡ is_on_cycle all (state_of st) = read ∙ ap (λ bs. get_or bs i false) known ∙ answered (is_on_cycle all) states i st lt is in
    ap (λ o. first_from o (states_tests all s (map state_of (drop (i + 1) states)))) (tests said)
    ∙ ap (λ xs. first_from found (states_tests all s (map state_of xs))) (sym (left_at states i st lt is))
    ∙ before

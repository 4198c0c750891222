-- Old states are fine in each scope that agrees on old names.
use Rattle.std.proofs.Common.{◌≡◌, List, [], ◌∷◌, true, ap, subst, codes}
use Rattle.rule_tests.specs.Tests.{IsFine}
use Rattle.p4_tree.specs.Tree.{ParserState}
use Rattle.p4_parser_states.specs.Cycles.{state_names}
use Rattle.p4_scopes.specs.Scopes.{Scope}
use Rattle.p4_declaration_rules.specs.Parsers.{is_state_name, onto_tests, with_states}
use Rattle.p4_rule_laws.specs.Old.{Names}
use Rattle.p4_rule_laws.specs.OldPrograms.{OldStates}
use Rattle.p4_rule_laws.specs.Growth.{StatesGrow}
use Rattle.p4_rule_laws.proofs.AlikePrograms.{states_names_alike, states_alike, with_states_alike}

pub same_states : (old : Names) (s t : Scope) (sts : List ParserState) → OldStates old sts → old (codes "start") ≡ true → StatesGrow old s t sts sts
same_states old s t sts o u =
    record {
      names = λ a f. subst IsFine (states_names_alike old s t a sts o) f;
      start = λ p a f. subst IsFine (ap (onto_tests p (is_state_name (state_names sts) (codes "start"))) ((with_states_alike old s t a sts o).same (codes "start" ∷ []) (u, tt))) f;
      states = λ a g f. subst IsFine (states_alike old (with_states s sts) (with_states t sts) (with_states_alike old s t a sts o) sts sts o) f;
    }

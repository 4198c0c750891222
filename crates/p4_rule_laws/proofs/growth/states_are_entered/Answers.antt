use Rattle.std.proofs.Common.{[]}
use Rattle.p4_declaration_rules.specs.Parsers.{is_state_name}
use Rattle.p4_rule_laws.proofs.EnteredLemmas.{onto_name, onto_fine, with_others, with_own, among_joined, entered_grow}
use Rattle.p4_rule_laws.proofs.StatesGrow.{same_states}
use Rattle.p4_rule_laws.proofs.BeginsLemmas.{begins_enter}
use Rattle.p4_rule_laws.proofs.ReplacedStates.{replaced_states}
use Rattle.p4_rule_laws.proofs.growth.states_are_entered.Goals as goal

pub returns : goal.returns
returns c =
    record {
      same = same_states;
      entered = entered_grow c.reaches_is_exact.ensures;
      begins = begins_enter;
      replaced = replaced_states;
      own = λ s sts x f i. with_own s sts x [] f i;
      onto = λ names p x st. (onto_name p (is_state_name names x) st, onto_fine p (is_state_name names x) st);
      others = with_others;
      among = among_joined;
    }

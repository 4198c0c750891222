use Rattle.p4_rule_laws.proofs.JoinedLemmas.{locals_append, locals_joined, locals_parts, with_states_append, names_joined, names_parts, states_joined, states_parts, tops_append, tops_joined, tops_parts}
use Rattle.p4_rule_laws.proofs.laws.declarations_join.Goals as goal

pub returns : goal.returns
returns c =
    record {
      locals = λ h s a b. (locals_parts h s a b, λ f. locals_joined h s a b f.0 f.1);
      local_scope = locals_append;
      names = λ s a b. (names_parts s a b, λ f. names_joined s a b f.0 f.1);
      states = λ all s a b. (states_parts all s a b, λ f. states_joined all s a b f.0 f.1);
      state_scope = with_states_append;
      tops = λ main s a b. (tops_parts main s a b, λ f. tops_joined main s a b f.0 f.1);
      top_scope = tops_append;
    }

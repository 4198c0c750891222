use Rattle.p4_rule_laws.proofs.KeptFine.{declare_rooted}
use Rattle.p4_rule_laws.proofs.Rooted.{core_rooted, after_all_rooted, with_params_rooted, with_ways_rooted, with_states_rooted, after_locals_rooted, after_tops_rooted}
use Rattle.p4_rule_laws.proofs.laws.scopes_are_rooted.Goals as goal

pub returns : goal.returns
returns c =
    record {
      first = core_rooted;
      declared = declare_rooted;
      blocks = after_all_rooted;
      params = with_ways_rooted;
      action_params = with_params_rooted;
      states = with_states_rooted;
      locals = after_locals_rooted;
      programs = after_tops_rooted;
    }

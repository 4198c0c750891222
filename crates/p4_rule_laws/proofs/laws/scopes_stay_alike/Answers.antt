use Rattle.p4_rule_laws.proofs.AlikeScopes.{alike_self, alike_trans, declare_alike}
use Rattle.p4_rule_laws.proofs.AlikeStmts.{after_all_alike}
use Rattle.p4_rule_laws.proofs.AlikePrograms.{with_params_alike, with_ways_alike, with_states_alike, after_locals_alike, after_tops_alike}
use Rattle.p4_rule_laws.proofs.laws.scopes_stay_alike.Goals as goal

pub returns : goal.returns
returns c =
    record {
      self = alike_self;
      through = alike_trans;
      declared = declare_alike;
      blocks = after_all_alike;
      params = with_ways_alike;
      action_params = with_params_alike;
      states = with_states_alike;
      locals = after_locals_alike;
      programs = after_tops_alike;
    }

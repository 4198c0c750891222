use Rattle.p4_declaration_rules.proofs.FirstsLemmas.{all_first}
use Rattle.p4_rule_laws.proofs.KeepsLemmas.{keeps_trans, declared, undeclared, after_all_keeps, after_locals_keeps, with_params_keeps, with_ways_keeps, with_states_keeps, after_tops_keeps}
use Rattle.p4_rule_laws.proofs.laws.fine_trees_keep.Goals as goal

pub returns : goal.returns
returns c =
    record {
      blocks = after_all_keeps;
      params = with_ways_keeps;
      action_params = with_params_keeps;
      states = with_states_keeps;
      locals = after_locals_keeps;
      programs = after_tops_keeps;
      firsts = all_first;
      through = keeps_trans;
      declared = declared;
      others = undeclared;
    }

use Rattle.p4_rule_laws.proofs.AlikeScopes.{skip_alike}
use Rattle.p4_rule_laws.proofs.KeepsLemmas.{skip_tops, skip_locals, skip_states, skip_stmts}
use Rattle.p4_rule_laws.proofs.WiderLemmas.{wider_alike}
use Rattle.p4_rule_laws.proofs.laws.new_names_are_not_seen.Goals as goal

pub returns : goal.returns
returns c =
    record {
      declared = skip_alike;
      blocks = skip_stmts;
      states = skip_states;
      locals = skip_locals;
      programs = skip_tops;
      fields = λ old s t a n h front fs back nf o nb. wider_alike old s t a front back nf nb n h fs o;
    }

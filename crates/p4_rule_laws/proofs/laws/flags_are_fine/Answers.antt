use Rattle.p4_rule_laws.proofs.GuardLemmas.{flag_read, flag_set, flag_declared, flagged_fine, flagged_most}
use Rattle.p4_rule_laws.proofs.laws.flags_are_fine.Goals as goal

pub returns : goal.returns
returns c = record { declared = flag_declared; read = flag_read; set = flag_set; block = flagged_fine; digests = flagged_most }

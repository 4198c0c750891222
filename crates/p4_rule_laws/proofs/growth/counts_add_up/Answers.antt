use Rattle.p4_rule_laws.proofs.LimitsGrow.{bytes_add, bytes_alike, local_cells_add, cells_add, digests_add, digests_alike, structs_wider}
use Rattle.p4_rule_laws.proofs.growth.counts_add_up.Goals as goal

pub returns-clause-add : goal.returns-clause-add
returns-clause-add c = record { bytes = bytes_add; digests = digests_add; cells = cells_add; local_cells = local_cells_add }

pub returns-clause-names : goal.returns-clause-names
returns-clause-names c = record { bytes = bytes_alike; digests = digests_alike }

pub returns-clause-fields : goal.returns-clause-fields
returns-clause-fields c = structs_wider

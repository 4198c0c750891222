use Rattle.table_laws.proofs.Listed.{loaded_are_listed}
use Rattle.table_laws.proofs.Puts.{replaced_is_put}
use Rattle.table_laws.proofs.Carries.{same_numbers_are_apart, same_shapes_take_the_same}
use Rattle.table_laws.proofs.loaded_tables_are_listed.Goals as goal

pub returns-clause-listed : goal.returns-clause-listed
returns-clause-listed c = loaded_are_listed

pub returns-clause-put : goal.returns-clause-put
returns-clause-put c = replaced_is_put

pub returns-clause-taken : goal.returns-clause-taken
returns-clause-taken c = same_shapes_take_the_same

pub returns-clause-apart : goal.returns-clause-apart
returns-clause-apart c = same_numbers_are_apart

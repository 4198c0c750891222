use Rattle.p4_spelling.proofs.Derivations.{register_row, table_row}
use Rattle.p4_spelling.proofs.rows.declarations.Goals as goal

pub returns-clause-a_register : goal.returns-clause-a_register
returns-clause-a_register c = register_row

pub returns-clause-a_table : goal.returns-clause-a_table
returns-clause-a_table c = table_row

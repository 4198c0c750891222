use Rattle.p4_spelling.proofs.Derivations.{cast_row, conditional_row, concat_row, slice_row, valid_row, applied_row}
use Rattle.p4_spelling.proofs.rows.expressions.Goals as goal

pub returns-clause-a_cast : goal.returns-clause-a_cast
returns-clause-a_cast c = cast_row

pub returns-clause-a_conditional : goal.returns-clause-a_conditional
returns-clause-a_conditional c = conditional_row

pub returns-clause-a_concatenation : goal.returns-clause-a_concatenation
returns-clause-a_concatenation c = concat_row

pub returns-clause-a_slice : goal.returns-clause-a_slice
returns-clause-a_slice c = slice_row

pub returns-clause-a_validity : goal.returns-clause-a_validity
returns-clause-a_validity c = valid_row

pub returns-clause-an_application : goal.returns-clause-an_application
returns-clause-an_application c = applied_row

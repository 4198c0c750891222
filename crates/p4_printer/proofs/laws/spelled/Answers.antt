-- Each law by its lemma.
use Rattle.p4_printer.proofs.StructuredPrograms.{spelled_can_be}
use Rattle.p4_printer.proofs.Whole.{can_be_spelled}
use Rattle.p4_printer.proofs.laws.spelled.Goals as goal

pub returns-clause-only : goal.returns-clause-only
returns-clause-only c = spelled_can_be

pub returns-clause-all : goal.returns-clause-all
returns-clause-all c = can_be_spelled

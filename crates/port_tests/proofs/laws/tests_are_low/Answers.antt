-- The law by its lemma.
use Rattle.port_tests.proofs.PortTests.{tests_are_low}
use Rattle.port_tests.proofs.laws.tests_are_low.Goals as goal

pub returns : goal.returns
returns c = tests_are_low

use Rattle.port_tests.proofs.ports.+joined.Given as goal

abbrev pub decreases-joined : goal.decreases-joined
decreases-joined l = l.times

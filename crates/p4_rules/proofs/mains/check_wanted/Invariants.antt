use Rattle.std.proofs.Common.{◌≡◌, drop, map}
use Rattle.p4_statement_rules.specs.Ranks.{first_from}
use Rattle.p4_rules.specs.Mains.{wanted_tests}
use Rattle.p4_rules.specs.Views.{wanted_of, structs_view}
use Rattle.p4_rules.proofs.mains.check_wanted.Given as goal

abbrev pub invariant-loop-i : goal.invariant-loop-i
invariant-loop-i l = first_from l.found.first (wanted_tests l.at (structs_view l.structs) (map wanted_of (drop l.i l.wants)) (drop l.i l.params)) ≡ first_from l.initial.found.first (wanted_tests l.at (structs_view l.structs) (map wanted_of l.wants) l.params)

use Rattle.std.proofs.Common.{◌≡◌, drop}
use Rattle.indus_rules.specs.Rules.{bad_widths}
use Rattle.indus_rules.proofs.decl_rules.bad_widths.Given as goal

abbrev pub invariant-loop-t : goal.invariant-loop-t
invariant-loop-t l = bad_widths (drop l.t-index l.types) ≡ bad_widths l.types

use Rattle.std.proofs.Common.{◌≡◌, drop}
use Rattle.p4_parser_states.specs.Cycles.{is_among}
use Rattle.p4_declaration_rules.proofs.names.is_among.Given as goal

abbrev pub invariant-loop-other : goal.invariant-loop-other
invariant-loop-other l = is_among (drop l.other-index l.names) l.name ≡ is_among l.names l.name

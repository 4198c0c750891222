use Rattle.std.proofs.Common.{◌≡◌, drop}
use Rattle.lex_text.specs.Names.{same_path}
use Rattle.p4_values.proofs.names.same_path.Given as goal

abbrev pub invariant-loop-i : goal.invariant-loop-i
invariant-loop-i l = same_path (drop l.i l.a) (drop l.i l.b) ≡ same_path l.a l.b

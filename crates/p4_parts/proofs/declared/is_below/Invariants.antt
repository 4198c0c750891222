use Rattle.std.proofs.Common.{◌≡◌, ◌++◌, ◌∷◌, [], drop}
use Rattle.lex_text.specs.Names.{same_path}
use Rattle.p4_parts.proofs.declared.is_below.Given as goal

abbrev pub invariant-loop-i : goal.invariant-loop-i
invariant-loop-i l = same_path (drop l.i l.above ++ l.name ∷ []) (drop l.i l.path) ≡ same_path (l.above ++ l.name ∷ []) l.path

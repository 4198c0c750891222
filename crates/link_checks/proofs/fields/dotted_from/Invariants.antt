use Rattle.std.proofs.Common.{◌≡◌, ◌∷◌, ◌++◌, drop, string_bytes}
use Rattle.link_faults.specs.HeaderFields.{dotted}
use Rattle.link_checks.proofs.Dots.{tail_of}
use Rattle.link_checks.proofs.fields.dotted_from.Given as goal

abbrev pub invariant-loop-name : goal.invariant-loop-name
invariant-loop-name l = string_bytes l.text ++ tail_of (drop l.name-index l.rest) ≡ dotted (l.first ∷ l.rest)

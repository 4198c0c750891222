use Rattle.std.proofs.Common.{◌≡◌, ◌∷◌, take}
use Rattle.link_checks.proofs.fields.found_in.Given as goal

abbrev pub invariant-loop-name : goal.invariant-loop-name
invariant-loop-name l = l.whole.items ≡ l.owner ∷ take l.name-index l.path

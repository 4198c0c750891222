use Rattle.std.proofs.Common.{◌≡◌, drop, map}
use Rattle.p4_tree.specs.View.{keyset_of}
use Rattle.link_faults.specs.WrittenNames.{first_taken, names_of_keysets}
use Rattle.link_checks.proofs.text.in_keysets.Given as goal

-- what is left from here has the first of all
abbrev pub invariant-loop-k : goal.invariant-loop-k
invariant-loop-k l = first_taken (names_of_keysets (map keyset_of (drop l.k-index l.list))) ≡ first_taken (names_of_keysets (map keyset_of l.list))

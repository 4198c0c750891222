use Rattle.std.proofs.Common.{◌≡◌, map, drop}
use Rattle.p4_tree.specs.View.{keyset_of}
use Rattle.p4_meaning.specs.Parsing.{fits_each}
use Rattle.p4_packets.specs.Fields.{store_of}
use Rattle.p4_packets.proofs.select.fits_each.Given as goal

abbrev pub invariant-loop-i : goal.invariant-loop-i
invariant-loop-i l = fits_each (map keyset_of (drop l.i l.sets)) (drop l.i l.keys) (store_of l.s) ≡ fits_each (map keyset_of l.sets) l.keys (store_of l.s)

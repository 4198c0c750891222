use Rattle.std.proofs.Common.{◌≡◌, map, drop}
use Rattle.p4_meaning.specs.Choice.{fits_keys}
use Rattle.table_entries.specs.View.{match_of}
use Rattle.table_entries.proofs.choice.fits_keys.Given as goal

abbrev pub invariant-loop-i : goal.invariant-loop-i
invariant-loop-i l = fits_keys (map match_of (drop l.i l.list)) (drop l.i l.keys) ≡ fits_keys (map match_of l.list) l.keys

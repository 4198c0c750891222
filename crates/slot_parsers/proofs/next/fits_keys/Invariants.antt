use Rattle.std.proofs.Common.{◌≡◌, length, map}
use Rattle.slot_terms.specs.States.{state_of}
use Rattle.slot_terms.specs.Terms.{term_of}
use Rattle.slot_parsers.specs.ParserCodes.{values_of, fits_keys}
use Rattle.slot_parsers.specs.Code.{key_of}
use Rattle.slot_parsers.proofs.next.fits_keys.Given as goal

abbrev pub invariant-loop-left : goal.invariant-loop-left
invariant-loop-left l =
    fits_keys (map key_of l.left) (values_of (map term_of l.others) (state_of l.s)) (state_of l.s)
    ≡ fits_keys (map key_of l.keys) (values_of (map term_of l.terms) (state_of l.s)) (state_of l.s)

abbrev pub decreases-loop-left : goal.decreases-loop-left
decreases-loop-left l = length l.left

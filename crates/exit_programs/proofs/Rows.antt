-- Worked rows: which names are kept.
use Rattle.std.proofs.Common.{◌≡◌, true, false, refl, codes}
use Rattle.exit_programs.specs.Names.{is_given}

flag_is_kept : is_given (codes "hydra_x_left") ≡ false
flag_is_kept = refl

short_is_given : is_given (codes "hydra") ≡ true
short_is_given = refl

other_is_given : is_given (codes "my_hydra_x") ≡ true
other_is_given = refl

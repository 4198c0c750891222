-- The parts of a program without exits, and their bound on digests.
use Rattle.std.proofs.Common.{◌≡◌, ℕ, ◌+◌, Option, Some, None, refl, ap, ap₂}
use Rattle.std.specs.Option.{option_map}
use Rattle.p4_tree.specs.Tree.{Control, Program}
use Rattle.p4_meaning.specs.Parts.{control_in, body_in, parts_of}
use Rattle.p4_meaning.specs.DigestBound.{none_told, most_of}
use Rattle.exit_statements.specs.WrittenActions.{returned_in}
use Rattle.exit_statements.proofs.Bounds.{bounds_agree}
use Rattle.exit_programs.specs.Programs.{flags, exits_in, control_without}
use Rattle.exit_programs.specs.Owned.{all_actions, all_tables}
use Rattle.exit_programs.specs.Without.{leaves_at}
use Rattle.exit_programs.specs.Laws.{Stays, PartsAgree, BoundStays}
use Rattle.exit_programs.proofs.Apart.{apart}
use Rattle.exit_programs.proofs.Parts as parts

stays : (p : Program) (n : ℕ) → Stays p n → option_map (control_without (exits_in p)) (control_in p n) ≡ control_in p n
stays p n h = go (control_in p n) (λ c e. h c e)
  where
    go : (o : Option Control) → ((c : Control) → o ≡ Some c → control_without (exits_in p) c ≡ c) → option_map (control_without (exits_in p)) o ≡ o
    go None k = refl
    go (Some c) k = ap Some (k c refl)

pub parts_agree : PartsAgree
parts_agree p w given verify compute deparser = parts.parts_agree p given (apart p w) (stays p 1 verify) (stays p 4 compute) (stays p 5 deparser)

pub bound_stays : BoundStays
bound_stays p =
    ap₂ (λ (a b : ℕ). (most_of none_told none_told (parts_of p).verify + a) + b)
    (bounds_agree (leaves_at p 2) flags (returned_in flags) (all_actions p) (all_tables p) (body_in 0 1 2 p 2))
    (bounds_agree (leaves_at p 3) flags (returned_in flags) (all_actions p) (all_tables p) (body_in 0 1 2 p 3))

-- What of a program without exits runs. Read `Programs` and `Owned` before it.
use Rattle.std.specs.Prelude.{ℕ, map, Bool, false, Option, Some, None}
use Rattle.p4_tree.specs.Tree.{Control, Program}
use Rattle.p4_meaning.specs.Parts.{Body, Parts, control_in, body_in, parts_of}
use Rattle.exit_statements.specs.Without.{Exits}
use Rattle.exit_statements.specs.Actions.{action_without}
use Rattle.exit_statements.specs.WrittenActions.{returned_in}
use Rattle.exit_statements.specs.Controls.{body_without}
use Rattle.exit_programs.specs.Programs.{flags, exits_in, control_leaves}
use Rattle.exit_programs.specs.Owned.{all_actions, all_tables}

-- whether the control at a place of `main` has a flag
abbrev pub leaves_if : Exits → Option Control → Bool
leaves_if m None = false
leaves_if m (Some c) = control_leaves m c

abbrev pub leaves_at : Program → (place : ℕ) → Bool
leaves_at p n = leaves_if (exits_in p) (control_in p n)

-- what it runs
abbrev pub body_at : Program → (place : ℕ) → Body
body_at p n = body_without (leaves_at p n) flags (all_actions p) (all_tables p) (body_in 0 1 2 p n)

abbrev pub parts_without : Program → Parts
parts_without p = record (parts_of p) { actions = map (action_without flags.left (returned_in flags)) (all_actions p); ingress = body_at p 2; egress = body_at p 3 }

-- What holds of all switches' tables. Read `Entries` before it.
use Rattle.std.specs.Prelude.{◌≡◌, ◌<◌, ℕ, List, length}
use Rattle.p4_tree.specs.Tree.{Program}
use Rattle.p4_tables.specs.Programs.{IsStateOf}
use Rattle.table_file.specs.Entries.{States, state_at}

-- there are as many as switches, and each has the tables of the program
pub record AreOf (p : Program) (switches : List (List ℕ)) (sts : States) : Type 0 where
  pub count : length sts ≡ length switches
  pub each : (n : ℕ) → n < length sts → IsStateOf p (state_at sts n)

-- The names of what a lowered property declares. A number tells apart what is read by statements of its own; `Names` of
-- `lookup_names` has the names that go with it.
use Rattle.std.specs.Prelude.{codes, ℕ, List, ◌++◌}
use Rattle.p4_meaning.specs.Scope.{full}
use Rattle.lookup_names.specs.Names as plain
use Rattle.lookup_names.specs.Names.{value_name}

-- the field of a numbered scalar
abbrev pub tele_name : List ℕ → List ℕ
tele_name x = codes "hydra_v_" ++ x

-- the register of a sensor
abbrev pub sensor_name : List ℕ → List ℕ
sensor_name x = codes "hydra_s_" ++ x

-- a table of a control, its first action, and that action's parameter, by their full names
abbrev pub table_name : (control : List ℕ) (number : ℕ) → List ℕ
table_name c n = full c (plain.table_name n)

abbrev pub action_name : (control : List ℕ) (number : ℕ) → List ℕ
action_name c n = full c (plain.action_name n)

abbrev pub argument_name : (control : List ℕ) (number : ℕ) → List ℕ
argument_name c n = full c (full (plain.action_name n) value_name)

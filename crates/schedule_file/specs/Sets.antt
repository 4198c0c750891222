-- What a member of a schedule sets: `{"set": {"switch": name, "variable": name, "value": contents}}`. Read `Control` of
-- control_file before it, and `Schedule` after it.
use Rattle.std.specs.Prelude.{ℕ, List, [], ◌∷◌, codes, Option, option_and_then, Result, Ok, Err}
use Rattle.std.specs.Option.{option_map_or}
use Rattle.serde_json.specs.Data.{Data}
use Rattle.serde_json.specs.Find.{get, as_str}
use Rattle.indus_tree.specs.Tree.{Decl}
use Rattle.indus_tree.specs.State.{Contents}
use Rattle.table_faults.specs.declared.table.TableFault.{TableFault}
use Rattle.table_faults.specs.declared.table.TableFault.TheVariants as fault
use Rattle.json_parts.specs.Answers.{◌>>=◌, with_fault}
use Rattle.json_parts.specs.Object.{Object, members_of, maybe_at, text_at, end_of}
use Rattle.json_parts.specs.Paths.{below}
use Rattle.json_values.specs.Words.{fault_of}
use Rattle.network_file.specs.Network.{number_of}
use Rattle.control_file.specs.Contents.{contents_at}
use Rattle.control_file.specs.Control.{Variable, variable_of}

-- where the object stands
abbrev pub set_path : List ℕ
set_path = codes "/set"

pub record Setting : Type 0 where
  pub switch : ℕ
  pub variable : ℕ
  pub contents : Contents

abbrev pub switch_in : (names : List (List ℕ)) → Object → Result ℕ TableFault
switch_in names o =
    with_fault fault_of (text_at o (codes "switch"))
    >>= λ name. option_map_or (λ s. Ok s) (number_of names name) (Err (fault.NoSuchSwitch (below set_path (codes "switch"))))

abbrev pub value_in : Object → Result Data TableFault
value_in o =
    with_fault fault_of (maybe_at o (codes "value"))
    >>= λ v. option_map_or (λ d. Ok d) v (Err (fault.Shape (codes "/set/value")))

-- the variable that the object names, wherever its name stands among the members
abbrev pub named_in : List Decl → Data → Option Variable
named_in ds d = option_and_then (variable_of ds) (option_and_then as_str (get (codes "variable") d))

-- what the variable is set to: a fault of the value comes before one of a member between `value` and `variable`
abbrev pub setting_to : Object → (switch : ℕ) → Data → Variable → Result Setting TableFault
setting_to o switch d variable = do
  contents ← contents_at (codes "/set/value") variable.decl.shape d
  name ← with_fault fault_of (text_at o (codes "variable"))
  Ok (record { switch = switch; variable = variable.number; contents = contents })

-- no variable is named: what the value may be is not known, so its fault is not either
abbrev pub unnamed : Object → Result Setting TableFault
unnamed o = with_fault fault_of (text_at o (codes "variable")) >>= λ name. Err (fault.NoSuchVariable (below set_path (codes "variable")))

abbrev pub setting_by : (names : List (List ℕ)) → Object → Option Variable → Result Setting TableFault
setting_by names o named = do
  switch ← switch_in names o
  value ← value_in o
  option_map_or (setting_to o switch value) named (unnamed o)

abbrev pub setting_of : List Decl → (names : List (List ℕ)) → Data → Result Setting TableFault
setting_of ds names d = do
  members ← with_fault fault_of (members_of set_path (codes "switch" ∷ codes "value" ∷ codes "variable" ∷ []) d)
  setting ← setting_by names members (named_in ds d)
  rest ← with_fault fault_of (end_of members)
  Ok setting

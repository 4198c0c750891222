-- A file of contents: the name of a switch to the name of a control variable to its contents. Read `Contents` before it.
use Rattle.std.specs.Prelude.{ℕ, ◌^◌, nat_lt, List, [], ◌∷◌, ◌++◌, map, take, slice_get, slice_set, Bool, ◌&&◌, Option, Some, None, option_and_then, Result, Ok, Err, if◌then◌else◌}
use Rattle.serde_json.specs.Data.{Data}
use Rattle.indus_tree.specs.Tree.{Decl}
use Rattle.indus_tree.specs.State.{Contents}
use Rattle.indus_tree.specs.Hops.{same_kind, variable_number}
use Rattle.indus_tree.specs.declared.tree.DeclKind.{DeclKind}
use Rattle.indus_tree.specs.declared.tree.DeclKind.TheVariants.{Control}
use Rattle.indus_values.specs.View.{seats}
use Rattle.table_faults.specs.declared.table.TableFault.{TableFault}
use Rattle.table_faults.specs.declared.table.TableFault.TheVariants as fault
use Rattle.json_parts.specs.Answers.{◌>>=◌}
use Rattle.json_parts.specs.Paths.{below}
use Rattle.json_parts.specs.Turns.{each_in_turn}
use Rattle.json_values.specs.Words.{object_at}
use Rattle.network_file.specs.Network.{number_of}
use Rattle.control_file.specs.Contents.{unset, contents_at}

-- ---- variables

-- a control variable: its number among all declarations, and its declaration
pub record Variable : Type 0 where
  pub number : ℕ
  pub decl : Decl

-- a number has 32 bits, which it has in every property that is read from a file
abbrev pub is_numbered : DeclKind → (number : ℕ) → Bool
is_numbered kind n = same_kind Control kind && nat_lt n (2 ^ 32)

abbrev pub if_control : (number : ℕ) → Decl → Option Variable
if_control n d = if is_numbered d.kind n then Some (record { number = n; decl = d }) else None

-- the control variable of a name
abbrev pub variable_of : List Decl → (name : List ℕ) → Option Variable
variable_of ds name = option_and_then (λ n. option_and_then (if_control n) (slice_get ds n)) (variable_number ds name)

-- ---- the variables of a switch, in order of declaration

-- what they hold until they are set
abbrev pub unset_if_control : Decl → List Contents
unset_if_control d = if same_kind Control d.kind then unset d.shape ∷ [] else []

abbrev pub all_unset : List Decl → List Contents
all_unset [] = []
all_unset (d ∷ ds) = unset_if_control d ++ all_unset ds

-- a variable, whose place is that among the control variables, is set
abbrev pub with_contents : List Decl → (number : ℕ) → List Contents → Contents → List Contents
with_contents ds n held c = slice_set held (seats Control (take n ds)) c

abbrev pub set_found : (path : List ℕ) → List Decl → List Contents → Option Variable → Data → Result (List Contents) TableFault
set_found path ds held None d = Err (fault.NoSuchVariable path)
set_found path ds held (Some v) d = contents_at path v.decl.shape d >>= λ c. Ok (with_contents ds v.number held c)

-- a member of a switch's object sets a variable
abbrev pub set_variable : (path : List ℕ) → List Decl → List Contents → List ℕ × Data → Result (List Contents) TableFault
set_variable path ds held m = set_found (below path m.0) ds held (variable_of ds m.0) m.1

-- what the object at a path sets
abbrev pub variables_at : (path : List ℕ) → List Decl → Data → Result (List Contents) TableFault
variables_at path ds d = object_at path d >>= λ fields. each_in_turn (set_variable path ds) (all_unset ds) fields

-- ---- the switches, in the network's order

abbrev pub set_numbered : (path : List ℕ) → List Decl → List (List Contents) → Option ℕ → Data → Result (List (List Contents)) TableFault
set_numbered path ds held None d = Err (fault.NoSuchSwitch path)
set_numbered path ds held (Some s) d = variables_at path ds d >>= λ cs. Ok (slice_set held s cs)

-- a member of the file sets the variables of a switch
abbrev pub set_switch : List Decl → (names : List (List ℕ)) → List (List Contents) → List ℕ × Data → Result (List (List Contents)) TableFault
set_switch ds names held m = set_numbered (below [] m.0) ds held (number_of names m.0) m.1

-- the contents of all control variables at all switches, or the file's first fault: members in byte order of their names,
-- arrays in order
unfoldable pub control_of : List Decl → (names : List (List ℕ)) → Data → Result (List (List Contents)) TableFault
control_of ds names d =
    object_at [] d >>= λ fields. each_in_turn (set_switch ds names) (map (λ name. all_unset ds) names) fields

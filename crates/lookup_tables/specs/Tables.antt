-- The table and the action of a lookup, by their full names, and what the table holds for contents of its variable. They
-- are those of `control_tables` under the scope of their control. Read `Statements` of `lowered_code` before it, and
-- `Tables` and `Contents` of `control_tables`.
use Rattle.std.specs.Prelude.{codes, ℕ, suc, List, [], ◌∷◌, map, false}
use Rattle.bit_values.specs.Bits.{Word}
use Rattle.indus_tree.specs.Tree.{Shape, one, list, set, dict, Decl}
use Rattle.indus_tree.specs.State.{Contents, single, members, pairs, width_of}
use Rattle.indus_tree.specs.Reads.{single_word}
use Rattle.indus_tree.specs.declared.tree.Ty.{Ty}
use Rattle.p4_tree.specs.Tree as p4
use Rattle.p4_tree.specs.Tree.{Expr, done, next}
use Rattle.p4_meaning.specs.Actions.{Action, Param}
use Rattle.p4_meaning.specs.Tables.{Key, Chosen, Table, Entries}
use Rattle.table_entries.specs.Entries.{named}
use Rattle.control_tables.specs.Contents as contents
use Rattle.monitor_laws.specs.Trees.{number}
use Rattle.lookup_names.specs.Names.{found_name, key_name}
use Rattle.lookup_names.specs.Keys.{key_types, variable}
use Rattle.lowered_code.specs.Names.{table_name, action_name, argument_name}

-- a lookup: its control, its number, and the declaration of its variable
pub record Lookup : Type 0 where
  pub control : List ℕ
  pub number : ℕ
  pub decl : Decl

abbrev pub keys_for : (n i : ℕ) → List Ty → List Key
keys_for n i [] = []
keys_for n i (t ∷ ts) = record { value = variable (key_name n i); kind = codes "exact" } ∷ keys_for n (suc i) ts

abbrev pub no_action : Chosen
no_action = record { action = codes "NoAction"; args = [] }

-- the lookup's action with arguments
abbrev pub acting : Lookup → List Word → Chosen
acting l args = record { action = action_name l.control l.number; args = args }

abbrev pub actions_for : Lookup → Shape → List (List ℕ)
actions_for l (one t) = action_name l.control l.number ∷ []
actions_for l (list t n) = action_name l.control l.number ∷ []
actions_for l (set ts) = action_name l.control l.number ∷ codes "NoAction" ∷ []
actions_for l (dict ts t) = action_name l.control l.number ∷ codes "NoAction" ∷ []

-- what is written: the miss, or for a scalar the first action with 0
abbrev pub default_for : Lookup → Shape → Chosen
default_for l (one t) = acting l (record { width = width_of t; value = 0 } ∷ [])
default_for l (list t n) = acting l (record { width = width_of t; value = 0 } ∷ [])
default_for l (set ts) = no_action
default_for l (dict ts t) = no_action

abbrev pub table_for : Lookup → Table
table_for l =
    record {
      name = table_name l.control l.number;
      keys = keys_for l.number 0 (key_types l.decl.shape);
      actions = actions_for l l.decl.shape;
      default = default_for l l.decl.shape;
      fixed = false;
    }

abbrev pub value_param : Lookup → Ty → Param
value_param l t = record { name = argument_name l.control l.number; width = width_of t }

abbrev pub params_for : Lookup → Shape → List Param
params_for l (one t) = value_param l t ∷ []
params_for l (list t n) = value_param l t ∷ []
params_for l (set ts) = []
params_for l (dict ts t) = value_param l t ∷ []

abbrev pub given_for : Lookup → Shape → Expr
given_for l (one t) = variable (argument_name l.control l.number)
given_for l (list t n) = variable (argument_name l.control l.number)
given_for l (set ts) = number 1 1
given_for l (dict ts t) = variable (argument_name l.control l.number)

abbrev pub action_for : Lookup → Action
action_for l =
    record {
      name = action_name l.control l.number;
      params = params_for l l.decl.shape;
      body = next (p4.assign 0 (found_name l.number ∷ []) (given_for l l.decl.shape)) done;
    }

-- ---- what the table holds

abbrev pub members_of : Contents → List (List Word)
members_of (single w) = []
members_of (members ks) = ks
members_of (pairs es) = []

abbrev pub pairs_of : Contents → List (List Word × Word)
pairs_of (single w) = []
pairs_of (members ks) = []
pairs_of (pairs es) = es

-- a table chooses one action, whatever number this has
abbrev pub first_action : Lookup → (action : ℕ) → List ℕ
first_action l a = action_name l.control l.number

-- an entry for each key of a set, and for each pair of a dict; a scalar's value is the default's argument
abbrev pub entries_in : Lookup → Shape → Contents → Entries
entries_in l (one t) c = record { listed = []; default = acting l (single_word c (width_of t) ∷ []) }
entries_in l (list t n) c = record { listed = []; default = no_action }
entries_in l (set ts) c =
    record { listed = map (named (first_action l)) (contents.entries_for 0 (members (members_of c))); default = no_action }
entries_in l (dict ts t) c =
    record { listed = map (named (first_action l)) (contents.entries_for 0 (pairs (pairs_of c))); default = no_action }

abbrev pub entries_for : Lookup → Contents → Entries
entries_for l c = entries_in l l.decl.shape c

-- The table of a control variable, for one lookup of it, and the table's first action. Read `Names` and
-- `Keys` of `lookup_names` before it and `Contents` after it.
use Rattle.std.specs.Prelude.{ℕ, ◌+◌, List, [], ◌∷◌, codes, Bool, true, false, Some, None}
use Rattle.indus_tree.specs.Tree.{Shape, one, list, set, dict}
use Rattle.indus_tree.specs.State.{shape_width}
use Rattle.indus_tree.specs.declared.tree.Ty.{Ty}
use Rattle.p4_tree.specs.Tree.{Expr, num, Stmts, assign, done, next, Action, Table}
use Rattle.p4_tree.specs.declared.statement.PTy.{PTy}
use Rattle.p4_tree.specs.declared.statement.PTy.TheVariants.{Bit}
use Rattle.lookup_names.specs.Names.{table_name, action_name, found_name, key_name, value_name}
use Rattle.lookup_names.specs.Keys.{key_types, variable}

-- each part of the key is a variable, and is matched exactly
abbrev pub key_at : (number part : ℕ) → Expr × List ℕ
key_at n i = (variable (key_name n i), codes "exact")

-- a key for each part, the first of which has the number i
abbrev pub keys_from : (number i : ℕ) → List Ty → List (Expr × List ℕ)
keys_from n i [] = []
keys_from n i (t ∷ ts) = key_at n i ∷ keys_from n (i + 1) ts

-- a number of written width
abbrev pub number : (width value : ℕ) → Expr
number w v = num 0 (record { width = w; value = v })

-- some keys find nothing
abbrev pub has_miss : Shape → Bool
has_miss (one t) = false
has_miss (list t n) = false
has_miss (set ts) = true
has_miss (dict ts t) = true

-- a set and a dict also have the miss, in which nothing is done; a scalar has its first action alone
abbrev pub actions_of : (number : ℕ) → Shape → List (List ℕ)
actions_of n (one t) = action_name n ∷ []
actions_of n (list t k) = action_name n ∷ []
actions_of n (set ts) = action_name n ∷ codes "NoAction" ∷ []
actions_of n (dict ts t) = action_name n ∷ codes "NoAction" ∷ []

-- the default that is written: the miss, or for a scalar the first action with 0
abbrev pub default_of : (number : ℕ) → Shape → List ℕ × List Expr
default_of n (one t) = (action_name n, number (shape_width (one t)) 0 ∷ [])
default_of n (list t k) = (action_name n, number (shape_width (list t k)) 0 ∷ [])
default_of n (set ts) = (codes "NoAction", [])
default_of n (dict ts t) = (codes "NoAction", [])

abbrev pub table_of : (number : ℕ) → Shape → Table
table_of n s =
    record { at = 0; name = table_name n; keys = keys_from n 0 (key_types s); actions = actions_of n s; default = Some (default_of n s); fixed = false; size = None }

-- the first action has no parameter for a set, and else one as wide as a value
abbrev pub params_of : Shape → List (PTy × List ℕ)
params_of (one t) = (Bit (shape_width (one t)), value_name) ∷ []
params_of (list t n) = (Bit (shape_width (list t n)), value_name) ∷ []
params_of (set ts) = []
params_of (dict ts t) = (Bit (shape_width (dict ts t)), value_name) ∷ []

-- it says that a key of a set is there, or gives the value
abbrev pub given_by : Shape → Expr
given_by (one t) = variable value_name
given_by (list t n) = variable value_name
given_by (set ts) = number 1 1
given_by (dict ts t) = variable value_name

abbrev pub body_of : (number : ℕ) → Shape → Stmts
body_of n s = next (assign 0 (found_name n ∷ []) (given_by s)) done

abbrev pub action_of : (number : ℕ) → Shape → Action
action_of n s = record { at = 0; name = action_name n; params = params_of s; body = body_of n s }

-- Words that have a meaning at some places of the grammar, and are names at all others.
use Rattle.std.specs.Prelude.{ℕ, List, Bool, true, false, codes}

-- `isValid`, behind a header
abbrev pub valid_name : List ℕ
valid_name = codes "isValid"

-- `apply`, behind a table and before a control's statements
abbrev pub apply_name : List ℕ
apply_name = codes "apply"

-- what a table's application is asked: `hit`, or `miss`
abbrev pub outcome_name : (hit : Bool) → List ℕ
outcome_name true = codes "hit"
outcome_name false = codes "miss"

-- what begins a table's property
abbrev pub key_name : List ℕ
key_name = codes "key"

abbrev pub size_name : List ℕ
size_name = codes "size"

abbrev pub actions_name : List ℕ
actions_name = codes "actions"

abbrev pub default_name : List ℕ
default_name = codes "default_action"

-- `main`, at the end of a program
abbrev pub main_name : List ℕ
main_name = codes "main"

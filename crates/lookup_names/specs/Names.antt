-- What the lookup of a number declares, by their names, which begin with `hydra_`.
use Rattle.std.specs.Prelude.{ℕ, List, ◌++◌, codes}
use Rattle.std.specs.Fmt.{decimal}

-- the table, and its first action
abbrev pub table_name : (number : ℕ) → List ℕ
table_name n = codes "hydra_t_" ++ decimal n

abbrev pub action_name : (number : ℕ) → List ℕ
action_name n = codes "hydra_a_" ++ decimal n

-- the variable that holds what is found
abbrev pub found_name : (number : ℕ) → List ℕ
found_name n = codes "hydra_f_" ++ decimal n

-- the variables that hold the parts of the key, numbered from 0
abbrev pub key_name : (number part : ℕ) → List ℕ
key_name n i = codes "hydra_k_" ++ (decimal n ++ (codes "_" ++ decimal i))

-- the parameter of the first action, where it has one
abbrev pub value_name : List ℕ
value_name = codes "hydra_value"

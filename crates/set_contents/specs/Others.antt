-- What new contents of a variable leave alone. Read `Numbers` of control_maps before it.
use Rattle.std.specs.Prelude.{◌≡◌, ◌≢◌, ℕ, List, true, nat_eq}
use Rattle.std.specs.List.{AllByRecursion}
use Rattle.p4_tables.specs.State.{Held, held_at}
use Rattle.control_maps.specs.Numbers.{Numbered}

-- no table of the variable has this number
abbrev pub IsOther : List Numbered → (variable table : ℕ) → Type 0
IsOther ns v n = AllByRecursion (λ m. nat_eq m.variable v ≡ true → m.table ≢ n) ns

-- all other tables hold what they held
abbrev pub OthersHold : List Numbered → (variable : ℕ) → (old now : List Held) → Type 0
OthersHold ns v old now = (n : ℕ) → IsOther ns v n → held_at now n ≡ held_at old n

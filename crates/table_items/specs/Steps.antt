-- The sums of the switches, variable by variable and event by event. A sum stops at the first number that is too large
-- for a switch.
use Rattle.std.specs.Prelude.{ℕ, zero, suc, ◌+◌, ◌*◌, max, min, List, [], ◌∷◌, map, ◌==◌, nat_lt, if◌then◌else◌}
use Rattle.indus_tree.specs.Tree.{Decl, Property}
use Rattle.indus_tree.specs.State.{Contents}
use Rattle.indus_tree.specs.Hops.{same_kind}
use Rattle.indus_tree.specs.declared.tree.DeclKind.TheVariants.{Control}
use Rattle.indus_types.specs.Sums.{cut}
use Rattle.network_run.specs.Events.{Event, Enter, Leave, Set}
use Rattle.table_items.specs.Items.{items_of, held_items, reads_of}

-- the number, or the first that is too large for a switch
abbrev pub cap : ℕ → ℕ
cap n = min n 65537

-- a place's number where the new one is smaller
abbrev pub raise : List ℕ → (place n : ℕ) → List ℕ
raise [] i n = []
raise (x ∷ xs) zero n = max x n ∷ xs
raise (x ∷ xs) (suc i) n = x ∷ raise xs i n

-- the numbers of items with what one event sets
abbrev pub with_event : (variable : ℕ) → List ℕ → Event Contents → List ℕ
with_event v xs (Enter n) = xs
with_event v xs (Leave n) = xs
with_event v xs (Set s w c) = if w == v then raise xs s (items_of c) else xs

-- and with all events
abbrev pub noted : (variable : ℕ) → List ℕ → List (Event Contents) → List ℕ
noted v xs [] = xs
noted v xs (e ∷ es) = noted v (with_event v xs e) es

-- the sums with what each switch has to hold for a variable that is read so often
abbrev pub added : (reads : ℕ) → (sums most : List ℕ) → List ℕ
added r [] xs = []
added r (a ∷ sums) [] = []
added r (a ∷ sums) (x ∷ xs) = cap (a + r * x) ∷ added r sums xs

module _ (p : Property) (css : List (List Contents)) (es : List (Event Contents)) where
  -- the sums with one control variable; one that is never read adds nothing
  abbrev pub with_variable : (v k : ℕ) → List ℕ → List ℕ
  with_variable v k sums =
      if nat_lt 0 (cut (reads_of p v))
      then added (cut (reads_of p v)) sums (noted v (map (held_items k) css) es)
      else sums

  -- the sums with the control variables among some declarations
  abbrev pub with_variables : (v k : ℕ) → List ℕ → List Decl → List ℕ
  with_variables v k sums [] = sums
  with_variables v k sums (d ∷ ds) =
      if same_kind Control d.kind
      then with_variables (v + 1) (k + 1) (with_variable v k sums) ds
      else with_variables (v + 1) k sums ds

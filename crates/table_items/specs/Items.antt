-- How many table items each switch has to hold for the control variables of a property, and whether these are too many.
-- What is set at no switch of the network, or for no control variable, counts nowhere. Read `Sums` of indus_types before
-- it.
use Rattle.std.specs.Prelude.{ℕ, ◌+◌, ◌*◌, ◌^◌, max, sum, List, [], ◌∷◌, length, slice_get, position, ◌==◌, nat_lt, ◌&&◌, Option, Some, None, Result, Ok, Err, if◌then◌else◌, ⊤}
use Rattle.indus_tree.specs.Tree.{Decl, Property}
use Rattle.indus_tree.specs.State.{Contents, single, members, pairs}
use Rattle.indus_tree.specs.Hops.{same_kind}
use Rattle.indus_tree.specs.declared.tree.DeclKind.TheVariants.{Control}
use Rattle.indus_types.specs.Sums.{nth_lookups}
use Rattle.network_run.specs.Events.{Event, Enter, Leave, Set}
use Rattle.table_items.specs.declared.fault.TooMany.{TooMany}

-- ---- one variable at one switch

-- the items of contents are the entries that a table gets for them (`entries_for` of control_tables): one for each key of
-- a set, and one for each pair of a dict. A scalar gives its table a default and no entry
abbrev pub items_of : Contents → ℕ
items_of (single w) = 0
items_of (members ks) = length ks
items_of (pairs es) = length es

abbrev pub items_in : Option Contents → ℕ
items_in None = 0
items_in (Some c) = items_of c

-- of the contents that a switch has at first, which are those of all control variables in order of declaration
abbrev pub held_items : (seat : ℕ) → List Contents → ℕ
held_items k cs = items_in (slice_get cs k)

-- of what an event sets the variable of a number to, at the switch
abbrev pub event_items : (switch variable : ℕ) → Event Contents → ℕ
event_items s v (Enter n) = 0
event_items s v (Leave n) = 0
event_items s v (Set t w c) = if t == s && w == v then items_of c else 0

-- the greatest number that an event sets it to
abbrev pub greatest_set : (switch variable : ℕ) → List (Event Contents) → ℕ
greatest_set s v [] = 0
greatest_set s v (e ∷ es) = max (event_items s v e) (greatest_set s v es)

-- the greatest number of items that the variable has at the switch, at first or by any event
abbrev pub greatest_items : (switch variable seat : ℕ) → List Contents → List (Event Contents) → ℕ
greatest_items s v k cs es = max (held_items k cs) (greatest_set s v es)

-- ---- all variables at one switch

-- how often the control variable of a number is read. A number has 32 bits, which it has in every property that is read
-- from a file
abbrev pub reads_of : Property → (variable : ℕ) → ℕ
reads_of p v = if nat_lt v (2 ^ 32) then nth_lookups p v else 0

-- the items for the control variables among some declarations, the first of which has the number v, where k control
-- variables stand before it: each as often as the variable is read, since each reading has a table of its own
abbrev pub items_from : Property → (switch : ℕ) → List Contents → List (Event Contents) → (v k : ℕ) → List Decl → ℕ
items_from p s cs es v k [] = 0
items_from p s cs es v k (d ∷ ds) =
    if same_kind Control d.kind
    then reads_of p v * greatest_items s v k cs es + items_from p s cs es (v + 1) (k + 1) ds
    else items_from p s cs es (v + 1) k ds

-- the table items of a switch: the entries that it is given, and those for the control variables
abbrev pub switch_items : Property → (switch : ℕ) → List (Event Contents) → (entries : ℕ) → List Contents → ℕ
switch_items p s es n cs = n + items_from p s cs es 0 0 p.decls

-- ---- all switches

-- those of each switch, the first of which has the number s
abbrev pub all_items : Property → (s : ℕ) → List (Event Contents) → (entries : List ℕ) → List (List Contents) → List ℕ
all_items p s es [] css = []
all_items p s es (n ∷ ns) [] = []
all_items p s es (n ∷ ns) (cs ∷ css) = switch_items p s es n cs ∷ all_items p (s + 1) es ns css

-- the first switch that has too many, else the number of switches where all together have too many
abbrev pub too_many_in : List ℕ → Option ℕ → Result ⊤ TooMany
too_many_in sums (Some s) = Err (record { switch = s })
too_many_in sums None = if nat_lt 1048576 (sum sums) then Err (record { switch = length sums }) else Ok tt

abbrev pub too_many_of : List ℕ → Result ⊤ TooMany
too_many_of sums = too_many_in sums (position (λ n. nat_lt 65536 n) sums)

-- whether what a network's switches hold is within the limits: `entries` and `control` have a member for each switch
abbrev pub within_limits : Property → (entries : List ℕ) → (control : List (List Contents)) → List (Event Contents) → Result ⊤ TooMany
within_limits p ns css es = too_many_of (all_items p 0 es ns css)

-- What tables hold in the middle of a walk over those of another program, from the last one to the first. Read `Carried`
-- before it.
use Rattle.std.specs.Prelude.{ℕ, List, [], ◌∷◌, set}
use Rattle.p4_meaning.specs.Tables.{Table}
use Rattle.p4_meaning.specs.Parts.{Parts}
use Rattle.p4_tables.specs.State.{Held, held_at}
use Rattle.p4_tables.specs.Named.{table_place}
use Rattle.p4_tables.specs.Carried.{same_number, refilled}

-- the table of this name holds what a table of the other program holds
abbrev pub with_refilled : (from to : Parts) → (x : List ℕ) → Held → List Held → List Held
with_refilled from to x h st = set st (table_place to.tables x) (refilled (same_number from.actions to.actions) (held_at st (table_place to.tables x)) h)

-- so do those of all these names; of several of one name the first counts
abbrev pub all_refilled : (from to : Parts) → List Table → List Held → List Held → List Held
all_refilled from to [] hs before = before
all_refilled from to (t ∷ ts) [] before = before
all_refilled from to (t ∷ ts) (h ∷ hs) before = with_refilled from to t.name h (all_refilled from to ts hs before)

-- One walk over a table's entries. Read `Entries` before it.
use Rattle.std.specs.Prelude.{ℕ, List, [], ◌∷◌, Bool, Option, Some, None, if◌then◌else◌, nat_lt}
use Rattle.std.proofs.Common.{Bor}
use Rattle.bit_values.specs.Bits.{Word}
use Rattle.p4_meaning.specs.Choice.{prefix_of, fits_keys}
use Rattle.table_entries.specs.Entries.{Entry}

-- what is lent
abbrev pub lent : {A : Type 0} → Option (Bor A) → Option A
lent None = None
lent (Some x) = Some x.now

-- what decides between entries that fit: with a ternary key the priority, and else the prefix
abbrev pub rank_in : (has_ternary : Bool) → Entry → ℕ
rank_in t e = if t then e.priority else prefix_of e.keys

-- the higher of two entries, and the first of two with one rank
abbrev pub higher_in : (has_ternary : Bool) → Entry → Option Entry → Entry
higher_in t e None = e
higher_in t e (Some f) = if nat_lt (rank_in t e) (rank_in t f) then f else e

-- the entry that one walk over all entries finds
abbrev pub found_in : (has_ternary : Bool) → List Entry → List Word → Option Entry
found_in t [] keys = None
found_in t (e ∷ es) keys = if fits_keys e.keys keys then Some (higher_in t e (found_in t es keys)) else found_in t es keys

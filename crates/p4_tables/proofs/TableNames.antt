-- The tables of names.
use Rattle.std.proofs.Common.{◌≡◌, ℕ, suc, ◌<◌, ◌≤◌, List, [], ◌∷◌, ◌||◌, length, Bool, true, false, cond, refl, arith}
use Rattle.lex_text.specs.Names.{same_text}
use Rattle.p4_meaning.specs.Tables.{Table}
use Rattle.p4_tables.specs.State.{Held, held_at}
use Rattle.p4_tables.specs.Named.{entries_named, tables_named, table_place}
use Rattle.p4_tables.specs.Carried.{is_table}

place_step : (nt : ℕ → List ℕ) (t : Table) (ts : List Table) (h : Held) (hs : List Held) (x : List ℕ) (b : Bool) → cond b 0 (suc (table_place ts x)) < suc (length ts) → cond b 0 (suc (table_place ts x)) < suc (length hs)
    → (table_place ts x < length ts → table_place ts x < length hs → (is_table ts x ≡ true) × (tables_named nt ts hs x ≡ entries_named nt (held_at hs (table_place ts x))))
    → ((b || is_table ts x) ≡ true) × (cond b (entries_named nt h) (tables_named nt ts hs x) ≡ entries_named nt (held_at (h ∷ hs) (cond b 0 (suc (table_place ts x)))))
place_step nt t ts h hs x true lt there ih = (refl, refl)
place_step nt t ts h hs x false lt there ih = ih (omega arith) (omega arith)

-- what a table holds that is there
pub found : (nt : ℕ → List ℕ) (ts : List Table) (hs : List Held) (x : List ℕ) → table_place ts x < length ts → table_place ts x < length hs → (is_table ts x ≡ true) × (tables_named nt ts hs x ≡ entries_named nt (held_at hs (table_place ts x)))
found nt [] hs x lt there = absurd (omega arith)
found nt (t ∷ ts) [] x lt there = absurd (omega arith)
found nt (t ∷ ts) (h ∷ hs) x lt there = place_step nt t ts h hs x (same_text t.name x) lt there (found nt ts hs x)

none_step : (t : Table) (ts : List Table) (x : List ℕ) (b : Bool) → suc (length ts) ≤ cond b 0 (suc (table_place ts x)) → (length ts ≤ table_place ts x → is_table ts x ≡ false) → (b || is_table ts x) ≡ false
none_step t ts x true le ih = absurd (omega arith)
none_step t ts x false le ih = ih (omega arith)

-- and that there is none
pub none : (ts : List Table) (x : List ℕ) → length ts ≤ table_place ts x → is_table ts x ≡ false
none [] x le = refl
none (t ∷ ts) x le = none_step t ts x (same_text t.name x) le (none ts x)

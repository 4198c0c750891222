-- The first of what is left, in lists that are walked together.
use Rattle.std.proofs.Common.{◌≡◌, ℕ, zero, suc, ◌+◌, List, [], ◌∷◌, get_or, drop, refl, add-one}
use Rattle.p4_meaning.specs.Actions.{Action}
use Rattle.p4_meaning.specs.Tables.{Key, Table}
use Rattle.p4_tables.specs.Programs.{kind_of, no_value, key_shapes, table_before, tables_before}
use Rattle.value_shapes.specs.declared.values.ValueShape.{ValueShape}

next_key : (k : Key) (ks : List Key) (ws : List ValueShape) (i : ℕ) → key_shapes (k ∷ ks) (drop i ws) ≡ record { kind = kind_of k.kind; value = get_or ws i no_value } ∷ key_shapes ks (drop (suc i) ws)
next_key k ks [] zero = refl
next_key k ks [] (suc i) = refl
next_key k ks (w ∷ ws) zero = refl
next_key k ks (w ∷ ws) (suc i) = next_key k ks ws i

-- a key with what it holds
pub keys_step : (k : Key) (ks : List Key) (ws : List ValueShape) (i : ℕ) → key_shapes (k ∷ ks) (drop i ws) ≡ record { kind = kind_of k.kind; value = get_or ws i no_value } ∷ key_shapes ks (drop (i + 1) ws)
keys_step k ks ws i = rw add-one (next_key k ks ws i)

next_table : (as' : List Action) (pss : List (List ValueShape)) (t : Table) (ts : List Table) (kss : List (List ValueShape)) (i : ℕ) → tables_before as' pss (t ∷ ts) (drop i kss) ≡ table_before as' pss t (get_or kss i []) ∷ tables_before as' pss ts (drop (suc i) kss)
next_table as' pss t ts [] zero = refl
next_table as' pss t ts [] (suc i) = refl
next_table as' pss t ts (ks ∷ kss) zero = refl
next_table as' pss t ts (ks ∷ kss) (suc i) = next_table as' pss t ts kss i

-- a table with what its keys hold
pub tables_step : (as' : List Action) (pss : List (List ValueShape)) (t : Table) (ts : List Table) (kss : List (List ValueShape)) (i : ℕ) → tables_before as' pss (t ∷ ts) (drop i kss) ≡ table_before as' pss t (get_or kss i []) ∷ tables_before as' pss ts (drop (i + 1) kss)
tables_step as' pss t ts kss i = rw add-one (next_table as' pss t ts kss i)

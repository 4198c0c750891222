-- The declarations that a scope of the program holds, with what is known of each. Read `Resolving` before it.
use Rattle.std.specs.Prelude.{◌≡◌, ℕ, List, [], ◌∷◌, false, Option}
use Rattle.std.specs.Map.{lookup}
use Rattle.std.specs.Str.{bytes_eq}
use Rattle.std.specs.Borrow.{Bor}
use Rattle.p4_tree.specs.declared.statement.PTy.{PTy}
use Rattle.p4_scopes.specs.Scopes.{Stands, missing, typed, held, cells, act, rows, state, other, What, alias, fields, value, register, action, table, parser_state, part, typed_thing, as_held, thing_in, kind_in, kinds_in}
use Rattle.p4_scopes.specs.View.{Declaration, scope_of}
use Rattle.p4_scopes.specs.Resolving.{end_of, resolve, field_resolved, or_missing, walk}
use Rattle.p4_scopes.specs.declared.resolved.Resolved.{Resolved}
use Rattle.p4_scopes.specs.declared.resolved.Resolved.TheVariants as resolved
use Rattle.p4_scopes.specs.declared.entry.Declared as code
use Rattle.p4_scopes.specs.declared.entry.Declared.TheVariants as known
use Rattle.p4_scopes.specs.declared.entry.Entry as code_entry

-- what a table has at a name
abbrev pub table_at : {V : Type 0} → List (Bor (List ℕ) × V) → List ℕ → Option V
table_at es x = lookup (λ k. bytes_eq x k.now) es

-- what is declared
abbrev pub what_in : code.Declared → What
what_in (known.Alias t h) = alias t.now
what_in (known.Fields h fs named) = fields h fs.now
what_in (known.Value a t r) = value a t.now
what_in (known.Register t k) = register t.now
what_in (known.Action ps m ks) = action ps.now m
what_in (known.Table m) = table m
what_in known.State = parser_state
what_in known.Part = part

abbrev pub declaration_of : code_entry.Entry → Declaration
declaration_of e = record { name = e.name.now; what = what_in e.declared }

-- the table has the fields by their names
abbrev pub IsFieldTable : List Declaration → List (PTy × List ℕ) → List (Bor (List ℕ) × Resolved) → Type 0
IsFieldTable ds fs es = (y : List ℕ) → table_at es y ≡ field_resolved ds fs y

-- what is known of a declaration behind these is so
abbrev pub IsKnown : List Declaration → code.Declared → Type 0
IsKnown ds (known.Alias t h) = h ≡ thing_in (scope_of ds) t.now
IsKnown ds (known.Fields h fs named) = IsFieldTable ds fs.now named.entries
IsKnown ds (known.Value a t r) = r ≡ resolve ds t.now
IsKnown ds (known.Register t k) = k ≡ kind_in (scope_of ds) t.now
IsKnown ds (known.Action ps m ks) = ks.items ≡ kinds_in (scope_of ds) ps.now
IsKnown ds (known.Table m) = Unit {0}
IsKnown ds known.State = Unit {0}
IsKnown ds known.Part = Unit {0}

-- what a declaration of the number i is as a type
abbrev pub entry_resolved : code.Declared → (i : ℕ) → Resolved
entry_resolved (known.Alias t h) i = resolved.Single false h
entry_resolved (known.Fields h fs named) i = resolved.Declared h i
entry_resolved _ i = resolved.Missing

-- the type of a field
abbrev pub entry_field : code.Declared → List ℕ → Resolved
entry_field (known.Fields h fs named) y = or_missing (table_at named.entries y)
entry_field _ y = resolved.Missing

-- a path behind a declared name, where all these are declared
abbrev pub entry_behind : List Declaration → code.Declared → List (List ℕ) → Stands
entry_behind ds (known.Alias t h) [] = typed false h
entry_behind ds (known.Alias t h) (x ∷ xs) = missing
entry_behind ds (known.Fields h fs named) [] = typed false h
entry_behind ds (known.Fields h fs named) (x ∷ xs) = walk ds (or_missing (table_at named.entries x)) xs
entry_behind ds (known.Value a t r) [] = held a (typed_thing (end_of r))
entry_behind ds (known.Value a t r) (x ∷ xs) = as_held a (walk ds r (x ∷ xs))
entry_behind ds (known.Register t k) [] = cells k
entry_behind ds (known.Register t k) (x ∷ xs) = missing
entry_behind ds (known.Action ps m ks) [] = act ks.items m
entry_behind ds (known.Action ps m ks) (x ∷ xs) = missing
entry_behind ds (known.Table m) [] = rows m
entry_behind ds (known.Table m) (x ∷ xs) = missing
entry_behind ds known.State [] = state
entry_behind ds known.State (x ∷ xs) = missing
entry_behind ds known.Part [] = other
entry_behind ds known.Part (x ∷ xs) = missing

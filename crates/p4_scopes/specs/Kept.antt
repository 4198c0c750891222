-- What holds of a scope of the program. Read `Entries` before it.
use Rattle.std.specs.Prelude.{◌≡◌, ℕ, List, map, take, slice_get, Option, Some, None}
use Rattle.p4_scopes.specs.View.{Declaration}
use Rattle.p4_scopes.specs.Resolving.{last_at}
use Rattle.p4_scopes.specs.Entries.{table_at, declaration_of, IsKnown}
use Rattle.p4_scopes.specs.declared.entry.Entry as code_entry
use Rattle.p4_scopes.specs.declared.scope.Scope.TheInside.{Inside}

abbrev pub declarations : Inside → List Declaration
declarations s = map declaration_of s.entries.items

-- a number that may be out of sight, if there is one
abbrev pub in_sight : Option (Option ℕ) → Option ℕ
in_sight None = None
in_sight (Some i) = i

-- an entry behind these declarations: the number before it of its name, and what is known of it
pub record IsEntry (ds : List Declaration) (e : code_entry.Entry) : Type 0 where
  pub older : e.older ≡ last_at ds e.name.now
  pub known : IsKnown ds e.declared

-- each entry is right behind those before it
abbrev pub AreEntries : List code_entry.Entry → Type 0
AreEntries es = (i : ℕ) (e : code_entry.Entry) → slice_get es i ≡ Some e → IsEntry (take i (map declaration_of es)) e

-- the table has the number of the last declaration of each name
pub record IsKept (s : Inside) : Type 0 where
  pub named : (x : List ℕ) → in_sight (table_at s.names.entries x) ≡ last_at (declarations s) x
  pub entries : AreEntries s.entries.items

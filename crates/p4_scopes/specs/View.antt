-- The scope that declarations make, and what the values of the program stand for. Read `Scopes` before it.
use Rattle.std.specs.Prelude.{ℕ, List, [], ◌∷◌, ◌++◌}
use Rattle.p4_scopes.specs.Scopes.{Stands, missing, typed, held, cells, act, rows, state, function, algorithm, other, Scope, What, alias, fields, value, register, action, table, parser_state, part, declare, core}
use Rattle.p4_scopes.specs.declared.what.What as code_what
use Rattle.p4_scopes.specs.declared.what.What.TheVariants as what
use Rattle.p4_scopes.specs.declared.stands.Stands as code_stands
use Rattle.p4_scopes.specs.declared.stands.Stands.TheVariants as stands

-- a name with what it is
pub record Declaration : Type 0 where
  pub name : List ℕ
  pub what : What

-- the scope behind declarations, of which the first comes first
abbrev pub declare_all : Scope → List Declaration → Scope
declare_all s [] = s
declare_all s (d ∷ ds) = declare_all (declare s d.name d.what) ds

-- what is in sight behind declarations
abbrev pub scope_of : List Declaration → Scope
scope_of ds = declare_all core ds

-- one declaration more
abbrev pub with_declaration : List Declaration → List ℕ → What → List Declaration
with_declaration ds x w = ds ++ (record { name = x; what = w }) ∷ []

-- ---- of the program's values

abbrev pub what_of : code_what.What → What
what_of (what.Alias t) = alias t.now
what_of (what.Fields h fs) = fields h fs.now
what_of (what.Value a t) = value a t.now
what_of (what.Register t) = register t.now
what_of (what.Action ps m) = action ps.now m
what_of (what.Table m) = table m
what_of what.State = parser_state
what_of what.Part = part

abbrev pub stands_of : code_stands.Stands → Stands
stands_of stands.Missing = missing
stands_of (stands.Typed f t) = typed f t
stands_of (stands.Held a t) = held a t
stands_of (stands.Cells k) = cells k
stands_of (stands.Act ks m) = act ks.now m
stands_of (stands.Rows m) = rows m
stands_of stands.State = state
stands_of (stands.Function f) = function f
stands_of stands.Algorithm = algorithm
stands_of stands.Other = other

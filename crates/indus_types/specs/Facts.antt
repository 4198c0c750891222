-- What well-typedness says of a tree. Read `Sites` and `Rules` of `indus_rules` before it.
use Rattle.std.specs.Prelude.{◌≡◌, ◌⊎◌, ℕ, List, false, IsSome}
use Rattle.indus_tree.specs.Tree.{Expr, read, count, index, member, Property}
use Rattle.indus_tree.specs.Reports.{HasShortReports}
use Rattle.indus_tree.specs.State.{lookup}
use Rattle.indus_scopes.specs.Kinds.{kinds_differ, widths_differ}
use Rattle.indus_scopes.specs.Scopes.{Sight, item_of, builtin_of, own}
use Rattle.indus_rules.specs.Sites.{property_sites, expr_sites}
use Rattle.indus_rules.specs.Rules.{Fine, IsWellTyped}
use Rattle.indus_scopes.specs.declared.kind.Kind.{Kind}

-- of a well-typed property each site is fine by itself. Layers above take what they need of it by projection: the sites
-- of an expression, a statement and a block are those of their parts, one behind the other
abbrev pub EachFine : Type 0
EachFine = (p : Property) → IsWellTyped p → Fine (property_sites p)

-- a name stands for an item of a surrounding loop, a name of the language's own or a declared variable
abbrev pub IsKnown : Sight → List ℕ → Type 0
IsKnown g x = IsSome (item_of g.decls g.loops x) ⊎ IsSome (builtin_of x) ⊎ IsSome (lookup g.decls x)

-- each name that an expression itself cites is known
abbrev pub CitesKnown : Sight → Expr → Type 0
CitesKnown g (read p x) = IsKnown g x
CitesKnown g (count p x) = IsKnown g x
CitesKnown g (index p x ks) = IsKnown g x
CitesKnown g (member p ks x) = IsKnown g x
CitesKnown g e = Unit {0}

-- a fine expression cites known names, and neither its kind nor its width differs from what its place wants
pub record Agrees (g : Sight) (want : Kind) (e : Expr) : Type 0 where
  pub known : CitesKnown g e
  pub kind : kinds_differ (own g e) want ≡ false
  pub width : widths_differ (own g e) want ≡ false

abbrev pub FineAgrees : Type 0
FineAgrees = (g : Sight) (want : Kind) (e : Expr) → Fine (expr_sites g want e) → Agrees g want e

-- ---- reports of at most eight values

-- the reports of a well-typed property are short
abbrev pub ReportsAreShort : Type 0
ReportsAreShort = (p : Property) → IsWellTyped p → HasShortReports p

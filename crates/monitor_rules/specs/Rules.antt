-- The trees of a property break no rule of P4, in each scope in which a control of a linked program can stand. Read `Fields`
-- before it.
use Rattle.std.specs.Prelude.{ℕ, List}
use Rattle.p4_meaning.specs.Scope.{Roots}
use Rattle.p4_scopes.specs.Scopes.{Scope}
use Rattle.linked_rules.specs.Passes.{Passes}
use Rattle.whole_properties.specs.Whole.{Given}
use Rattle.whole_properties.specs.Asked.{IsGiven}
use Rattle.monitor_trees.specs.Trees.{trees_of}
use Rattle.monitor_rules.specs.Fields.{HasFields}

abbrev pub TreesPass : Type 0
TreesPass =
    (g : Given) → IsGiven g → (S : Scope) (H M : List ℕ) → HasFields S H M g.property.decls → (r q : Roots) → Passes (trees_of g r q) S H M r q

-- What the trees of a property declare. Read `Trees` of `monitor_trees` before it, and `Form` of `linked_rules`.
use Rattle.p4_meaning.specs.Scope.{Roots}
use Rattle.linked_rules.specs.Form.{DeclaresItsOwn}
use Rattle.whole_properties.specs.Whole.{Given}
use Rattle.monitor_trees.specs.Trees.{trees_of}

-- each name that they declare, at any depth, is the monitor's, whatever the property is
abbrev pub TreesDeclareTheirOwn : Type 0
TreesDeclareTheirOwn = (g : Given) (r q : Roots) → DeclaresItsOwn (trees_of g r q)

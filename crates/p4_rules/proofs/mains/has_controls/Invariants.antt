use Rattle.std.proofs.Common.{◌≡◌, drop, map}
use Rattle.p4_tree.specs.View.{top_of}
use Rattle.p4_rules.specs.Mains.{has_controls}
use Rattle.p4_rules.proofs.mains.has_controls.Given as goal

abbrev pub invariant-loop-name : goal.invariant-loop-name
invariant-loop-name l = has_controls (map top_of l.tops) (drop l.name-index l.names) ≡ has_controls (map top_of l.tops) l.names

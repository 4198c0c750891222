use Rattle.std.proofs.Common.{◌≡◌}
use Rattle.serde_json.specs.View.{members_view}
use Rattle.load_maker.specs.Fabric.{leaf_name}
use Rattle.load_maker.specs.Values.{put_all, tables, leaf_entries}
use Rattle.load_maker.proofs.entries.put_leaves.Given as goal

abbrev pub invariant-loop-leaf : goal.invariant-loop-leaf
invariant-loop-leaf l = members_view l.switches.entries ≡ put_all leaf_name (λ i. tables (leaf_entries i)) l.leaf (members_view l.initial.switches.entries)

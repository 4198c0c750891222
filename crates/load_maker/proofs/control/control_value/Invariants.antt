use Rattle.std.proofs.Common.{◌≡◌}
use Rattle.serde_json.specs.View.{members_view}
use Rattle.serde_json.specs.Data.{no_members}
use Rattle.load_maker.specs.Fabric.{leaf_name}
use Rattle.load_maker.specs.Values.{put_all, leaf_contents}
use Rattle.load_maker.proofs.control.control_value.Given as goal

abbrev pub invariant-loop-leaf : goal.invariant-loop-leaf
invariant-loop-leaf l = members_view l.switches.entries ≡ put_all leaf_name (λ _. leaf_contents) l.leaf no_members

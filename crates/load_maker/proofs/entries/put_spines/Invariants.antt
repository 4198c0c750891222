use Rattle.std.proofs.Common.{◌≡◌}
use Rattle.serde_json.specs.View.{members_view}
use Rattle.load_maker.specs.Fabric.{spine_name}
use Rattle.load_maker.specs.Values.{put_all, tables, spine_entries}
use Rattle.load_maker.proofs.entries.put_spines.Given as goal

abbrev pub invariant-loop-spine : goal.invariant-loop-spine
invariant-loop-spine l = members_view l.switches.entries ≡ put_all spine_name (λ _. tables spine_entries) l.spine (members_view l.initial.switches.entries)

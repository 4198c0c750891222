use Rattle.json_parts.proofs.TreeLemmas.{members_are}
use Rattle.json_parts.proofs.members.Members.new.Goals as goal

pub returns : goal.returns
returns c = members_are _ _ _ c.in-Some.object.now.entries _ c.in-Some.ensures c.first_unknown-unknown.ensures

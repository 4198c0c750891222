use Rattle.std.proofs.Common.{◌≡◌, drop}
use Rattle.exit_rewriting.specs.Groups.{first_in}
use Rattle.exit_rewriting.proofs.groups.Groups.mark.Given as goal

abbrev pub invariant-loop-group : goal.invariant-loop-group
invariant-loop-group l = first_in (drop l.group-index l.self.groups.items) l.x ≡ first_in l.self.groups.items l.x

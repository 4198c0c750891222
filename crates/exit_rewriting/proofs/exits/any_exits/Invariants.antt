use Rattle.std.proofs.Common.{◌≡◌, drop}
use Rattle.std.specs.List.{list_any}
use Rattle.exit_rewriting.specs.Groups.{is_marked_in}
use Rattle.exit_rewriting.specs.Exiting.{name_at}
use Rattle.exit_rewriting.proofs.exits.any_exits.Given as goal

abbrev pub invariant-loop-x : goal.invariant-loop-x
invariant-loop-x l = list_any (λ x. is_marked_in l.actions (name_at l.place x)) (drop l.x-index l.names) ≡ list_any (λ x. is_marked_in l.actions (name_at l.place x)) l.names

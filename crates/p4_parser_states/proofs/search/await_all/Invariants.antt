use Rattle.std.proofs.Common.{◌≡◌, ◌++◌, map, take}
use Rattle.p4_parser_states.proofs.search.await_all.Given as goal

abbrev pub invariant-loop-x : goal.invariant-loop-x
invariant-loop-x l = l.waiting.items ≡ l.initial.waiting.items ++ map (λ x. (l.place, x)) (take l.x-index l.onto)

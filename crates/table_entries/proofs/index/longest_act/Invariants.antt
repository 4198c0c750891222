use Rattle.std.proofs.Common.{◌≡◌}
use Rattle.table_entries.specs.Signs.{sign_act, wanted}
use Rattle.table_entries.specs.Index.{first_told, longest}
use Rattle.table_entries.proofs.index.longest_act.Given as goal

abbrev pub invariant-loop-act : goal.invariant-loop-act
invariant-loop-act l = first_told (λ n. sign_act l.kinds l.signs (wanted l.kinds n l.keys)) l.length ≡ first_told (λ n. sign_act l.kinds l.signs (wanted l.kinds n l.keys)) (longest l.kinds)

abbrev pub decreases-loop-act : goal.decreases-loop-act
decreases-loop-act l = l.length

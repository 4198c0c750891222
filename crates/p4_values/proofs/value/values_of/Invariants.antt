use Rattle.std.proofs.Common.{◌≡◌, map, take}
use Rattle.p4_tree.specs.View.{expr_of}
use Rattle.p4_meaning.specs.Value.{value_of}
use Rattle.p4_values.proofs.value.values_of.Given as goal

abbrev pub invariant-loop-e : goal.invariant-loop-e
invariant-loop-e g l = l.values.items ≡ map (λ e. value_of e 0 (g.S.Sight.store l.s)) (map expr_of (take l.e-index l.list))

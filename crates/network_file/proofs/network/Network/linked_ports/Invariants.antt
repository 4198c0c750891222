use Rattle.std.proofs.Common.{◌≡◌, ◌++◌, ℕ, All}
use Rattle.network_file.proofs.PortLemmas.{IsLow, near}
use Rattle.network_file.proofs.network.Network.linked_ports.Given as goal

abbrev pub invariant-loop-end : goal.invariant-loop-end
invariant-loop-end l =
    (goal.iterator-loop-end).can_next l.end-iterator ×
    (goal.iterator-loop-end).is_finite l.end-iterator ×
    (l.ports.items ++ near l.end-iterator l.switch ≡ near l.initial.end-iterator l.switch) ×
    All IsLow l.end-iterator

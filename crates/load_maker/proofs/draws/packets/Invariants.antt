use Rattle.std.proofs.Common.{◌≡◌, map}
use Rattle.load_maker.specs.Numbers.{numbers}
use Rattle.load_maker.specs.Draws.{packet, state_after}
use Rattle.load_maker.proofs.draws.packets.Given as goal

abbrev pub invariant-loop-i : goal.invariant-loop-i
invariant-loop-i l = record {
  state : l.draws.state ≡ state_after l.number l.i;
  drawn : l.packets.items ≡ map (λ i. packet i (state_after l.number i)) (numbers l.i);
}

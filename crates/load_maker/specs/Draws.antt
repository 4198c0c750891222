-- The packets that are drawn from a number.
use Rattle.std.specs.Prelude.{ℕ, zero, suc, ◌+◌, ◌*◌, ◌/◌, ◌%◌, ◌^◌, List, map}
use Rattle.load_maker.specs.Numbers.{numbers}
use Rattle.load_maker.specs.Fabric.{host_at}
use Rattle.load_maker.specs.declared.packet.Packet.{Packet}

-- the state after a draw
unfoldable pub next_state : ℕ → ℕ
next_state x = (x * 6364136223846793005 + 1442695040888963407) % 2 ^ 64

-- what a draw gives, by the state before it
abbrev pub draw : ℕ → ℕ
draw x = next_state x / 2 ^ 33

-- a packet of three draws: its source, its destination and the length of its payload
abbrev pub packet : (number state : ℕ) → Packet
packet i x = record {
  number = i;
  source = host_at (draw x % 16);
  destination = host_at (draw (next_state x) % 16);
  length = draw (next_state (next_state x)) % 64;
}

-- the state after the draws of so many packets
unfoldable pub state_after : ℕ → ℕ → ℕ
state_after x zero = x
state_after x (suc k) = next_state (next_state (next_state (state_after x k)))

-- the packets that are drawn from a number
abbrev pub packets : ℕ → List Packet
packets n = map (λ i. packet i (state_after n i)) (numbers 2000)

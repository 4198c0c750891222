-- The network of the wire program.
use Rattle.std.specs.Prelude.{[], ◌∷◌}
use Rattle.network_run.specs.Network.{Wiring}

-- three switches in a line, port 2 of each joined to port 1 of the next
abbrev pub wire_line : Wiring
wire_line =
    record {
      switches = 3;
      links = record { one = 0; one_port = 2; other = 1; other_port = 1 } ∷ record { one = 1; one_port = 2; other = 2; other_port = 1 } ∷ [];
    }

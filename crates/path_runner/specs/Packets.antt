-- Packets, frames and digests of the program, as the network's run has them.
use Rattle.p4_statements.specs.Runs.{digest_of}
use Rattle.switch_machines.specs.Programs.{network_digest}
use Rattle.network_run.specs.Network as network
use Rattle.network_run.specs.World.{Arrival}
use Rattle.path_runner.specs.declared.packet.Packet.{Packet}
use Rattle.path_runner.specs.declared.packet.Sent.{Sent}
use Rattle.path_runner.specs.declared.packet.Told.{Told}

abbrev pub arrival_of : Packet → Arrival
arrival_of p = record { switch = p.switch; port = p.port; frame = p.bytes.items }

abbrev pub sent_of : Sent → network.Sent
sent_of x = record { packet = x.packet; switch = x.switch; port = x.port; frame = x.frame.items }

abbrev pub told_of : Told → network.Told
told_of x = record { packet = x.packet; switch = x.switch; digest = network_digest (digest_of x.digest) }

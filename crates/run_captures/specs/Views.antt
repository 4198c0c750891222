-- Values of the program without where they lie in memory.
use Rattle.std.specs.Prelude.{ℕ, List, map}
use Rattle.std.specs.Global.{Vec}
use Rattle.std.specs.Borrow.{Bor}
use Rattle.network_run.specs.Network as network
use Rattle.path_runner.specs.Packets.{sent_of}
use Rattle.path_runner.specs.declared.packet.Sent.{Sent}
use Rattle.run_captures.specs.Captures as captures
use Rattle.run_captures.specs.declared.captures.Time.{Time}
use Rattle.run_captures.specs.declared.captures.Front.{Front}

abbrev pub time_view : Time → captures.Time
time_view t = record { seconds = t.seconds; micros = t.micros }

abbrev pub lent_view : Bor Sent → network.Sent
lent_view x = sent_of x.now

abbrev pub list_view : Vec (Bor Sent) → List network.Sent
list_view v = map lent_view v.items

abbrev pub front_view : Front → captures.Front
front_view f = record { out = f.out.now; kind = f.kind.now }

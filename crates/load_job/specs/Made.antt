-- The case that the made case file says. Read `Values` of load_maker and `Case` of case_file before it.
use Rattle.std.specs.Prelude.{ℕ, List, map, codes, Some, None}
use Rattle.case_file.specs.Case.{Case, Capture}
use Rattle.load_maker.specs.Numbers.{numbers}
use Rattle.load_maker.specs.Fabric.{leaf_name, host_at}
use Rattle.load_maker.specs.Captures.{capture_name}
use Rattle.load_maker.specs.Values.{file_name}

abbrev pub made_capture : (out : List ℕ) → (host : ℕ) → Capture
made_capture out k = record { switch = leaf_name (host_at k).leaf; port = (host_at k).port; file = capture_name out k }

-- a packet may pass 64 switches, and a frame carry 128 bytes of telemetry
abbrev pub made_case : (out : List ℕ) → Case
made_case out = record {
  captures = map (made_capture out) (numbers 16);
  control = Some (file_name out (codes "control.json"));
  entries = Some (file_name out (codes "entries.json"));
  hops = 64;
  network = file_name out (codes "net.json");
  program = file_name out (codes "basic.p4");
  property = Some (file_name out (codes "path.indus"));
  room = 128;
  schedule = None;
}

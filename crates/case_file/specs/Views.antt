-- Values of the program without where they lie in memory.
use Rattle.std.specs.Prelude.{List, map, option_map}
use Rattle.case_file.specs.Case as case
use Rattle.case_file.specs.declared.case.Capture.{Capture}
use Rattle.case_file.specs.declared.case.Case.{Case}
use Rattle.case_file.specs.declared.members.Front.{Front}

abbrev pub capture_view : Capture → case.Capture
capture_view c = record { switch = c.switch.now; port = c.port; file = c.file.now }

abbrev pub capture_views : List Capture → List case.Capture
capture_views cs = map capture_view cs

abbrev pub front_view : Front → case.Front
front_view f = record { captures = capture_views f.captures.items; control = option_map (λ s. s.now) f.control; entries = option_map (λ s. s.now) f.entries; hops = f.hops }

abbrev pub case_view : Case → case.Case
case_view c = record { captures = capture_views c.captures.items; control = option_map (λ s. s.now) c.control; entries = option_map (λ s. s.now) c.entries; hops = c.hops; network = c.network.now; program = c.program.now; property = option_map (λ s. s.now) c.property; room = c.room; schedule = option_map (λ s. s.now) c.schedule }

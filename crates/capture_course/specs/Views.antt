-- Values of the program without where they lie in memory.
use Rattle.std.specs.Prelude.{ℕ, List, map}
use Rattle.std.specs.Global.{Vec}
use Rattle.pcap_io.specs.Record.{Record, records_of}
use Rattle.pcap_io.specs.declared.captured.Captured.{Captured}
use Rattle.case_file.specs.declared.case.Capture.{Capture}

abbrev pub list_of : Vec Captured → List Record
list_of v = records_of v.items

-- the records of captures
abbrev pub lists_of : List (Vec Captured) → List (List Record)
lists_of vs = map list_of vs

abbrev pub name_of : Capture → List ℕ
name_of c = c.file.now

-- the names of the files of captures
abbrev pub names_of : List Capture → List (List ℕ)
names_of cs = map name_of cs

-- The one answer that a file has, as the reader finds it: the header, a record, the run of records.
use Rattle.std.specs.Prelude.{◌≡◌, ◌<◌, ◌^◌, ℕ, List, length, Result, Ok, Err}
use Rattle.std.specs.Global.{Vec}
use Rattle.pcap_io.specs.declared.captured.Captured.{Captured}
use Rattle.pcap_io.specs.declared.fault.CaptureFault.{CaptureFault}
use Rattle.pcap_io.specs.declared.fault.CaptureFault.TheVariants as fault
use Rattle.pcap_io.specs.declared.form.Form.{Form}
use Rattle.pcap_io.specs.Record.{Record, records_of}
use Rattle.pcap_io.specs.Holds.{HasHeader, Run, Holds}
use Rattle.pcap_io.specs.Faults.{HasBadMagic, HasBadVersion, HasOtherLink, IsCut, IsLong, HasTornRecord, HasLongRecord}

-- the file header has this fault
abbrev pub RefusesHeader : List ℕ → CaptureFault → Type 0
RefusesHeader file fault.NoMemory = ⊥
RefusesHeader file fault.ShortHeader = length file < 24
RefusesHeader file fault.BadMagic = HasBadMagic file
RefusesHeader file fault.BadVersion = HasBadVersion file
RefusesHeader file fault.NotEthernet = HasOtherLink file
RefusesHeader file (fault.TornRecord at) = ⊥
RefusesHeader file (fault.TooLong at) = ⊥

-- the record at this offset has this fault, or memory ran out there
abbrev pub StopsAt : Form → List ℕ → ℕ → CaptureFault → Type 0
StopsAt form file at fault.NoMemory = Unit {0}
StopsAt form file at fault.ShortHeader = ⊥
StopsAt form file at fault.BadMagic = ⊥
StopsAt form file at fault.BadVersion = ⊥
StopsAt form file at fault.NotEthernet = ⊥
StopsAt form file at (fault.TornRecord t) = (t ≡ at) × IsCut form file at
StopsAt form file at (fault.TooLong t) = (t ≡ at) × IsLong form file at

-- whole records stand behind the header up to an offset, where the run stops with this fault
abbrev pub RunStops : Form → List ℕ → CaptureFault → Type 0
RunStops form file f =
    (rs : List Record) × (at : ℕ) × Run form file rs 24 at × StopsAt form file at f

-- the file has this fault; memory can run out only behind a right header
abbrev pub Refuses : List ℕ → CaptureFault → Type 0
Refuses file fault.NoMemory = (form : Form) × HasHeader form file
Refuses file fault.ShortHeader = length file < 24
Refuses file fault.BadMagic = HasBadMagic file
Refuses file fault.BadVersion = HasBadVersion file
Refuses file fault.NotEthernet = HasOtherLink file
Refuses file (fault.TornRecord at) = HasTornRecord file at
Refuses file (fault.TooLong at) = HasLongRecord file at

-- the reader's answer for this file
abbrev pub IsAnswer : List ℕ → Result (Vec Captured) CaptureFault → Type 0
IsAnswer file (Ok list) = Holds file (records_of list.items)
IsAnswer file (Err f) = Refuses file f

-- the numbers of a record fit the 32 bits that a file has for each
pub record IsInRange (r : Record) : Type 0 where
  pub seconds : r.seconds < 2 ^ 32
  pub micros : r.micros < 2 ^ 32

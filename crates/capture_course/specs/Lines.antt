-- The lines of refused captures.
use Rattle.std.specs.Prelude.{ℕ, List, codes}
use Rattle.pcap_io.specs.declared.fault.CaptureFault.{CaptureFault}
use Rattle.pcap_io.specs.declared.fault.CaptureFault.TheVariants as fault
use Rattle.job_course.specs.declared.status.Area.TheVariants as area
use Rattle.job_course.specs.Lines.{memory_line, cause_line, place_line}

-- why a file is no capture; want of memory has another line
abbrev pub capture_line : (name : List ℕ) → CaptureFault → List ℕ
capture_line name fault.NoMemory = memory_line
capture_line name fault.ShortHeader = cause_line area.Capture name (codes "ShortHeader")
capture_line name fault.BadMagic = cause_line area.Capture name (codes "BadMagic")
capture_line name fault.BadVersion = cause_line area.Capture name (codes "BadVersion")
capture_line name fault.NotEthernet = cause_line area.Capture name (codes "NotEthernet")
capture_line name (fault.TornRecord at) = place_line area.Capture name (codes "TornRecord") at
capture_line name (fault.TooLong at) = place_line area.Capture name (codes "TooLong") at

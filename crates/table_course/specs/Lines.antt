-- The lines of refused files of tables and schedules.
use Rattle.std.specs.Prelude.{ℕ, List, [], ◌∷◌, ◌++◌, codes}
use Rattle.std.specs.Fmt.{decimal}
use Rattle.table_faults.specs.declared.entry.EntryFault.{EntryFault}
use Rattle.table_faults.specs.declared.entry.EntryFault.TheVariants as entry
use Rattle.table_faults.specs.declared.table.TableFault.{TableFault}
use Rattle.table_faults.specs.declared.table.TableFault.TheVariants as table
use Rattle.schedule_file.specs.declared.fault.ScheduleFault.{ScheduleFault}
use Rattle.schedule_file.specs.declared.fault.ScheduleFault.TheVariants as schedule
use Rattle.job_course.specs.declared.status.Area.TheVariants as area
use Rattle.job_course.specs.Lines.{memory_line, place_line}
use Rattle.network_course.specs.Lines.{path_line}

-- ---- files of tables

-- why a table refuses an entry; want of memory is no such fault
abbrev pub entry_word : EntryFault → List ℕ
entry_word entry.NoSuchAction = codes "Entry NoSuchAction"
entry_word entry.WidthDiffers = codes "Entry WidthDiffers"
entry_word entry.SameEntry = codes "Entry SameEntry"
entry_word entry.SamePriority = codes "Entry SamePriority"
entry_word entry.TableLimit = codes "Entry TableLimit"
entry_word entry.ConstDefault = codes "Entry ConstDefault"
entry_word entry.NoMemory = codes "Entry NoMemory"

abbrev pub table_word : TableFault → List ℕ
table_word table.NoMemory = []
table_word (table.Shape path) = codes "Shape"
table_word (table.NoSuchTable path) = codes "NoSuchTable"
table_word (table.NoSuchVariable path) = codes "NoSuchVariable"
table_word (table.Value path) = codes "Value"
table_word (table.Entry path f) = entry_word f
table_word (table.KeyTwice path) = codes "KeyTwice"
table_word (table.NoSuchSwitch path) = codes "NoSuchSwitch"

-- where the fault is
abbrev pub table_path : TableFault → List ℕ
table_path table.NoMemory = []
table_path (table.Shape path) = path
table_path (table.NoSuchTable path) = path
table_path (table.NoSuchVariable path) = path
table_path (table.Value path) = path
table_path (table.Entry path f) = path
table_path (table.KeyTwice path) = path
table_path (table.NoSuchSwitch path) = path

abbrev pub table_line : (name : List ℕ) → TableFault → List ℕ
table_line name f = path_line name (table_word f) (table_path f)

-- ---- schedules

-- a fault of what a member sets has its word, the member's number and the fault's path
abbrev pub control_line : (name : List ℕ) → (at : ℕ) → TableFault → List ℕ
control_line name at f =
    codes "hydra: network " ++ (name ++ (codes " Control " ++ (table_word f ++ (32 ∷ (decimal at ++ (32 ∷ (table_path f ++ 10 ∷ [])))))))

-- want of memory has another line
abbrev pub schedule_line : (name : List ℕ) → ScheduleFault → List ℕ
schedule_line name schedule.NoMemory = memory_line
schedule_line name (schedule.Shape at) = place_line area.Network name (codes "Shape") at
schedule_line name (schedule.NoSuchPacket at) = place_line area.Network name (codes "NoSuchPacket") at
schedule_line name (schedule.Control at f) = control_line name at f
schedule_line name (schedule.Queued at) = place_line area.Network name (codes "Queued") at

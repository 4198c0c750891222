-- The law: all that is claimed holds of a linker's programs, and of such with other values in them. Read `Claims` before it, and
-- `Simpler` of program_linker.
use Rattle.std.specs.Prelude.{List, map}
use Rattle.p4_tree.specs.Tree.{Program}
use Rattle.loaded_tables.specs.Rows.{Row}
use Rattle.linked_starts.specs.Starts.{found_row}
use Rattle.program_linker.specs.Simpler.{AreSimplyLinked}
use Rattle.linked_jobs.specs.Job.{Job, IsReady}
use Rattle.linked_jobs.specs.Run.{linked_in}
use Rattle.run_headline.specs.Claims.{Claims}

abbrev pub LinkedProgramsKeepTheClaims : Type 0
LinkedProgramsKeepTheClaims =
    (j : Job) → IsReady j →
    (programs : List Program) (rows : List Row) → AreSimplyLinked j.program j.property j.network programs (map found_row rows) →
    Claims j (linked_in programs rows)

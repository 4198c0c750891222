-- The end of a run of linked programs, and what is written of it. Read `Files` of run_texts, and `Nets` of path_runner, before it.
use Rattle.std.specs.Prelude.{◌≡◌, ℕ, ◌≤◌, List, length, All}
use Rattle.p4_tree.specs.Tree.{Program}
use Rattle.indus_tree.specs.Tree.{Decl}
use Rattle.network_run.specs.Network.{Sent}
use Rattle.path_runner.specs.Conditions.{most_bytes, most_packets}
use Rattle.path_runner.specs.Nets.{State, Shows}
use Rattle.switch_machines.specs.Programs.{Programs}
use Rattle.run_captures.specs.Captures.{Time}
use Rattle.job_course.specs.Output.{Out}
use Rattle.loaded_tables.specs.Rows.{Row}
use Rattle.run_texts.specs.Registers.{programs_in}
use Rattle.run_texts.specs.Files.{Run, files_of_run, summary_text_of}

-- the programs of the switches, the rows of the map with the property's declarations, and how many packets there are, with
-- their times
pub record Parts : Type 0 where
  pub programs : List Program
  pub rows : List Row
  pub decls : List Decl
  pub times : List Time
  pub packets : ℕ

-- a frame that captures hold
abbrev pub IsShort : Sent → Type 0
IsShort x = length x.frame ≤ most_bytes

-- the state at the end: there is a switch for each name, the switches run these programs, captures hold the frames on links
-- and those that left, and these are no more than packets may be
pub record IsEnd (ps : List Program) (s : State) : Type 0 where
  pub switches : length s.switches ≡ length s.network.names
  pub programs : programs_in s.switches ≡ ps
  pub wires : All IsShort s.traffic.wires
  pub edges : All IsShort s.traffic.edges
  pub few : length s.traffic.edges ≤ most_packets

-- the files and the text are those of a network
pub record IsRunOutput (out : List ℕ) (x : Parts) (names : List (List ℕ)) (w : Run) (given : Out) : Type 0 where
  pub files : given.files ≡ files_of_run out x.programs x.rows x.decls names x.times x.packets w
  pub text : given.text ≡ summary_text_of x.programs x.packets w

-- of each network for which the state stands
abbrev pub IsOutput : (out : List ℕ) → Parts → State → Out → Type 0
IsOutput out x s given = (p : Programs) (w : Run) → Shows p s w → IsRunOutput out x s.network.names w given

-- The switches of a run at its start and at its end. Read `Switches` of forward_texts before it.
use Rattle.std.specs.Prelude.{◌≡◌, ℕ, ◌≤◌, List, [], length, replicate, get_or, All}
use Rattle.p4_tree.specs.Tree.{Program}
use Rattle.p4_meaning.specs.Parts.{parts_of}
use Rattle.p4_meaning.specs.Pass.{start_cells}
use Rattle.p4_tables.specs.State.{Held}
use Rattle.control_maps.specs.Numbers.{Numbered}
use Rattle.path_runner.specs.Conditions.{most_packets}
use Rattle.path_runner.specs.Nets.{Switch, State, Shows}
use Rattle.forward_texts.specs.Switches.{RunAll}
use Rattle.forward_run.specs.Job.{Job}
use Rattle.forward_run.specs.Run.{programs_of, run_of}

-- a switch before the first event: its tables hold this, and its registers are 0
abbrev pub switch_before : Program → List Held → Switch
switch_before p held = record { program = p; tables = held; cells = start_cells (parts_of p).registers }

-- no table of so many switches holds a control variable
abbrev pub no_maps : ℕ → List (List Numbered)
no_maps n = replicate n []

abbrev pub HasNoMaps : State → Type 0
HasNoMaps s = (k : ℕ) → get_or s.maps k [] ≡ []

-- the end of a run of a program: there is a switch for each name, the switches run the program, captures hold the frames
-- that left, and these are no more than packets may be
pub record IsEnd (p : Program) (s : State) : Type 0 where
  pub switches : length s.switches ≡ length s.network.names
  pub programs : RunAll p s.switches
  pub short : All (λ x. length x.frame ≤ 65535) s.traffic.edges
  pub few : length s.traffic.edges ≤ most_packets

-- the end of the run of a job
pub record IsEndOf (j : Job) (s : State) : Type 0 where
  pub shows : Shows (programs_of j) s (run_of j)
  pub network : s.network ≡ j.network

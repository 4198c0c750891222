-- What `wire` writes of a run of linked programs. Read `Ends` before it.
use Rattle.std.specs.Prelude.{◌≡◌, ℕ, List, ◌++◌, map, codes}
use Rattle.p4_tree.specs.Tree.{Program}
use Rattle.network_run.specs.Network.{Sent}
use Rattle.path_runner.specs.Nets.{State, Shows}
use Rattle.switch_machines.specs.Programs.{Programs}
use Rattle.job_course.specs.Output.{Out}
use Rattle.run_texts.specs.Programs.{programs_files}
use Rattle.run_texts.specs.Told.{reports_lines}
use Rattle.run_texts.specs.Files.{Run, summary_text_of}
use Rattle.run_output.specs.Ends.{Parts}

-- the bytes of each frame that left by an edge port: one file for each, which of one packet is one at most
abbrev pub frame_files : (out : List ℕ) → List Sent → List (List ℕ × List ℕ)
frame_files o xs = map (λ x. (o ++ codes ".frame", x.frame)) xs

-- the programs, and then the frame
abbrev pub wire_files : (out : List ℕ) → (programs : List Program) → (names : List (List ℕ)) → Run → List (List ℕ × List ℕ)
wire_files o ps ns w = programs_files o ps ns ++ frame_files o w.edges

-- the lines of the reports, and then those of the summary
abbrev pub wire_text : List Program → (names : List (List ℕ)) → (packets : ℕ) → Run → List ℕ
wire_text ps ns n w = reports_lines ns w.told ++ summary_text_of ps n w

-- the files and the text are those of a network
pub record IsWireOutput (out : List ℕ) (x : Parts) (names : List (List ℕ)) (w : Run) (given : Out) : Type 0 where
  pub files : given.files ≡ wire_files out x.programs names w
  pub text : given.text ≡ wire_text x.programs names x.packets w

-- of each network for which the state stands
abbrev pub IsWire : (out : List ℕ) → Parts → State → Out → Type 0
IsWire out x s given = (p : Programs) (w : Run) → Shows p s w → IsWireOutput out x s.network.names w given

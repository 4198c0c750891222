-- Switches that are made of programs and their tables. Read `Conditions` of path_runner before it.
use Rattle.std.specs.Prelude.{◌≡◌, ◌≤◌, List, [], ◌∷◌, length, All}
use Rattle.p4_tree.specs.Tree.{Program}
use Rattle.p4_machine.specs.Buffers.{Buffer, IsMadeFor}
use Rattle.p4_tables.specs.State.{Held}
use Rattle.p4_tables.specs.Programs.{IsStateOf}
use Rattle.network_run.specs.NetworkRun.{Limits}
use Rattle.network_run.specs.World.{Arrival}
use Rattle.network_file.specs.Network.{Network}
use Rattle.control_maps.specs.Numbers.{Numbered}
use Rattle.path_runner.specs.Conditions.{AreMapped, IsAtEdge, most_packets, most_bytes}
use Rattle.path_runner.specs.Nets.{Switch}
use Rattle.loaded_tables.specs.Loading.{switch_before}

-- a switch for each program, with its tables, before the first event
abbrev pub switches_before : List Program → List (List Held) → List Switch
switches_before [] sts = []
switches_before (p ∷ ps) [] = []
switches_before (p ∷ ps) (st ∷ sts) = switch_before p st ∷ switches_before ps sts

-- each program has its tables
abbrev pub AreStatesOf : List Program → List (List Held) → Type 0
AreStatesOf [] [] = Unit {0}
AreStatesOf [] (st ∷ sts) = ⊥
AreStatesOf (p ∷ ps) [] = ⊥
AreStatesOf (p ∷ ps) (st ∷ sts) = IsStateOf p st × AreStatesOf ps sts

-- and its buffer
abbrev pub AreMadeFor : List Program → List Buffer → Type 0
AreMadeFor [] [] = Unit {0}
AreMadeFor [] (b ∷ bs) = ⊥
AreMadeFor (p ∷ ps) [] = ⊥
AreMadeFor (p ∷ ps) (b ∷ bs) = IsMadeFor p b.needs × AreMadeFor ps bs

-- what a net is made of, but for the buffers
pub record CanStart (n : Network) (l : Limits) (ps : List Program) (sts : List (List Held)) (maps : List (List Numbered)) (arrivals : List Arrival) : Type 0 where
  pub states : AreStatesOf ps sts
  pub switches : length ps ≡ length n.names
  pub lists : length maps ≡ length n.names
  pub mapped : AreMapped (switches_before ps sts) maps
  pub few : length arrivals ≤ most_packets
  pub packets : All (IsAtEdge n l.link) arrivals
  pub hops : 1 ≤ l.hops
  pub link : l.link ≤ most_bytes

-- What control variables hold at a switch after some events of a schedule, by their numbers. Read `Events` of the network's run
-- before it, and `Room` after it.
use Rattle.std.specs.Prelude.{◌≡◌, ℕ, List, [], ◌∷◌, nat_eq, slice_get, Some, if◌then◌else◌}
use Rattle.indus_tree.specs.Tree.{Decl}
use Rattle.indus_tree.specs.State.{Contents}
use Rattle.indus_tree.specs.declared.tree.DeclKind.TheVariants.{Control}
use Rattle.network_run.specs.Events.{Event, Enter, Leave, Set}
use Rattle.network_run.specs.NetworkRun.{put}
use Rattle.read_contents.specs.Fits.{FitsShape}

-- behind one event: what is set at the switch
abbrev pub contents_behind : (switch : ℕ) → (ℕ → Contents) → Event Contents → ℕ → Contents
contents_behind s c (Enter i) = c
contents_behind s c (Leave i) = c
contents_behind s c (Set t v x) = if nat_eq t s then put c v x else c

abbrev pub contents_after : (switch : ℕ) → (ℕ → Contents) → List (Event Contents) → ℕ → Contents
contents_after s c [] = c
contents_after s c (e ∷ es) = contents_after s (contents_behind s c e) es

-- each control variable holds what fits it
abbrev pub FitVariables : List Decl → (ℕ → Contents) → Type 0
FitVariables ds c = (v : ℕ) (d : Decl) → slice_get ds v ≡ Some d → d.kind ≡ Control → FitsShape d.shape (c v)

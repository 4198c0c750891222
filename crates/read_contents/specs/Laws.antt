-- What is read for the control variables of a well-typed property fits them. Read `Fits` before it, `Control` of control_file and
-- `Schedule` of schedule_file.
use Rattle.std.specs.Prelude.{◌≡◌, ℕ, List, length, map, All, Some, Ok, slice_get}
use Rattle.serde_json.specs.Data.{Data}
use Rattle.indus_tree.specs.Tree.{Decl, Property}
use Rattle.indus_tree.specs.State.{Contents}
use Rattle.indus_tree.specs.declared.tree.DeclKind.TheVariants.{Control}
use Rattle.indus_rules.specs.Rules.{IsWellTyped}
use Rattle.network_run.specs.Events.{Event}
use Rattle.control_file.specs.Contents.{unset, contents_at}
use Rattle.control_file.specs.Control.{all_unset, control_of}
use Rattle.schedule_file.specs.Schedule.{schedule_of}
use Rattle.read_contents.specs.Fits.{FitsShape, FitDecls, IsFitEvent}

-- a control variable of a well-typed property, by its number
pub record IsVariable (p : Property) (v : ℕ) (d : Decl) : Type 0 where
  pub typed : IsWellTyped p
  pub declared : slice_get p.decls v ≡ Some d
  pub control : d.kind ≡ Control

-- what it holds until it is set, and what is read for it
pub record ContentsFit : Type 0 where
  pub unset : (p : Property) (v : ℕ) (d : Decl) → IsVariable p v d → FitsShape d.shape (unset d.shape)
  pub read :
      (p : Property) (v : ℕ) (d : Decl) → IsVariable p v d → (path : List ℕ) (value : Data) (c : Contents)
      → contents_at path d.shape value ≡ Ok c → FitsShape d.shape c

-- contents of all control variables, in order of declaration, for each switch of a network
pub record FitSwitches (ds : List Decl) (names : List (List ℕ)) (css : List (List Contents)) : Type 0 where
  pub switches : length css ≡ length names
  pub contents : All (FitDecls ds) css

-- those of a file, and those where there is none
pub record FilesFit : Type 0 where
  pub read :
      (p : Property) → IsWellTyped p → (names : List (List ℕ)) (file : Data) (css : List (List Contents))
      → control_of p.decls names file ≡ Ok css → FitSwitches p.decls names css
  pub unset :
      (p : Property) → IsWellTyped p → (names : List (List ℕ)) → FitSwitches p.decls names (map (λ name. all_unset p.decls) names)

-- the events of a schedule that is read for so many packets
abbrev pub SchedulesFit : Type 0
SchedulesFit =
    (p : Property) → IsWellTyped p → (packets : ℕ) (names : List (List ℕ)) (file : Data) (es : List (Event Contents))
    → schedule_of (record { packets = packets; decls = Some p.decls; names = names }) file ≡ Ok es
    → All (IsFitEvent packets (length names) p.decls) es

-- Contents and events that fit a property. Read `Numbers` of control_maps, and `Loading` of loaded_tables, before it.
use Rattle.std.specs.Prelude.{◌≡◌, ℕ, ◌<◌, List, take, slice_get, Some}
use Rattle.indus_tree.specs.Tree.{Shape, Decl}
use Rattle.indus_tree.specs.State.{Contents, shape_width}
use Rattle.indus_tree.specs.declared.tree.DeclKind.TheVariants.{Control}
use Rattle.indus_types.specs.StaticWidths.{GiveWidth}
use Rattle.indus_values.specs.View.{seats, or_no_members}
use Rattle.network_run.specs.Events.{Event, Enter, Leave, Set}
use Rattle.loaded_tables.specs.Loading.{IsOfShape}

-- contents have a variable's shape and no equal keys, and their values fit into their bits
pub record FitsShape (d : Shape) (c : Contents) : Type 0 where
  pub shape : IsOfShape d c
  pub values : GiveWidth (shape_width d) c

-- the contents of the variable of a number, among those of all control variables in order of declaration
abbrev pub contents_at : List Decl → List Contents → (variable : ℕ) → Contents
contents_at ds cs v = or_no_members (slice_get cs (seats Control (take v ds)))

-- those of each control variable fit
abbrev pub FitDecls : List Decl → List Contents → Type 0
FitDecls ds cs = (v : ℕ) (d : Decl) → slice_get ds v ≡ Some d → d.kind ≡ Control → FitsShape d.shape (contents_at ds cs v)

-- the number is that of a control variable, and the contents fit it
pub record FitsVariable (ds : List Decl) (v : ℕ) (c : Contents) : Type 0 where
  pub decl : Decl
  pub declared : slice_get ds v ≡ Some decl
  pub control : decl.kind ≡ Control
  pub fits : FitsShape decl.shape c

-- the event's packet is there; or its switch, and what is set fits its variable
abbrev pub IsFitEvent : (packets switches : ℕ) → List Decl → Event Contents → Type 0
IsFitEvent packets switches ds (Enter i) = i < packets
IsFitEvent packets switches ds (Leave i) = i < packets
IsFitEvent packets switches ds (Set s v c) = (s < switches) × FitsVariable ds v c

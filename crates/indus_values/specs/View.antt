-- What the states, views and results of the program stand for: states by the names of variables, as the meaning has
-- them.
use Rattle.std.specs.Prelude.{◌≡◌, ℕ, ◌+◌, List, [], ◌∷◌, map, length, take, slice_get, Bool, false, Option, Some, None, if◌then◌else◌}
use Rattle.std.specs.Option.{option_map}
use Rattle.std.proofs.Common.{Vec, Global}
use Rattle.bit_values.specs.Bits.{Word}
use Rattle.indus_tree.specs.Tree.{Decl}
use Rattle.indus_tree.specs.View.{decl_of}
use Rattle.network_run.specs.PathMeaning as law
use Rattle.network_run.specs.PathMeaning.{Reads, Doing, reads_at}
use Rattle.indus_tree.specs.State.{Contents, single, members, pairs, Hop, Held}
use Rattle.indus_tree.specs.Reads.{Items, Seen}
use Rattle.indus_tree.specs.Hops.{same_kind, seat_of}
use Rattle.indus_tree.specs.Law.{hop_for}
use Rattle.indus_tree.specs.declared.tree.DeclKind.{DeclKind}
use Rattle.indus_tree.specs.declared.tree.DeclKind.TheVariants.{Tele, Sensor, Control}
use Rattle.indus_values.specs.declared.state.ControlValue.{ControlValue}
use Rattle.indus_values.specs.declared.state.ControlValue.TheVariants.{One, Members, Pairs}
use Rattle.indus_values.specs.declared.state.TeleState.{TeleState}
use Rattle.indus_values.specs.declared.state.SensorState.{SensorState}
use Rattle.indus_values.specs.declared.state.Report.{Report}
use Rattle.indus_values.specs.declared.state.HopResult.{HopResult}
use Rattle.indus_values.specs.declared.state.Env.{Env}
use Rattle.indus_values.specs.declared.state.HopView.{HopView}

-- a list of numbers in the program
abbrev pub Cells : Type 0
Cells = Vec Word Global

abbrev pub cells_of : Cells → List Word
cells_of v = v.items

-- ---- states

-- how many variables of a kind are declared
abbrev pub seats : DeclKind → List Decl → ℕ
seats k [] = 0
seats k (d ∷ ds) = if same_kind k d.kind then seats k ds + 1 else seats k ds

abbrev pub or_empty : Option Cells → List Word
or_empty None = []
or_empty (Some v) = v.items

-- the list at a place, and nothing where there is none
abbrev pub cells_at : List Cells → Option ℕ → List Word
cells_at ls None = []
cells_at ls (Some n) = or_empty (slice_get ls n)

-- the variables of a kind by their names, from their lists in order of declaration
abbrev pub cells_in : DeclKind → List Decl → List Cells → List ℕ → List Word
cells_in k ds ls x = cells_at ls (seat_of k ds x)

-- the states have a list for each variable of their kind
pub record IsShaped (ds : List Decl) (t : TeleState) (s : SensorState) : Type 0 where
  pub tele : length t.items.items ≡ seats Tele ds
  pub sensors : length s.cells.items ≡ seats Sensor ds

-- the declaration of a name is of a kind
abbrev pub is_kind : DeclKind → Option Decl → Bool
is_kind k None = false
is_kind k (Some d) = same_kind k d.kind

-- ---- what a hop shows

-- an entry of a dict
abbrev pub entry_of : Cells × Word → List Word × Word
entry_of e = (e.0.items, e.1)

abbrev pub contents_of : ControlValue → Contents
contents_of (One w) = single w
contents_of (Members ks) = members (map cells_of ks.items)
contents_of (Pairs es) = pairs (map entry_of es.items)

abbrev pub or_no_members : Option Contents → Contents
or_no_members None = members []
or_no_members (Some c) = c

-- the contents of the variable of a number, from those of all control variables in order of declaration
abbrev pub contents_from : List Decl → List ControlValue → (number : ℕ) → Contents
contents_from ds cs v = or_no_members (option_map contents_of (slice_get cs (seats Control (take v ds))))

-- what a block reads at a hop, where the header variables have these values
abbrev pub reads_in : List Decl → HopView → (last : Bool) → List Word → Reads Contents
reads_in ds v last ws = reads_at v.switch v.first last ws (contents_from ds v.control.items)

-- what the entry part reads. It does not know whether the hop is the last, for forwarding has not run yet
abbrev pub entry_reads : List Decl → HopView → Reads Contents
entry_reads ds v = reads_in ds v false v.entry_.items

-- what the exit part reads, where there is one
abbrev pub exit_reads : List Decl → HopView → Option (Reads Contents)
exit_reads ds v = option_map (λ (ws : Cells). reads_in ds v v.last ws.items) v.exit_

-- what that shows
abbrev pub hop_in : List Decl → HopView → (last : Bool) → List Word → Hop
hop_in ds v last ws = hop_for ds (reads_in ds v last ws)

abbrev pub decls_of : Env → List Decl
decls_of e = map decl_of e.decls.now

abbrev pub hop_of : Env → Hop
hop_of e = hop_in (decls_of e) e.view.now e.last e.values.now

-- ---- what expressions see, and what statements change

abbrev pub report_of : Report → law.Report
report_of r = record { number = r.number; values = r.values.items }

-- the packet's and the switch's variables
abbrev pub tele_of : List Decl → TeleState → Held
tele_of ds t = cells_in Tele ds t.items.items

abbrev pub sensors_of : List Decl → SensorState → Held
sensors_of ds s = cells_in Sensor ds s.cells.items

abbrev pub seen_in : Hop → Items → TeleState → SensorState → Seen
seen_in h i t s = record { hop = h; items = i; tele = tele_of h.decls t; sensors = sensors_of h.decls s }

abbrev pub seen_of : Env → Items → TeleState → SensorState → Seen
seen_of e i t s = seen_in (hop_of e) i t s

abbrev pub doing_of : List Decl → TeleState → SensorState → HopResult → Doing Held Held
doing_of ds t s r =
    record { tele = tele_of ds t; sensors = sensors_of ds s; rejected = r.rejected; reports = map report_of r.reports.items }

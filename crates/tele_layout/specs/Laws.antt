-- Laws of the telemetry. Each is proved, as the contract of a function of `laws`. Read `Telemetry` and `Layouts` before.
use Rattle.std.specs.Prelude.{◌≡◌, ℕ, List, length, Some}
use Rattle.bit_values.specs.Bits.{Word}
use Rattle.indus_tree.specs.Tree.{Decl, Property}
use Rattle.indus_tree.specs.State.{lookup}
use Rattle.indus_tree.specs.Shapes.{IsHeld, IsTeleCount}
use Rattle.indus_tree.specs.declared.tree.DeclKind.TheVariants.{Tele}
use Rattle.indus_rules.specs.Rules.{IsWellTyped}
use Rattle.indus_values.specs.View.{seats, tele_of}
use Rattle.indus_values.specs.declared.state.TeleState.{TeleState}
use Rattle.tele_layout.specs.Telemetry.{tele_bytes}
use Rattle.tele_layout.specs.Layouts.{layout_bytes, lists_of, FitSlots, IsLayout, IsLayoutOf}
use Rattle.tele_layout.specs.declared.slots.Layout.{Layout}

-- ---- states and bytes

-- a state has as many bytes as the layout says
abbrev pub BytesFillLayouts : Type 0
BytesFillLayouts = (l : Layout) (t : List (List Word)) → IsLayout l → FitSlots l.slots.items t → length (layout_bytes l t) ≡ l.bytes

-- and no other state has the same
abbrev pub BytesTellStates : Type 0
BytesTellStates =
    (l : Layout) (t u : List (List Word)) → IsLayout l → FitSlots l.slots.items t → FitSlots l.slots.items u
    → layout_bytes l t ≡ layout_bytes l u → t ≡ u

-- ---- properties

-- a well-typed property's layout is one
abbrev pub LayoutsArePlaced : Type 0
LayoutsArePlaced = (p : Property) (l : Layout) → IsWellTyped p → IsLayoutOf p l → IsLayout l

-- a state has a list for each variable that travels, which keeps to the variable's declaration
pub record KeepsDeclared (ds : List Decl) (t : TeleState) : Type 0 where
  pub lists : length t.items.items ≡ seats Tele ds
  pub held : (x : List ℕ) (d : Decl) → lookup ds x ≡ Some d → d.kind ≡ Tele → IsHeld IsTeleCount d.shape (tele_of ds t x)

-- the state fits the layout, where it has the bytes that the property gives the variables by their names
pub record IsLaidOut (p : Property) (l : Layout) (t : TeleState) : Type 0 where
  pub fits : FitSlots l.slots.items (lists_of t)
  pub bytes : layout_bytes l (lists_of t) ≡ tele_bytes p (tele_of p.decls t)

abbrev pub LayoutsServeProperties : Type 0
LayoutsServeProperties = (p : Property) (l : Layout) (t : TeleState) → IsWellTyped p → IsLayoutOf p l → KeepsDeclared p.decls t → IsLaidOut p l t

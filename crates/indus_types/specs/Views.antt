-- What a network hands a hop, and that the hop shows what is declared: a view has a word for each header variable, and a
-- switch has contents for each control variable. Read `StaticWidths` before it.
use Rattle.std.specs.Prelude.{ℕ, ◌+◌, List, [], ◌∷◌, Bool, if◌then◌else◌}
use Rattle.bit_values.specs.Bits.{Word}
use Rattle.indus_tree.specs.Tree.{Decl}
use Rattle.indus_tree.specs.State.{Contents, shape_width}
use Rattle.indus_tree.specs.Shapes.{HasWidth}
use Rattle.indus_tree.specs.Hops.{same_kind, hop_at}
use Rattle.indus_tree.specs.declared.tree.DeclKind.{DeclKind}
use Rattle.indus_tree.specs.declared.tree.DeclKind.TheVariants.{Tele, Sensor, Header, Control}
use Rattle.indus_types.specs.StaticWidths.{GiveWidth, ShowsDeclared}

-- the widths of the header variables, in order of declaration
abbrev pub header_widths : List Decl → List ℕ
header_widths [] = []
header_widths (d ∷ ds) = if same_kind Header d.kind then shape_width d.shape ∷ header_widths ds else header_widths ds

-- the view has a word of each of these widths, in order
abbrev pub HaveWidths : List ℕ → (view : List Word) → Type 0
HaveWidths [] ws = Unit {0}
HaveWidths (w ∷ widths) [] = ⊥
HaveWidths (w ∷ widths) (a ∷ ws) = HasWidth w a × HaveWidths widths ws

-- what a control variable's contents are to give; of other kinds nothing is wanted
abbrev pub GiveDeclared : DeclKind → ℕ → Contents → Type 0
GiveDeclared Tele w c = Unit {0}
GiveDeclared Sensor w c = Unit {0}
GiveDeclared Header w c = Unit {0}
GiveDeclared Control w c = GiveWidth w c

-- the contents at the number of each control variable give values of its width, where n is the first declaration's number
abbrev pub HoldDeclared : (n : ℕ) → List Decl → (ℕ → Contents) → Type 0
HoldDeclared n [] contents = Unit {0}
HoldDeclared n (d ∷ ds) contents = GiveDeclared d.kind (shape_width d.shape) (contents n) × HoldDeclared (n + 1) ds contents

-- with such a view and such contents a hop shows what is declared
abbrev pub HopsShowDeclared : Type 0
HopsShowDeclared =
    (ds : List Decl) (view : List Word) (contents : ℕ → Contents) → HaveWidths (header_widths ds) view → HoldDeclared 0 ds contents
    → (switch : ℕ) (first last : Bool) → ShowsDeclared ds (hop_at ds switch first last view contents)

-- The widths of what a program declares, and the stores that keep to them. Read `Parts` and `Laws` of the programs'
-- meaning before it.
use Rattle.std.specs.Prelude.{◌≡◌, ℕ, List, [], ◌∷◌, ◌++◌, true, if◌then◌else◌}
use Rattle.std.specs.List.{AllByRecursion}
use Rattle.bit_values.specs.Bits.{Word}
use Rattle.bit_values.specs.Widths.{sound_width}
use Rattle.lex_text.specs.Names.{same_path}
use Rattle.p4_tree.specs.Tree.{Expr, path, valid}
use Rattle.p4_meaning.specs.Standard.{metadata_root, ingress_port, egress_spec, egress_port, packet_length, checksum_error, parser_error}
use Rattle.p4_meaning.specs.Store.{Store}
use Rattle.p4_meaning.specs.Parsing.{Field, Header}
use Rattle.p4_meaning.specs.Parts.{Parts}
use Rattle.p4_meaning.specs.Laws.{IsOf}
use Rattle.switch_machines.specs.Programs.{view_of}
use Rattle.monitor_laws.specs.Names.{is_long}

-- the width of the first field that has this path, or the one given
abbrev pub fields_width : (above : List (List ℕ)) → List Field → (q : List (List ℕ)) → (otherwise : ℕ) → ℕ
fields_width above [] q n = n
fields_width above (g ∷ fs) q n = if same_path (above ++ g.name ∷ []) q then g.width else fields_width above fs q n

-- the same among the fields of headers
abbrev pub headers_width : List Header → (q : List (List ℕ)) → (otherwise : ℕ) → ℕ
headers_width [] q n = n
headers_width (h ∷ hs) q n = fields_width h.path h.fields q (headers_width hs q n)

-- the width of a path of the standard metadata, or the one given
abbrev pub standard_width : (q : List (List ℕ)) → (otherwise : ℕ) → ℕ
standard_width q n =
    if same_path ingress_port q then 9 else
    if same_path egress_spec q then 9 else
    if same_path egress_port q then 9 else
    if same_path packet_length q then 32 else
    if same_path checksum_error q then 1 else
    if same_path parser_error q then 2 else n

-- the width with which a program declares a path; where it does not, the path holds one bit
abbrev pub width_at : Parts → List (List ℕ) → ℕ
width_at f q = standard_width q (fields_width (metadata_root ∷ []) f.metadata q (headers_width f.headers q 1))

-- fields have 1 to 128 bits, and are the first of their paths
abbrev pub HaveWidths : Parts → (above : List (List ℕ)) → List Field → Type 0
HaveWidths f above fs = AllByRecursion (λ g. (width_at f (above ++ g.name ∷ []) ≡ g.width) × (sound_width g.width ≡ g.width)) fs

pub record HasSoundFields (f : Parts) : Type 0 where
  pub metadata : HaveWidths f (metadata_root ∷ []) f.metadata
  pub headers : AllByRecursion (λ h. HaveWidths f h.path h.fields) f.headers

-- each path of a store has a word of the width that is declared
pub record HasWidths (f : Parts) (s : Store) : Type 0 where
  pub words : (x y : List ℕ) (rest : List (List ℕ)) → IsOf (width_at f (x ∷ y ∷ rest)) (s.values (x ∷ y ∷ rest))

-- an expression reads a word of so many bits: a field that is declared so, or whether a header is valid
abbrev pub IsViewOf : Parts → ℕ → Expr → Type 0
IsViewOf f n (path p names) = (is_long names ≡ true) × (width_at f names ≡ n)
IsViewOf f n (valid p header) = n ≡ 1
IsViewOf f n _ = ⊥

-- expressions read words of so many bits each
abbrev pub AreViewsOf : Parts → List ℕ → List Expr → Type 0
AreViewsOf f [] [] = Unit {0}
AreViewsOf f [] (e ∷ es) = ⊥
AreViewsOf f (n ∷ ns) [] = ⊥
AreViewsOf f (n ∷ ns) (e ∷ es) = IsViewOf f n e × AreViewsOf f ns es

-- words of these widths
abbrev pub AreOf : List ℕ → List Word → Type 0
AreOf [] [] = Unit {0}
AreOf [] (w ∷ ws) = ⊥
AreOf (n ∷ ns) [] = ⊥
AreOf (n ∷ ns) (w ∷ ws) = IsOf n w × AreOf ns ws

-- where a store keeps to the widths, views of fields that are declared read words of these widths
abbrev pub ViewsHaveWidths : Type 0
ViewsHaveWidths = (f : Parts) (ns : List ℕ) (es : List Expr) (s : Store) → HasWidths f s → AreViewsOf f ns es → AreOf ns (view_of es s)

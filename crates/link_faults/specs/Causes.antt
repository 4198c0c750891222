-- Where each refusal comes, and why. Read `Faults` before it.
use Rattle.std.specs.Prelude.{◌≡◌, ◌↔◌, ℕ, ◌<◌, ◌≤◌, List, ◌∷◌, ◌++◌, true, false, Some}
use Rattle.std.specs.List.{AllByRecursion}
use Rattle.indus_tree.specs.Tree.{Decl, Property}
use Rattle.indus_tree.specs.Hops.{same_kind}
use Rattle.indus_tree.specs.declared.tree.DeclKind.TheVariants.{Header}
use Rattle.indus_types.specs.Sums.{cut, cut_wide, property_bits, property_weight}
use Rattle.tele_layout.specs.Telemetry.{whole_bytes}
use Rattle.lower_lists.specs.FlatProperty.{greatest_weight}
use Rattle.p4_tree.specs.Tree.{Program}
use Rattle.p4_scopes.specs.Scopes.{Stands, is_missing}
use Rattle.p4_rules.specs.ProgramRules.{program_scope}
use Rattle.link_faults.specs.Refusals.{Refusal, no_such_field, field_width, name_taken, room_short, too_large}
use Rattle.link_faults.specs.HeaderFields.{field_in, asked_path, fits, dotted}
use Rattle.link_faults.specs.WrittenNames.{names_of_program, is_taken}
use Rattle.link_faults.specs.Faults.{link_fault}

-- ---- header variables

-- what the program has where a header variable reads
abbrev pub found : Program → Decl → Stands
found f d = field_in (program_scope f) f (asked_path d)

-- nothing is there
pub record IsUnknown (f : Program) (d : Decl) : Type 0 where
  pub header : same_kind Header d.kind ≡ true
  pub missing : is_missing (found f d) ≡ true

-- something is there, of another width or kind
pub record IsMisfit (f : Program) (d : Decl) : Type 0 where
  pub header : same_kind Header d.kind ≡ true
  pub there : is_missing (found f d) ≡ false
  pub misfit : fits d.valid d.shape (found f d) ≡ false

-- what is declared is there, if it is a header variable
pub record Fits (f : Program) (d : Decl) : Type 0 where
  pub there : same_kind Header d.kind ≡ true → is_missing (found f d) ≡ false
  pub fit : same_kind Header d.kind ≡ true → fits d.valid d.shape (found f d) ≡ true

-- the first declaration that does not fit, with what is the matter, and its path as it is written
pub record IsFirst (f : Program) (IsSo : Decl → Type 0) (ds : List Decl) (name : List ℕ) : Type 0 where
  pub before : List Decl
  pub here : Decl
  pub behind : List Decl
  pub all : ds ≡ before ++ here ∷ behind
  pub others : AllByRecursion (Fits f) before
  pub so : IsSo here
  pub named : name ≡ dotted here.path

-- ---- names

-- the first name of the text that is taken
pub record IsFirstTaken (names : List (List ℕ)) (name : List ℕ) : Type 0 where
  pub before : List (List ℕ)
  pub behind : List (List ℕ)
  pub all : names ≡ before ++ name ∷ behind
  pub others : AllByRecursion (λ x. is_taken x ≡ false) before
  pub taken : is_taken name ≡ true

-- ---- the five, each where none of those before it is

module _ (f : Program) (p : Property) (room : ℕ) where
  abbrev pub AllFit : Type 0
  AllFit = AllByRecursion (Fits f) p.decls

  abbrev pub NoneTaken : Type 0
  NoneTaken = AllByRecursion (λ x. is_taken x ≡ false) (names_of_program f)

  pub record IsShort (need given : ℕ) : Type 0 where
    pub fit : AllFit
    pub names : NoneTaken
    pub more : room < whole_bytes (property_bits p)
    pub need_is : need ≡ whole_bytes (cut_wide (property_bits p))
    pub given_is : given ≡ room

  pub record IsLarge (weight : ℕ) : Type 0 where
    pub fit : AllFit
    pub names : NoneTaken
    pub enough : whole_bytes (property_bits p) ≤ room
    pub more : greatest_weight < property_weight p
    pub weight_is : weight ≡ cut (property_weight p)

  abbrev pub HasCause : Refusal → Type 0
  HasCause (no_such_field name) = IsFirst f (IsUnknown f) p.decls name
  HasCause (field_width name) = IsFirst f (IsMisfit f) p.decls name
  HasCause (name_taken name) = AllFit × IsFirstTaken (names_of_program f) name
  HasCause (room_short need given) = IsShort need given
  HasCause (too_large weight) = IsLarge weight

-- a refusal is given exactly where it has its cause
abbrev pub FaultsHaveCauses : Type 0
FaultsHaveCauses =
    (f : Program) (p : Property) (room : ℕ) (r : Refusal) → link_fault f p room ≡ Some r ↔ HasCause f p room r

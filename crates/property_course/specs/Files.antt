-- The file of a property, as steps of a command: which refusals there are, and what it gives. Read `Course` of job_course,
-- and `Lines`, before it.
use Rattle.std.specs.Prelude.{◌≡◌, ◌≢◌, ℕ, ◌≤◌, List, length, Some}
use Rattle.indus_tree.specs.Tree.{Property}
use Rattle.indus_reader.specs.Faults.{IsProperty, HasCause}
use Rattle.indus_reader.specs.declared.fault.PropertyFault.{PropertyFault}
use Rattle.indus_reader.specs.declared.fault.PropertyFault.TheVariants.{NoMemory}
use Rattle.indus_rules.specs.Rules.{first, IsWellTyped}
use Rattle.indus_rules.specs.Sites.{property_sites}
use Rattle.indus_rules.specs.declared.rule.Rule.{Rule}
use Rattle.job_course.specs.declared.status.Status.{Status}
use Rattle.job_course.specs.declared.status.Status.TheVariants.{BadProperty}
use Rattle.job_course.specs.declared.status.Area.TheVariants as area
use Rattle.job_course.specs.Course.{Course, file, decide, and_then}
use Rattle.property_course.specs.Lines.{fault_line, type_line}

-- the text is no property within the limits, for a cause that it has
abbrev pub IsMisread : (name text : List ℕ) → Status → (line : List ℕ) → Type 0
IsMisread name text s l = (s ≡ BadProperty) × ((f : PropertyFault) × (f ≢ NoMemory) × HasCause text f × (l ≡ fault_line name f))

-- a file of a property, of at most 64 KiB
abbrev pub whole_property : (name : List ℕ) → Course Property
whole_property name = and_then (file name 65536 area.Property) (λ text. decide (IsProperty text) (IsMisread name text))

-- the tree breaks no rule of types
abbrev pub IsTyped : (tree p : Property) → Type 0
IsTyped tree p = (p ≡ tree) × IsWellTyped tree

-- the first rule that is broken in the tree, from left to right, with its place
abbrev pub IsIllTyped : (name : List ℕ) (tree : Property) → Status → (line : List ℕ) → Type 0
IsIllTyped name tree s l = (s ≡ BadProperty) × ((at : ℕ) × (r : Rule) × (first (property_sites tree) ≡ Some (at, r)) × (l ≡ type_line name at r))

-- and a well-typed one
abbrev pub typed_property : (name : List ℕ) → Course Property
typed_property name = and_then (whole_property name) (λ tree. decide (IsTyped tree) (IsIllTyped name tree))

-- a property that some text of at most 64 KiB spells
pub record IsOfText (p : Property) : Type 0 where
  pub text : List ℕ
  pub short : length text ≤ 65536
  pub spelled : IsProperty text p

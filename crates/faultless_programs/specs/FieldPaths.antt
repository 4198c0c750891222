-- What the test of header variables finds is what the program declares. Read `HeaderFields` before it, and `Widths` of
-- `linked_halves`.
use Rattle.std.specs.Prelude.{◌≡◌, ◌⊎◌, ℕ, List, [], ◌∷◌, true}
use Rattle.bit_values.specs.Widths.{sound_width}
use Rattle.p4_tree.specs.Tree.{Program}
use Rattle.p4_meaning.specs.Standard.{headers_root, metadata_root, standard_root}
use Rattle.p4_meaning.specs.Parts.{parts_of}
use Rattle.p4_rules.specs.ProgramRules.{program_scope, IsWellTyped}
use Rattle.linked_halves.specs.Widths.{width_at}
use Rattle.link_faults.specs.HeaderFields.{field_in, is_field_of}

-- a field of a header, or of the metadata or the standard metadata
abbrev pub IsFieldPath : List (List ℕ) → Type 0
IsFieldPath (r ∷ x ∷ []) = (r ≡ metadata_root) ⊎ (r ≡ standard_root)
IsFieldPath (r ∷ x ∷ y ∷ []) = r ≡ headers_root
IsFieldPath _ = ⊥

-- a number of w bits is found where the program declares a field of w bits
abbrev pub FoundFieldsAreDeclared : Type 0
FoundFieldsAreDeclared =
    (p : Program) → IsWellTyped p → (w : ℕ) → sound_width w ≡ w → (q : List (List ℕ)) → IsFieldPath q →
    is_field_of w (field_in (program_scope p) p q) ≡ true → width_at (parts_of p) q ≡ w

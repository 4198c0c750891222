-- What is asked of a program: it has what the property's header variables read. Read `Passes` of `linked_rules` before it.
use Rattle.std.specs.Prelude.{◌≡◌, ℕ, List, [], ◌∷◌, Bool, true, false, Some, if◌then◌else◌}
use Rattle.lex_text.specs.Names.{same_text, parent}
use Rattle.indus_tree.specs.Tree.{Decl}
use Rattle.indus_tree.specs.State.{lookup, shape_width}
use Rattle.indus_tree.specs.declared.tree.DeclKind.TheVariants.{Header}
use Rattle.p4_meaning.specs.Standard.{headers_root, metadata_root, standard_root}
use Rattle.p4_scopes.specs.Scopes.{Scope, Stands, missing, typed, standard_at}
use Rattle.p4_scopes.specs.declared.kind.Kind.TheVariants.{Number}
use Rattle.p4_scopes.specs.declared.thing.Thing.TheVariants as thing
use Rattle.p4_rule_laws.specs.Old.{OldPath}
use Rattle.own_programs.specs.OwnPrograms.{is_own}

-- at a path of one name: a field of the standard metadata
abbrev pub standard_in : List (List ℕ) → Stands
standard_in (y ∷ []) = standard_at y
standard_in _ = missing

-- what a program has at a path of a property. S: behind all its declarations; H, M: the structs of headers and of metadata
abbrev pub shown_at : (S : Scope) (H M : List ℕ) → List (List ℕ) → Stands
shown_at S H M [] = missing
shown_at S H M (r ∷ xs) =
    if same_text headers_root r then S (H ∷ xs) else
    if same_text metadata_root r then S (M ∷ xs) else
    if same_text standard_root r then standard_in xs else missing

-- a path of two names or more, of which those behind the first are the program's own
abbrev pub IsOwnBehind : List (List ℕ) → Type 0
IsOwnBehind (r ∷ x ∷ xs) = OldPath is_own (x ∷ xs)
IsOwnBehind _ = ⊥

-- a number of that width is there, or a header, where its validity is asked
pub record IsShown (S : Scope) (H M : List ℕ) (d : Decl) : Type 0 where
  pub field :
      d.valid ≡ false →
      (fixed : Bool) × IsOwnBehind d.path × (shown_at S H M d.path ≡ typed fixed (thing.Scalar (Number (shape_width d.shape))))
  pub header :
      d.valid ≡ true →
      (fixed : Bool) × (bits : ℕ) × IsOwnBehind (parent d.path) × (shown_at S H M (parent d.path) ≡ typed fixed (thing.Header bits))

-- so it is for each header variable
abbrev pub HasFields : (S : Scope) (H M : List ℕ) → List Decl → Type 0
HasFields S H M ds = (x : List ℕ) (d : Decl) → lookup ds x ≡ Some d → d.kind ≡ Header → IsShown S H M d

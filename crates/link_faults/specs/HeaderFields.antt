-- Whether a program has what header variables read. Read `Refusals` before it, `Scopes` of `p4_scopes` and `ProgramRules`
-- of `p4_rules`.
use Rattle.std.specs.Prelude.{codes, ℕ, List, [], ◌∷◌, ◌++◌, Bool, true, false, Option, Some, None, nat_eq, if◌then◌else◌}
use Rattle.lex_text.specs.Names.{same_text}
use Rattle.indus_tree.specs.Tree.{Shape, one, Decl}
use Rattle.indus_tree.specs.Hops.{same_kind}
use Rattle.indus_tree.specs.declared.tree.DeclKind.TheVariants.{Header}
use Rattle.indus_tree.specs.declared.tree.Ty.TheVariants.{Bit}
use Rattle.p4_tree.specs.Tree.{Program}
use Rattle.p4_meaning.specs.Parts.{parser_type, parser_in}
use Rattle.p4_scopes.specs.Scopes.{Scope, Stands, missing, typed, is_missing}
use Rattle.p4_scopes.specs.declared.kind.Kind.{Kind}
use Rattle.p4_scopes.specs.declared.kind.Kind.TheVariants.{Number}
use Rattle.p4_scopes.specs.declared.thing.Thing.TheVariants.{Scalar}
use Rattle.p4_scopes.specs.declared.thing.Thing.TheVariants as thing
use Rattle.link_faults.specs.Refusals.{Refusal, no_such_field, field_width, or_else}

-- ---- what a program has

-- at a path of a property, whose first name says in which of the three structs it is: the types of the headers and of the
-- metadata are those of the parser's parameters. s: behind all declarations of the program
abbrev pub field_in : Scope → Program → List (List ℕ) → Stands
field_in s p [] = missing
field_in s p (r ∷ xs) =
    if same_text r (codes "hdr") then s (parser_type (parser_in p) 1 ∷ xs) else
    if same_text r (codes "meta") then s (parser_type (parser_in p) 2 ∷ xs) else
    if same_text r (codes "standard_metadata") then s (codes "standard_metadata_t" ∷ xs) else missing

-- ---- what a header variable asks for

-- of `hdr.h.isValid()` the path of the header
abbrev pub header_path : List (List ℕ) → List (List ℕ)
header_path (r ∷ h ∷ verb ∷ []) = r ∷ h ∷ []
header_path xs = xs

abbrev pub asked_path : Decl → List (List ℕ)
asked_path d = if d.valid then header_path d.path else d.path

abbrev pub is_number_of : ℕ → Kind → Bool
is_number_of w (Number v) = nat_eq w v
is_number_of w _ = false

abbrev pub is_field_of : ℕ → Stands → Bool
is_field_of w (typed f (Scalar k)) = is_number_of w k
is_field_of w _ = false

abbrev pub is_header : Stands → Bool
is_header (typed f (thing.Header n)) = true
is_header _ = false

-- a header, where its validity is asked, or else a number of the width that is declared
abbrev pub fits : (valid : Bool) → Shape → Stands → Bool
fits true shape st = is_header st
fits false (one (Bit w)) st = is_field_of w st
fits false shape st = false

-- ---- what is wrong

-- a path as it is written
abbrev pub dotted : List (List ℕ) → List ℕ
dotted [] = []
dotted (x ∷ []) = x
dotted (x ∷ y ∷ rest) = x ++ 46 ∷ dotted (y ∷ rest)

-- st: what the program has there
abbrev pub field_fault : Stands → Decl → Option Refusal
field_fault st d =
    if is_missing st then Some (no_such_field (dotted d.path)) else
    if fits d.valid d.shape st then None else Some (field_width (dotted d.path))

abbrev pub decl_fault : Scope → Program → Decl → Option Refusal
decl_fault s p d = if same_kind Header d.kind then field_fault (field_in s p (asked_path d)) d else None

-- of header variables the first, in order of declaration
abbrev pub fields_fault : Scope → Program → List Decl → Option Refusal
fields_fault s p [] = None
fields_fault s p (d ∷ ds) = or_else (decl_fault s p d) (fields_fault s p ds)

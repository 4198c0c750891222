-- How names and types are found by numbers of declarations, oldest first. Read `View` before it.
use Rattle.std.specs.Prelude.{ℕ, suc, List, [], ◌∷◌, true, false, ◌||◌, if◌then◌else◌, codes, take, slice_get, Option, Some, None}
use Rattle.lex_text.specs.Names.{same_text}
use Rattle.p4_tree.specs.declared.statement.PTy.{PTy}
use Rattle.p4_tree.specs.declared.statement.PTy.TheVariants as type
use Rattle.p4_scopes.specs.Scopes.{Stands, missing, typed, What, alias, fields, thing_in}
use Rattle.p4_scopes.specs.View.{Declaration, scope_of}
use Rattle.p4_scopes.specs.declared.kind.Kind.TheVariants.{Number, Truth, Error}
use Rattle.p4_scopes.specs.declared.thing.Thing.TheVariants.{Scalar, Standard, PacketIn, PacketOut}
use Rattle.p4_scopes.specs.declared.resolved.Resolved.{Resolved}
use Rattle.p4_scopes.specs.declared.resolved.Resolved.TheVariants as resolved

-- ---- names

-- the number of the last declaration of a name, where the first of these has the number n, and o is that of one before
abbrev pub last_from : (n : ℕ) → (o : Option ℕ) → List Declaration → List ℕ → Option ℕ
last_from n o [] x = o
last_from n o (d ∷ ds) x = last_from (suc n) (if same_text d.name x then Some n else o) ds x

abbrev pub last_at : List Declaration → List ℕ → Option ℕ
last_at ds x = last_from 0 None ds x

-- ---- types

-- what the path of a type stands for
abbrev pub end_of : Resolved → Stands
end_of resolved.Missing = missing
end_of (resolved.Single f t) = typed f t
end_of (resolved.Declared h i) = typed false h
end_of resolved.Standard = typed false Standard

-- a type of the architecture's own
abbrev pub core_resolved : List ℕ → Resolved
core_resolved x =
    if same_text x (codes "standard_metadata_t") then resolved.Standard else
    if same_text x (codes "packet_in") then resolved.Single false PacketIn else
    if same_text x (codes "packet_out") then resolved.Single false PacketOut else resolved.Missing

-- a field of the standard metadata
abbrev pub standard_field : List ℕ → Resolved
standard_field x =
    if same_text x (codes "egress_spec") then resolved.Single false (Scalar (Number 9)) else
    if same_text x (codes "ingress_port") || same_text x (codes "egress_port") then resolved.Single true (Scalar (Number 9)) else
    if same_text x (codes "packet_length") then resolved.Single true (Scalar (Number 32)) else
    if same_text x (codes "checksum_error") then resolved.Single true (Scalar (Number 1)) else
    if same_text x (codes "parser_error") then resolved.Single true (Scalar Error) else resolved.Missing

-- what is declared with the number i, behind these declarations, as a type
abbrev pub what_resolved : List Declaration → (i : ℕ) → What → Resolved
what_resolved ds i (alias t) = resolved.Single false (thing_in (scope_of ds) t)
what_resolved ds i (fields h fs) = resolved.Declared h i
what_resolved ds i _ = resolved.Missing

abbrev pub number_resolved : List Declaration → (i : ℕ) → Option Declaration → Resolved
number_resolved ds i None = resolved.Missing
number_resolved ds i (Some d) = what_resolved (take i ds) i d.what

-- a name of a type, by the number of its last declaration
abbrev pub name_resolved : List Declaration → List ℕ → Option ℕ → Resolved
name_resolved ds x None = core_resolved x
name_resolved ds x (Some i) = number_resolved ds i (slice_get ds i)

-- a type that is used behind these declarations
abbrev pub resolve : List Declaration → PTy → Resolved
resolve ds (type.Bit w) = resolved.Single false (Scalar (Number w))
resolve ds type.Bool = resolved.Single false (Scalar Truth)
resolve ds (type.Named x) = name_resolved ds x (last_at ds x)

-- ---- fields

-- the type of the first field of a name
abbrev pub field_resolved : List Declaration → List (PTy × List ℕ) → List ℕ → Option Resolved
field_resolved ds [] y = None
field_resolved ds (f ∷ fs) y = if same_text f.1 y then Some (resolve ds f.0) else field_resolved ds fs y

abbrev pub or_missing : Option Resolved → Resolved
or_missing None = resolved.Missing
or_missing (Some r) = r

-- a field of what is declared behind these declarations
abbrev pub what_field : List Declaration → What → List ℕ → Resolved
what_field ds (fields h fs) y = or_missing (field_resolved ds fs y)
what_field ds _ y = resolved.Missing

abbrev pub number_field : List Declaration → (i : ℕ) → Option Declaration → List ℕ → Resolved
number_field ds i None y = resolved.Missing
number_field ds i (Some d) y = what_field (take i ds) d.what y

-- a field of a type
abbrev pub field_of : List Declaration → Resolved → List ℕ → Resolved
field_of ds resolved.Missing y = resolved.Missing
field_of ds (resolved.Single f t) y = resolved.Missing
field_of ds (resolved.Declared h i) y = number_field ds i (slice_get ds i) y
field_of ds resolved.Standard y = standard_field y

-- what a path behind a type stands for
abbrev pub walk : List Declaration → Resolved → List (List ℕ) → Stands
walk ds r [] = end_of r
walk ds r (y ∷ ys) = walk ds (field_of ds r y) ys

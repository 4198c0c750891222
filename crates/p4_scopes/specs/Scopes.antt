-- What paths stand for. A scope is a function: a declaration makes a new one, and where a block ends the one before it
-- is used again. A type's name is a path too, with the paths of its fields behind it; a value of a named type has the
-- paths of its type. Read `Kinds` before it and `Uses` after it.
use Rattle.std.specs.Prelude.{ℕ, ◌+◌, min, List, [], ◌∷◌, Bool, true, false, ◌&&◌, ◌||◌, if◌then◌else◌, codes}
use Rattle.lex_text.specs.Names.{same_text}
use Rattle.p4_tree.specs.Tree.{Expr, num, flag, path, valid, applied, error_name, negation, inversion, opposite, binary, conditional, slice, cast}
use Rattle.p4_tree.specs.declared.statement.PTy.{PTy}
use Rattle.p4_tree.specs.declared.statement.PTy.TheVariants as type
use Rattle.p4_scopes.specs.Kinds.{as_number, width_in, slice_width, binary_kind, choice_kind}
use Rattle.p4_scopes.specs.declared.kind.Kind.{Kind}
use Rattle.p4_scopes.specs.declared.kind.Kind.TheVariants.{Number, Truth, Error, Unknown}
use Rattle.p4_scopes.specs.declared.thing.Thing.{Thing}
use Rattle.p4_scopes.specs.declared.thing.Thing.TheVariants.{Scalar, Standard, PacketIn, PacketOut}
use Rattle.p4_scopes.specs.declared.thing.Access.{Access}
use Rattle.p4_scopes.specs.declared.thing.Access.TheVariants.{Fixed}
use Rattle.p4_scopes.specs.declared.thing.Function.{Function}
use Rattle.p4_scopes.specs.declared.thing.Function.TheVariants.{MarkToDrop, Digest, VerifyChecksum, UpdateChecksum}

-- what a path stands for
pub data Stands : Type 0 where
  missing : Stands
  -- a type, or a field of one, which may be for reading only
  typed : (fixed : Bool) → Thing → Stands
  -- a variable, a parameter, a constant, or a field of one
  held : Access → Thing → Stands
  -- a register, by what its cells hold
  cells : Kind → Stands
  -- an action: what it takes, and the most digests that a call gives
  act : (params : List Kind) → (most : ℕ) → Stands
  -- a table: the most digests that an application gives
  rows : (most : ℕ) → Stands
  -- a parser's state
  state : Stands
  -- a function of the architecture's own, and the checksum that its functions know
  function : Function → Stands
  algorithm : Stands
  -- a name that has no use but its own: a parser, a control, `HashAlgorithm`
  other : Stands

abbrev pub Scope : Type 0
Scope = List (List ℕ) → Stands

-- ---- what stands there

abbrev pub is_missing : Stands → Bool
is_missing missing = true
is_missing _ = false

abbrev pub thing_kind : Thing → Kind
thing_kind (Scalar k) = k
thing_kind _ = Unknown

-- the kind of a value that is read or written by its path
abbrev pub value_kind : Stands → Kind
value_kind (held a t) = thing_kind t
value_kind _ = Unknown

-- what a type is
abbrev pub typed_thing : Stands → Thing
typed_thing (typed f t) = t
typed_thing _ = Scalar Unknown

-- a field that is for reading only stays so
abbrev pub access_of : (fixed : Bool) → Access → Access
access_of true a = Fixed
access_of false a = a

-- the path of a value, from the path of its type
abbrev pub as_held : Access → Stands → Stands
as_held a (typed f t) = held (access_of f a) t
as_held a _ = missing

-- a path that is one of a type, and nothing else
abbrev pub as_typed : Stands → Stands
as_typed (typed f t) = typed f t
as_typed _ = missing

-- ---- types

-- one value, with no path behind it
abbrev pub scalar_at : Kind → List (List ℕ) → Stands
scalar_at k [] = typed false (Scalar k)
scalar_at k (x ∷ xs) = missing

-- a path behind a type
abbrev pub type_at : Scope → PTy → List (List ℕ) → Stands
type_at s (type.Bit w) xs = scalar_at (Number w) xs
type_at s type.Bool xs = scalar_at Truth xs
type_at s (type.Named t) xs = as_typed (s (t ∷ xs))

abbrev pub thing_in : Scope → PTy → Thing
thing_in s t = typed_thing (type_at s t [])

abbrev pub kind_in : Scope → PTy → Kind
kind_in s t = thing_kind (thing_in s t)

abbrev pub kinds_in : Scope → List (PTy × List ℕ) → List Kind
kinds_in s [] = []
kinds_in s (p ∷ ps) = kind_in s p.0 ∷ kinds_in s ps

-- a sum that stops at the greatest number of 32 bits
abbrev pub add_up : ℕ → ℕ → ℕ
add_up a b = min (a + b) 4294967295

-- the bits of the fields of a header, as far as 32 bits count them
abbrev pub fields_bits : Scope → List (PTy × List ℕ) → ℕ
fields_bits s [] = 0
fields_bits s (f ∷ fs) = add_up (width_in (kind_in s f.0)) (fields_bits s fs)

-- ---- declarations

-- a field, and a path behind it
abbrev pub field_at : Scope → List (PTy × List ℕ) → List ℕ → List (List ℕ) → Stands
field_at s [] x xs = missing
field_at s (f ∷ fs) x xs = if same_text f.1 x then type_at s f.0 xs else field_at s fs x xs

-- what is declared
pub data What : Type 0 where
  -- another name of a type of single values
  alias : PTy → What
  -- a header or a struct with these fields
  fields : Thing → List (PTy × List ℕ) → What
  -- a variable, a parameter or a constant
  value : Access → PTy → What
  register : PTy → What
  action : List (PTy × List ℕ) → (most : ℕ) → What
  table : (most : ℕ) → What
  parser_state : What
  -- a parser or a control
  part : What

-- a path behind a declared name
abbrev pub behind : Scope → What → List (List ℕ) → Stands
behind s (alias t) [] = typed false (thing_in s t)
behind s (alias t) (x ∷ xs) = missing
behind s (fields h fs) [] = typed false h
behind s (fields h fs) (x ∷ xs) = field_at s fs x xs
behind s (value a t) [] = held a (thing_in s t)
behind s (value a t) (x ∷ xs) = as_held a (type_at s t (x ∷ xs))
behind s (register t) [] = cells (kind_in s t)
behind s (register t) (x ∷ xs) = missing
behind s (action ps m) [] = act (kinds_in s ps) m
behind s (action ps m) (x ∷ xs) = missing
behind s (table m) [] = rows m
behind s (table m) (x ∷ xs) = missing
behind s parser_state [] = state
behind s parser_state (x ∷ xs) = missing
behind s part [] = other
behind s part (x ∷ xs) = missing

-- the scope behind a declaration
unfoldable pub declare : Scope → List ℕ → What → Scope
declare s n w [] = s []
declare s n w (x ∷ xs) = if same_text n x then behind s w xs else s (x ∷ xs)

-- ---- names of the architecture's own

-- a field of the standard metadata: programs write `egress_spec` alone
abbrev pub standard_at : List ℕ → Stands
standard_at x =
    if same_text x (codes "egress_spec") then typed false (Scalar (Number 9)) else
    if same_text x (codes "ingress_port") || same_text x (codes "egress_port") then typed true (Scalar (Number 9)) else
    if same_text x (codes "packet_length") then typed true (Scalar (Number 32)) else
    if same_text x (codes "checksum_error") then typed true (Scalar (Number 1)) else
    if same_text x (codes "parser_error") then typed true (Scalar Error) else missing

abbrev pub core_name : List ℕ → Stands
core_name x =
    if same_text x (codes "standard_metadata_t") then typed false Standard else
    if same_text x (codes "packet_in") then typed false PacketIn else
    if same_text x (codes "packet_out") then typed false PacketOut else
    if same_text x (codes "NoAction") then act [] 0 else
    if same_text x (codes "mark_to_drop") then function MarkToDrop else
    if same_text x (codes "digest") then function Digest else
    if same_text x (codes "verify_checksum") then function VerifyChecksum else
    if same_text x (codes "update_checksum") then function UpdateChecksum else
    if same_text x (codes "HashAlgorithm") then other else missing

abbrev pub core_field : List ℕ → List ℕ → Stands
core_field x y =
    if same_text x (codes "standard_metadata_t") then standard_at y else
    if same_text x (codes "HashAlgorithm") && same_text y (codes "csum16") then algorithm else missing

-- the scope before the first declaration
unfoldable pub core : Scope
core [] = missing
core (x ∷ []) = core_name x
core (x ∷ y ∷ []) = core_field x y
core (x ∷ y ∷ z ∷ zs) = missing

-- ---- expressions

-- what a cast makes. It names no typedef
abbrev pub cast_kind : PTy → Kind
cast_kind (type.Bit w) = Number w
cast_kind type.Bool = Truth
cast_kind (type.Named t) = Unknown

-- what an expression is, whatever its place wants
abbrev pub own : Scope → Expr → Kind
own s (num p n) = Number n.width
own s (flag p b) = Truth
own s (path p x) = value_kind (s x)
own s (valid p x) = Truth
own s (applied p t h) = Truth
own s (error_name p x) = Error
own s (negation p a) = Truth
own s (inversion p a) = as_number (own s a)
own s (opposite p a) = as_number (own s a)
own s (binary p op a b) = binary_kind op (own s a) (own s b)
own s (conditional p c a b) = choice_kind (own s a) (own s b)
own s (slice p a h l) = Number (slice_width h l)
own s (cast p t a) = cast_kind t

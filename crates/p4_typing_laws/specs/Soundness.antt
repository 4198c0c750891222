-- The widths of what is in sight in a well-typed program are widths of numbers. Read `Places` before it.
use Rattle.std.specs.Prelude.{ℕ, ◌≤◌, List, [], ◌∷◌}
use Rattle.p4_tree.specs.Tree.{Program}
use Rattle.p4_scopes.specs.Scopes.{Stands, missing, typed, held, cells, act, rows, state, function, algorithm, other, Scope}
use Rattle.p4_scopes.specs.declared.kind.Kind.{Kind}
use Rattle.p4_scopes.specs.declared.kind.Kind.TheVariants.{Number, Truth, Error, Unknown}
use Rattle.p4_scopes.specs.declared.thing.Thing.{Thing}
use Rattle.p4_scopes.specs.declared.thing.Thing.TheVariants.{Scalar, Header, Struct, Standard, PacketIn, PacketOut}
use Rattle.p4_rules.specs.ProgramRules.{IsWellTyped}
use Rattle.p4_typing_laws.specs.Places.{Use, valued, named, EachUse}

-- the bits of a value of a kind, or 0: a truth value is one bit, and an error of the parser two
abbrev pub kind_width : Kind → ℕ
kind_width (Number w) = w
kind_width Truth = 1
kind_width Error = 2
kind_width Unknown = 0

-- a width that a value can have
pub record IsWidth (w : ℕ) : Type 0 where
  pub least : 1 ≤ w
  pub most : w ≤ 128

-- a kind that a value can have
abbrev pub IsSoundKind : Kind → Type 0
IsSoundKind (Number w) = IsWidth w
IsSoundKind Truth = Unit {0}
IsSoundKind Error = Unit {0}
IsSoundKind Unknown = ⊥

abbrev pub AreSoundKinds : List Kind → Type 0
AreSoundKinds [] = Unit {0}
AreSoundKinds (k ∷ ks) = IsSoundKind k × AreSoundKinds ks

abbrev pub IsSoundThing : Thing → Type 0
IsSoundThing (Scalar k) = IsSoundKind k
IsSoundThing (Header n) = Unit {0}
IsSoundThing Struct = Unit {0}
IsSoundThing Standard = Unit {0}
IsSoundThing PacketIn = Unit {0}
IsSoundThing PacketOut = Unit {0}

-- types, values, cells of registers and parameters of actions are of such kinds
abbrev pub IsSoundStands : Stands → Type 0
IsSoundStands missing = Unit {0}
IsSoundStands (typed f t) = IsSoundThing t
IsSoundStands (held a t) = IsSoundThing t
IsSoundStands (cells k) = IsSoundKind k
IsSoundStands (act ks m) = AreSoundKinds ks
IsSoundStands (rows m) = Unit {0}
IsSoundStands state = Unit {0}
IsSoundStands (function f) = Unit {0}
IsSoundStands algorithm = Unit {0}
IsSoundStands other = Unit {0}

-- whatever a path stands for
pub record IsSound (s : Scope) : Type 0 where
  pub paths : (x : List (List ℕ)) → IsSoundStands (s x)

-- what is in sight at a use is sound, and so is the width that is wanted there, which may be none
abbrev pub UseIsSound : Scope → Use → Type 0
UseIsSound s (valued want e) = IsSound s × (kind_width want ≤ 128)
UseIsSound s (named fits x) = IsSound s

abbrev pub SightsAreSound : Type 0
SightsAreSound = (p : Program) → IsWellTyped p → EachUse UseIsSound p

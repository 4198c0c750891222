-- As what a path may be used. A path that stands for nothing fits every use: another test speaks of it. Read `Scopes`
-- before it.
use Rattle.std.specs.Prelude.{ℕ, Bool, true, false}
use Rattle.p4_scopes.specs.Scopes.{Stands, missing, typed, held, act, rows, algorithm}
use Rattle.p4_scopes.specs.declared.thing.Thing.{Thing}
use Rattle.p4_scopes.specs.declared.thing.Thing.TheVariants.{Scalar, Header, Standard}
use Rattle.p4_scopes.specs.declared.thing.Access.{Access}
use Rattle.p4_scopes.specs.declared.thing.Access.TheVariants.{Writable, Fixed, Constant}

-- one value
abbrev pub is_scalar : Thing → Bool
is_scalar (Scalar k) = true
is_scalar _ = false

-- a header, and its bits; 0 where it is none
abbrev pub is_header : Thing → Bool
is_header (Header n) = true
is_header _ = false

abbrev pub header_bits : Thing → ℕ
header_bits (Header n) = n
header_bits _ = 0

-- read as a value
abbrev pub reads : Stands → Bool
reads missing = true
reads (held a t) = is_scalar t
reads _ = false

-- a header of the packet
abbrev pub holds_header : Stands → Bool
holds_header missing = true
holds_header (held a t) = is_header t
holds_header _ = false

-- the standard metadata
abbrev pub holds_standard : Stands → Bool
holds_standard missing = true
holds_standard (held a Standard) = true
holds_standard _ = false

abbrev pub is_table : Stands → Bool
is_table missing = true
is_table (rows m) = true
is_table _ = false

abbrev pub is_action : Stands → Bool
is_action missing = true
is_action (act ks m) = true
is_action _ = false

abbrev pub is_algorithm : Stands → Bool
is_algorithm missing = true
is_algorithm algorithm = true
is_algorithm _ = false

-- a type
abbrev pub is_type : Stands → Bool
is_type missing = true
is_type (typed f t) = true
is_type _ = false

-- it may be assigned
abbrev pub may_write : Access → Bool
may_write Writable = true
may_write Fixed = false
may_write Constant = false

abbrev pub is_writable : Stands → Bool
is_writable (held a t) = may_write a
is_writable _ = true

-- a constant
abbrev pub is_constant : Stands → Bool
is_constant missing = true
is_constant (held Constant t) = true
is_constant _ = false

-- the most digests that a call of an action gives, or the application of a table
abbrev pub most_in : Stands → ℕ
most_in (act ks m) = m
most_in (rows m) = m
most_in _ = 0

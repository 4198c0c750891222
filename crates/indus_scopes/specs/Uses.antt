-- As what a name may be used. A name that stands for nothing fits every use: another rule speaks of it. Read `Scopes`
-- before it.
use Rattle.std.specs.Prelude.{List, [], ◌∷◌, Bool, true, false, ◌&&◌, ◌||◌}
use Rattle.indus_tree.specs.Tree.{Exprs, none, more, Shape, one, list, set, dict}
use Rattle.indus_tree.specs.declared.tree.Ty.{Ty}
use Rattle.indus_tree.specs.declared.tree.DeclKind.{DeclKind}
use Rattle.indus_tree.specs.declared.tree.DeclKind.TheVariants.{Tele, Sensor, Header, Control}
use Rattle.indus_scopes.specs.Scopes.{Stands, missing, builtin, variable}
use Rattle.indus_scopes.specs.declared.kind.Kind.TheVariants.{Truth}

-- nothing
abbrev pub is_missing : Stands → Bool
is_missing missing = true
is_missing _ = false

-- `first_hop` or `last_hop`
abbrev pub is_hop : Stands → Bool
is_hop (builtin Truth) = true
is_hop _ = false

-- as many expressions as types
abbrev pub as_many : Exprs → List Ty → Bool
as_many none [] = true
as_many none (t ∷ ts) = false
as_many (more a es) [] = false
as_many (more a es) (t ∷ ts) = as_many es ts

-- one expression
abbrev pub is_one : Exprs → Bool
is_one none = false
is_one (more a none) = true
is_one (more a (more b es)) = false

abbrev pub is_scalar : Shape → Bool
is_scalar (one t) = true
is_scalar _ = false

-- a list of the packet's
abbrev pub is_list : DeclKind → Shape → Bool
is_list Tele (list t n) = true
is_list _ _ = false

-- a sensor array
abbrev pub is_array : DeclKind → Shape → Bool
is_array Sensor (list t n) = true
is_array _ _ = false

abbrev pub is_dict : Shape → Bool
is_dict (dict ks t) = true
is_dict _ = false

-- read, or assigned, by its name alone
abbrev pub reads : Stands → Bool
reads (variable d) = is_scalar d.shape
reads _ = true

-- a list: its length is asked, it is pushed onto or walked
abbrev pub counts : Stands → Bool
counts missing = true
counts (variable d) = is_list d.kind d.shape
counts _ = false

-- read at a key: a dict by as many parts as its keys have, a sensor array by an index
abbrev pub shape_indexed : DeclKind → Shape → Exprs → Bool
shape_indexed k (dict ts t) es = as_many es ts
shape_indexed k s es = is_array k s && is_one es

abbrev pub indexed : Stands → Exprs → Bool
indexed missing es = true
indexed (variable d) es = shape_indexed d.kind d.shape es
indexed _ es = false

-- the right side of `in`: a set, with as many parts as its keys have, or a list, with one
abbrev pub shape_holds : DeclKind → Shape → Exprs → Bool
shape_holds k (set ts) es = as_many es ts
shape_holds k s es = is_list k s && is_one es

abbrev pub may_hold : Stands → Exprs → Bool
may_hold missing es = true
may_hold (variable d) es = shape_holds d.kind d.shape es
may_hold _ es = false

-- assigned at a key: an array, and a dict, of which the rule on writing speaks
abbrev pub may_index : Stands → Bool
may_index (variable d) = is_array d.kind d.shape || is_dict d.shape
may_index _ = true

-- written: tele and sensor variables alone
abbrev pub kind_writable : DeclKind → Bool
kind_writable Tele = true
kind_writable Sensor = true
kind_writable Header = false
kind_writable Control = false

abbrev pub writable : Stands → Bool
writable missing = true
writable (variable d) = kind_writable d.kind
writable _ = false

-- What names stand for, as code keeps it.
use Rattle.std.specs.Prelude.{ℕ, List, ◌++◌, map, reverse, Option, Some, None}
use Rattle.std.specs.Option.{option_map}
use Rattle.bit_values.specs.Bits.{Word}
use Rattle.p4_tree.specs.declared.statement.PTy.{PTy}
use Rattle.p4_tree.specs.declared.statement.PTy.TheVariants as type
use Rattle.p4_meaning.specs.Scope as scope
use Rattle.p4_resolved.specs.Lent.{lent}
use Rattle.p4_resolved.specs.declared.latest.Latest as code_latest
use Rattle.p4_resolved.specs.declared.names.Names as code_names
use Rattle.p4_resolved.specs.declared.layer.Roots as code_roots
use Rattle.p4_resolved.specs.declared.layer.Inner as code_inner
use Rattle.p4_resolved.specs.declared.layer.Layer as code_layer
use Rattle.p4_resolved.specs.declared.scope.Scope as code_scope

-- names with what they stand for, the nearest first
abbrev pub rows_of : {T : Type 0} → code_latest.Latest T → List (List ℕ × T)
rows_of l = reverse l.rows.items

-- names in order
abbrev pub names_of : code_names.Names → List (List ℕ)
names_of n = map (λ r. r.0) n.rows.rows.items

-- the names of the roots
abbrev pub roots_in : code_roots.Roots → scope.Roots
roots_in r = record { headers = r.headers; metadata = r.metadata; standard = r.standard }

-- the action around
abbrev pub inner_of : code_inner.Inner → scope.Inner
inner_of i = record { action = i.action; names = names_of i.names }

-- constants and typedefs of the part around, and of the program around it
abbrev pub constants_in : Option code_layer.Layer → code_layer.Layer → List (List ℕ × Word)
constants_in None l = rows_of l.constants
constants_in (Some t) l = rows_of l.constants ++ rows_of t.constants

abbrev pub types_in : Option code_layer.Layer → code_layer.Layer → List (List ℕ × PTy)
types_in None l = rows_of l.types
types_in (Some t) l = rows_of l.types ++ rows_of t.types

-- a scope
abbrev pub scope_in : Option code_layer.Layer → code_layer.Layer → Option code_inner.Inner → scope.Scope
scope_in t l i =
    record {
      roots = roots_in l.roots;
      control = l.control;
      own = names_of l.own;
      constants = constants_in t l;
      types = types_in t l;
      inner = option_map inner_of i;
    }

abbrev pub scope_of : code_scope.Scope → scope.Scope
scope_of s = scope_in (lent s.top) s.layer.now (lent s.inner)

-- the scope at top level, and in a parser or a control
abbrev pub at_top : code_layer.Layer → scope.Scope
at_top t = scope_in None t None

abbrev pub at_part : (top part : code_layer.Layer) → scope.Scope
at_part t l = scope_in (Some t) l None

-- the type that was found for a name, and else the name
abbrev pub type_or : List ℕ → Option PTy → PTy
type_or x None = type.Named x
type_or x (Some t) = t

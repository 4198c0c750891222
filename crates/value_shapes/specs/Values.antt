-- What the keys of a program's tables and the parameters of its actions hold. Read `Controls` of the rules before it.
use Rattle.std.specs.Prelude.{ℕ, List, [], ◌∷◌, ◌++◌, map, Bool, true, false}
use Rattle.std.specs.Global.{Vec}
use Rattle.p4_tree.specs.Tree.{Expr, Local, local_action, local_table, Top, control}
use Rattle.p4_tree.specs.declared.statement.PTy.{PTy}
use Rattle.p4_scopes.specs.Kinds.{bits_in}
use Rattle.p4_scopes.specs.Scopes.{Scope, own, kind_in}
use Rattle.p4_scopes.specs.declared.kind.Kind.{Kind}
use Rattle.p4_scopes.specs.declared.kind.Kind.TheVariants as kind
use Rattle.p4_declaration_rules.specs.Parsers.{with_ways}
use Rattle.p4_declaration_rules.specs.Controls.{after_local, after_top}
use Rattle.value_shapes.specs.declared.values.Holder.{Holder}
use Rattle.value_shapes.specs.declared.values.Holder.TheVariants.{Keys, Params}
use Rattle.value_shapes.specs.declared.values.ValueShape.{ValueShape}

-- a value of this kind is a truth value
abbrev pub is_truth : Kind → Bool
is_truth (kind.Number w) = false
is_truth kind.Truth = true
is_truth kind.Error = false
is_truth kind.Unknown = false

-- what is of this kind
abbrev pub value_of : Kind → ValueShape
value_of k = record { width = bits_in k; is_truth = is_truth k }

-- keys by the rules, with this in sight
abbrev pub key_values : Scope → List (Expr × List ℕ) → List ValueShape
key_values s [] = []
key_values s (k ∷ ks) = value_of (own s k.0) ∷ key_values s ks

-- parameters of these types
abbrev pub param_values : Scope → List (PTy × List ℕ) → List ValueShape
param_values s [] = []
param_values s (p ∷ ps) = value_of (kind_in s p.0) ∷ param_values s ps

-- the keys of the table, or the parameters of the action, that a declaration of a control declares, if it does
abbrev pub local_values : Holder → Scope → Local → List (List ValueShape)
local_values Keys s (local_table p t) = key_values s t.keys ∷ []
local_values Params s (local_action p a) = param_values s a.params ∷ []
local_values h s _ = []

abbrev pub locals_values : Holder → Scope → List Local → List (List ValueShape)
locals_values h s [] = []
locals_values h s (l ∷ ls) = local_values h s l ++ locals_values h (after_local s l) ls

-- those of the tables, or of the actions, of a control
abbrev pub top_values : Holder → Scope → Top → List (List ValueShape)
top_values h s (control p c) = locals_values h (with_ways s c.params) c.locals
top_values h s _ = []

-- those of all tables, or of all actions, in the order of the text
abbrev pub tops_values : Holder → Scope → List Top → List (List ValueShape)
tops_values h s [] = []
tops_values h s (t ∷ ts) = top_values h s t ++ tops_values h (after_top s t) ts

-- lists of values
abbrev pub lists_in : List (Vec ValueShape) → List (List ValueShape)
lists_in vs = map (λ v. v.items) vs

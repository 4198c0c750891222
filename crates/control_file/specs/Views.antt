-- Values of the program without where they lie in memory.
use Rattle.std.specs.Prelude.{ℕ, List, map}
use Rattle.std.proofs.Common.{Vec, Global}
use Rattle.indus_tree.specs.Tree.{Decl}
use Rattle.indus_tree.specs.State.{Contents}
use Rattle.indus_tree.specs.View.{decl_of, property_of}
use Rattle.indus_tree.specs.declared.tree.Property.{Property}
use Rattle.indus_values.specs.View.{contents_of}
use Rattle.indus_values.specs.declared.state.ControlValue.{ControlValue}
use Rattle.control_file.specs.Control as control
use Rattle.control_file.specs.declared.variables.Variable.{Variable}

-- keys by the numbers that are their parts
abbrev pub seen_numbers : List (Vec ℕ Global) → List (List ℕ)
seen_numbers ks = map (λ k. k.items) ks

-- the declarations of a property
abbrev pub decls_of : Property → List Decl
decls_of p = (property_of p).decls

abbrev pub variable_view : Variable → control.Variable
variable_view v = record { number = v.number; decl = decl_of v.decl.now }

-- the contents of the control variables of a switch, and of each switch
abbrev pub contents_view : Vec ControlValue Global → List Contents
contents_view v = map contents_of v.items

abbrev pub switches_view : Vec (Vec ControlValue Global) Global → List (List Contents)
switches_view v = map contents_view v.items

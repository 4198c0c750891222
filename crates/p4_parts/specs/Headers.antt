-- Headers and fields of the machine.
use Rattle.std.specs.Prelude.{ℕ, List, [], ◌∷◌, map}
use Rattle.p4_tree.specs.Tree.{Top}
use Rattle.p4_tree.specs.declared.statement.PTy.{PTy}
use Rattle.p4_meaning.specs.Standard.{headers_root}
use Rattle.p4_meaning.specs.Scope.{type_name}
use Rattle.p4_meaning.specs.Parts.{field_of, header_fields}
use Rattle.p4_meaning.specs.Parsing as parsing
use Rattle.p4_parts.specs.declared.header.Field as code_field
use Rattle.p4_parts.specs.declared.header.Header as code_header

-- a field
abbrev pub field_in : code_field.Field → parsing.Field
field_in f = record { name = f.name; width = f.width }

-- a header
abbrev pub header_in : code_header.Header → parsing.Header
header_in h = record { path = h.path.items; fields = map field_in h.fields.items }

-- a header of the struct of headers, with these typedefs
abbrev pub header_with : List (List ℕ × PTy) → List Top → PTy × List ℕ → parsing.Header
header_with types ts f = record { path = headers_root ∷ f.1 ∷ []; fields = map (field_of types) (header_fields ts (type_name f.0)) }

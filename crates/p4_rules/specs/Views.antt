-- What the values of the program stand for. Read the specs that callers rest on before it.
use Rattle.std.specs.Prelude.{ℕ, List, [], ◌∷◌, Bool, false}
use Rattle.p4_tree.specs.declared.program.Param.{Param}
use Rattle.p4_scopes.specs.Uses.{is_scalar, is_header}
use Rattle.p4_scopes.specs.declared.thing.Thing.{Thing}
use Rattle.p4_rules.specs.Mains.{Wanted, core_type, headers, metadata, Structs, is_wanted}
use Rattle.p4_rules.specs.declared.mains.Fields.{Fields}
use Rattle.p4_rules.specs.declared.mains.Fields.TheVariants as code_fields
use Rattle.p4_rules.specs.declared.mains.Wanted as code
use Rattle.p4_rules.specs.declared.mains.Wanted.TheVariants as wanted
use Rattle.p4_rules.specs.declared.mains.Structs as code_structs

-- what the fields of a struct have to be
abbrev pub fits_of : Fields → Thing → Bool
fits_of code_fields.Headers = is_header
fits_of code_fields.Scalars = is_scalar

-- what a parameter has to be
abbrev pub wanted_of : code.Wanted → Wanted
wanted_of (wanted.Core w x) = core_type w x.now
wanted_of (wanted.Headers w) = headers w
wanted_of (wanted.Metadata w) = metadata w

abbrev pub structs_view : code_structs.Structs → Structs
structs_view s = record { headers_type = s.headers_type; metadata_type = s.metadata_type; has_headers = s.has_headers; has_metadata = s.has_metadata }

-- a parameter is the first that is wanted
abbrev pub wanted_at : Structs → List Wanted → Param → Bool
wanted_at r [] q = false
wanted_at r (w ∷ ws) q = is_wanted r w q

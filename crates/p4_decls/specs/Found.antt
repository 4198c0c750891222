-- What the code finds.
use Rattle.std.specs.Prelude.{map}
use Rattle.std.specs.Option.{option_map}
use Rattle.p4_tree.specs.View.{key_of, default_of}
use Rattle.p4_decls.specs.Tables.{Props}
use Rattle.p4_decls.specs.declared.found.FoundProps.{FoundProps}

abbrev pub props_of : FoundProps → Props
props_of x = record { keys = option_map (λ y. map key_of y.items) x.keys; size = x.size; actions = option_map (λ y. y.items) x.actions; default = option_map default_of x.default; fixed = x.fixed }

use Rattle.std.proofs.Common.{◌≡◌, ◌++◌, map, take, string_bytes}
use Rattle.p4_tree.specs.View.{local_of}
use Rattle.p4_types.specs.Numbers.{registers, locals_names}
use Rattle.register_texts.proofs.names.put_locals.Given as goal

abbrev pub invariant-loop-local : goal.invariant-loop-local
invariant-loop-local l =
    map string_bytes l.found.items ≡ map string_bytes l.initial.found.items ++ locals_names registers l.control (map local_of (take l.local-index l.locals))

-- What is in sight, of the program's values.
use Rattle.std.specs.Prelude.{map}
use Rattle.indus_tree.specs.View.{decl_of}
use Rattle.indus_scopes.specs.Scopes.{Sight, loop_of}
use Rattle.indus_scopes.specs.declared.sight.Scope as code

abbrev pub scope_of : code.Scope → Sight
scope_of s = record { edition = s.edition; decls = map decl_of s.decls.decls.now; loops = map loop_of s.loops.items; block = s.block }

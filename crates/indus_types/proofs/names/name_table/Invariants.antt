use Rattle.std.proofs.Common.{◌≡◌, map, take, drop}
use Rattle.indus_tree.specs.View.{decl_of}
use Rattle.indus_scopes.specs.NameTable.{names_of, texts}
use Rattle.indus_types.specs.NameTable.{AreNew}
use Rattle.indus_types.proofs.names.name_table.Given as goal

abbrev pub invariant-loop-d : goal.invariant-loop-d
invariant-loop-d l = (texts l.table.keys ≡ names_of (map decl_of (take l.d-index l.decls))) × AreNew (map decl_of (take l.d-index l.decls)) (map decl_of (drop l.d-index l.decls))

use Rattle.std.proofs.Common.{◌≡◌, ◌++◌, drop, map}
use Rattle.indus_tree.specs.View.{decl_of}
use Rattle.flat_laws.specs.Numbered.{numbered, numbered_from}
use Rattle.lower_blocks.proofs.numbered.numbered_list.Given as goal

abbrev pub invariant-loop-number : goal.invariant-loop-number
invariant-loop-number l = map decl_of l.out.items ++ numbered_from l.number (map decl_of (drop l.number l.decls)) ≡ numbered (map decl_of l.decls)

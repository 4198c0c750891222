use Rattle.std.proofs.Common.{◌≡◌, ◌++◌, drop, map}
use Rattle.p4_tree.specs.View.{local_of}
use Rattle.lowered_code.specs.Statements.{lookups_in}
use Rattle.lower_blocks.specs.Trees.{table_tree}
use Rattle.lower_reads.specs.View.{reads_of}
use Rattle.lower_blocks.proofs.locals.tables.Given as goal

abbrev pub invariant-loop-read : goal.invariant-loop-read
invariant-loop-read l =
    map local_of l.out.items ++ map table_tree (lookups_in (reads_of (drop l.read-index l.reads)))
    ≡ map local_of l.initial.out.items ++ map table_tree (lookups_in (reads_of l.reads))

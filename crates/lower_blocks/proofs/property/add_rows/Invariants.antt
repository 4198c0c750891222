use Rattle.std.proofs.Common.{◌≡◌, ◌++◌, drop}
use Rattle.indus_tree.specs.View.{property_of}
use Rattle.lowered_code.specs.Statements.{lookups_in}
use Rattle.lower_blocks.specs.Results.{rows_of}
use Rattle.lower_blocks.specs.Trees.{mapped}
use Rattle.lower_reads.specs.View.{reads_of}
use Rattle.lower_blocks.proofs.property.add_rows.Given as goal

abbrev pub invariant-loop-read : goal.invariant-loop-read
invariant-loop-read l =
    rows_of l.map ++ mapped (property_of l.p) l.control (lookups_in (reads_of (drop l.read-index l.reads)))
    ≡ rows_of l.initial.map ++ mapped (property_of l.p) l.control (lookups_in (reads_of l.reads))

use Rattle.std.proofs.Common.{◌++◌}
use Rattle.std.proofs.lemmas.Slice.Zip.{either_empty_from_Zip}
use Rattle.indus_tree.specs.Meaning.{named}
use Rattle.indus_run.proofs.Named.{all_named}
use Rattle.indus_run.proofs.run.add_named.Goals as goal

pub returns : goal.returns
returns c =
    all_named c.loop-x.all.items (c.args.all.now.items ++ named c.args.names.now c.args.words.now) c.loop-x.x-iterator.a.rest.now c.loop-x.x-iterator.b.rest.now c.loop-x.invariant
    (either_empty_from_Zip c.loop-x.x-iterator c.next.new.self c.next.result c.in-None.is c.next.ensures.steps)

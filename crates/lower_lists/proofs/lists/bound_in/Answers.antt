use Rattle.std.proofs.Common.{◌++◌}
use Rattle.std.proofs.lemmas.Slice.Zip.{either_empty_from_Zip}
use Rattle.lower_lists.specs.Flat.{bound_to}
use Rattle.lower_lists.proofs.Views.{all_bound}
use Rattle.lower_lists.proofs.lists.bound_in.Goals as goal

pub returns : goal.returns
returns c =
    all_bound c.loop-name.inner.items (c.args.bounds.now ++ bound_to c.args.names.now c.args.lists.now c.args.turn) c.loop-name.name-iterator.a.rest.now c.loop-name.name-iterator.b.rest.now c.args.turn c.loop-name.invariant
    (either_empty_from_Zip c.loop-name.name-iterator c.next.new.self c.next.result c.in-None.is c.next.ensures.steps)

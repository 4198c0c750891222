use Rattle.std.proofs.Common.{map, arith}
use Rattle.run_captures.specs.Views.{list_view}
use Rattle.run_captures.proofs.Sorting.{none_sorted}
use Rattle.run_captures.proofs.captures.no_frames.Goals as goal

pub returns : goal.returns
returns c = λ key. none_sorted key c.args.count (map list_view c.loop.lists.items) (let made = c.loop.invariant.count in omega (arith, made)) c.loop.invariant.empty

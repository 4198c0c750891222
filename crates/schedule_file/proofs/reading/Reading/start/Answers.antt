use Rattle.std.proofs.Common.{sym, ap, ◌∙◌}
use Rattle.schedule_file.specs.Schedule.{count_of}
use Rattle.schedule_file.proofs.WaitingLemmas.{none_wait}
use Rattle.schedule_file.proofs.reading.Reading.start.Goals as goal

pub invariant_of-result : goal.invariant_of-result
invariant_of-result c = sym (ap count_of (c.in_ok-vec.ensures.items_if_clones_equal (λ y e. e)) ∙ none_wait c.args.around.packets)

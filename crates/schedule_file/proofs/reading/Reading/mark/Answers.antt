use Rattle.std.proofs.Common.{◌<◌, length, arith}
use Rattle.std.proofs.Math.ListN.{length-set}
use Rattle.std.specs.Prelude.{slice_set}
use Rattle.schedule_file.proofs.WaitingLemmas.{count_set, one_counted, few_wait}
use Rattle.schedule_file.proofs.reading.Reading.mark.Goals as goal

pub overflow_sub-self : goal.overflow_sub-self
overflow_sub-self c =
    let ws = c.self.inside.waiting.items in
    let lt : c.args.packet < length ws = omega (arith, c.len.ensures, c.if-place-len.true) in
    let counted = one_counted ws c.args.packet c.index-waited.result.now lt in
    rw (c.one_if.ensures.value, c.self.invariant) (rw (← c.index-waited.ensures) at counted)

pub overflow_add-self : goal.overflow_add-self
overflow_add-self c =
    let ws = c.self.inside.waiting.items in
    let lt : c.args.packet < length ws = omega (arith, c.len.ensures, c.if-place-len.true) in
    let set = rw (← c.index-waited.ensures) at (count_set ws c.args.packet c.index-waited.result.now c.args.waits lt) in
    let few = rw (length-set ws c.args.packet c.args.waits) at (few_wait (slice_set ws c.args.packet c.args.waits)) in
    let counted = rw (← c.index-waited.ensures) at (one_counted ws c.args.packet c.index-waited.result.now lt) in
    omega (arith, set, few, counted, c.one_if.ensures.value, c.one_if-then-place-len.ensures.value, c.self.invariant, c.len.ensures, c.len.type_inv)

pub invariant_of-self : goal.invariant_of-self
invariant_of-self c =
    let ws = c.self.inside.waiting.items in
    let lt : c.args.packet < length ws = omega (arith, c.len.ensures, c.if-place-len.true) in
    let set = rw (← c.index-waited.ensures) at (count_set ws c.args.packet c.index-waited.result.now c.args.waits lt) in
    let counted = rw (← c.index-waited.ensures) at (one_counted ws c.args.packet c.index-waited.result.now lt) in
    omega (arith, set, counted, c.one_if.ensures.value, c.one_if-then-place-len.ensures.value, c.self.invariant)

use Rattle.std.proofs.Common.{ℕ, List, Some, drop, ap, ap₂, sym, ◌∙◌}
use Rattle.bit_values.specs.Bytes.{bits_of}
use Rattle.p4_meaning.specs.Store.{Store}
use Rattle.p4_meaning.specs.Pass.{Queued, to_egress, unless_dropped}
use Rattle.p4_parts.specs.PartsIn.{parts_in}
use Rattle.p4_packets.specs.Fields.{store_of}
use Rattle.p4_passages.proofs.waiting.queue.Goals as goal

pub returns : goal.returns
returns c =
    let waits : Queued = record { store = to_egress (parts_in c.args.p.now) (store_of c.args.fields); rest = drop c.args.at (bits_of c.args.frame.now) } in
    ap₂ (λ (s : Store) (l : List ℕ). let q : Queued = record { store = s; rest = l } in Some q) c.in_ok-to_egress.ensures c.in_ok-rest.ensures
    ∙ sym (ap (λ b. unless_dropped b waits) (sym c.in_ok-drops.ensures ∙ c.if-drops.false))

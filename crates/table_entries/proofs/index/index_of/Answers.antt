use Rattle.std.proofs.Common.{map, take, subst}
use Rattle.table_entries.specs.Index.{IsIndex}
use Rattle.table_entries.specs.View.{entry_of}
use Rattle.table_entries.proofs.Listed.{next_listed, many_listed}
use Rattle.table_entries.proofs.index.index_of.Goals as goal

pub loop-i-init : goal.loop-i-init
loop-i-init c = c.new-index.ensures c.args.kinds.now

pub loop-i-preserved : goal.loop-i-preserved
loop-i-preserved c =
    let i = c.loop-i.i in let list = c.args.list.now in
    subst (λ es. IsIndex c.args.kinds.now c.args.has_ternary es c.note.new.self) (next_listed list i c.index-list-i.result c.loop-i-test.true c.index-list-i.is) (c.in_ok-note.ensures.ok c.args.has_ternary (map entry_of (take i list)) c.loop-i.invariant (many_listed list i c.loop-i-test.true))

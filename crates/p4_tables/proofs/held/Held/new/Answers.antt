use Rattle.std.proofs.Common.{map, sym, subst}
use Rattle.table_entries.specs.Index.{IsIndex}
use Rattle.table_entries.specs.View.{entry_of}
use Rattle.p4_tables.proofs.held.Held.new.Goals as goal

pub invariant_of-result : goal.invariant_of-result
invariant_of-result c =
    let ks = c.args.shape.keys.items in
    subst (λ t. IsIndex ks t (map entry_of c.new.result.items) c.new-index.result) c.has_ternary.ensures
    (subst (λ es. IsIndex ks c.has_ternary.result (map entry_of es) c.new-index.result) (sym c.new.ensures.items) (c.new-index.ensures ks))

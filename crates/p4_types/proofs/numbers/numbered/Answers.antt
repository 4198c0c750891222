use Rattle.std.proofs.Common.{List, ℕ, map, take, subst}
use Rattle.p4_tree.specs.View.{top_of}
use Rattle.p4_types.specs.Numbers.{tops_names}
use Rattle.p4_types.specs.Kept.{sort_of, IsNumbering}
use Rattle.p4_types.proofs.Numbered.{tops_next}
use Rattle.p4_types.proofs.numbers.numbered.Goals as goal

pub loop-top-preserved : goal.loop-top-preserved
loop-top-preserved c =
    let sort = sort_of c.args.sort in
    let P : List (List ℕ) → Type 0 = λ xs. IsNumbering c.add_top.new.numbering xs in
    subst P (tops_next sort c.args.tops.now c.loop-top.top-index c.top-item.result c.loop-top-test.true c.top-item.is)
    (c.in_ok-add_top.ensures (tops_names sort (map top_of (take c.loop-top.top-index c.args.tops.now))) c.loop-top.invariant)

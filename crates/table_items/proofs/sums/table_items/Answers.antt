-- Behind all variables the sums are those of the definition, but for what is too large.
use Rattle.std.proofs.Common.{arith, ap, sym, ◌∙◌, map, length}
use Rattle.std.proofs.lemmas.List.{length-map}
use Rattle.indus_tree.specs.View.{property_of}
use Rattle.network_file.specs.Events.{event_of}
use Rattle.table_items.specs.Items.{all_items}
use Rattle.table_items.specs.Steps.{cap, with_variables}
use Rattle.table_items.specs.Views.{contents_view}
use Rattle.table_items.proofs.LimitLemmas.{too_many-cap, sum-cap}
use Rattle.table_items.proofs.SumLemmas.{sums_are}
use Rattle.table_items.proofs.sums.table_items.Goals as goal

pub within-requires-clause-sum : goal.within-requires-clause-sum
within-requires-clause-sum c =
    let p = property_of c.args.p.now in
    let es = map event_of c.args.events.now in
    let css = map contents_view c.args.control.now in
    let one_each = c.requires.one_each ∙ sym (length-map c.args.control.now contents_view) in
    let begun = ap (λ sums. with_variables p css es 0 0 sums p.decls) c.start.ensures in
    let bound = sum-cap c.add_variables.new.sums _ (c.add_variables.ensures ∙ begun ∙ sums_are p es c.args.entries.now css one_each) in
    let long = ap length c.start.ensures ∙ length-map c.args.entries.now cap in
    omega (arith, bound, long)

pub returns : goal.returns
returns c =
    let p = property_of c.args.p.now in
    let es = map event_of c.args.events.now in
    let css = map contents_view c.args.control.now in
    let one_each = c.requires.one_each ∙ sym (length-map c.args.control.now contents_view) in
    rw (c.within.ensures, c.add_variables.ensures, c.start.ensures, sums_are p es c.args.entries.now css one_each) (too_many-cap (all_items p 0 es c.args.entries.now css))

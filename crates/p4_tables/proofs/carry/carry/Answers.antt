use Rattle.std.proofs.Common.{◌≡◌, ℕ, ◌+◌, ◌-◌, ◌<◌, drop, length, sym, ap, ◌∙◌, arith}
use Rattle.std.proofs.lemmas.List.{length-map, get_or-map}
use Rattle.p4_parts.specs.PartsIn.{parts_in, table_in}
use Rattle.p4_tables.specs.CarriedWalk.{all_refilled, with_refilled}
use Rattle.p4_tables.proofs.Refilled.{one_refilled}
use Rattle.p4_tables.proofs.carry.carry.Goals as goal

pub loop-left-preserved : goal.loop-left-preserved
loop-left-preserved c =
    let from = parts_in c.args.from.now in
    let to = parts_in c.args.to.now in
    let items = c.args.from.now.tables.items in
    let hs = c.args.held.now in
    let i : ℕ = c.loop-left.left - 1 in
    let back : c.loop-left.left - 1 + 1 ≡ c.loop-left.left = omega (arith, c.loop-left-test.true) in
    let t = c.index.result.now in
    let h = c.index-held-left.result in
    let many = c.requires.count in
    let low : c.loop-left.left - 1 < length hs = omega (arith, c.loop-left-test.true, c.loop-left.invariant.within) in
    let long = length-map items table_in in
    let lt : c.loop-left.left - 1 < length items = omega (arith, low, many, long) in
    record {
      within = omega (arith, c.loop-left.invariant.within);
      filled = one_refilled from to from.tables hs c.args.tables.now.items c.loop-left.tables.items c.refill.new.tables.items i (table_in t) h (omega (arith, low, many)) low
          (ap table_in c.index.ensures ∙ sym (get_or-map table_in items i t (table_in t) lt)) c.index-held-left.is
          (c.loop-left.invariant.filled ∙ ap (λ n. all_refilled from to (drop n from.tables) (drop n hs) c.args.tables.now.items) (sym back))
          (c.in_ok-refill.ensures ∙ ap (λ x. with_refilled from to x h c.loop-left.tables.items) c.as_str.ensures);
    }

pub returns : goal.returns
returns c =
    let from = parts_in c.args.from.now in
    let none : c.loop-left.left ≡ 0 = omega (arith, c.loop-left-test.false) in
    c.loop-left.invariant.filled ∙ ap (λ n. all_refilled from (parts_in c.args.to.now) (drop n from.tables) (drop n c.args.held.now) c.args.tables.now.items) none

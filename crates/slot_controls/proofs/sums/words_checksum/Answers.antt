use Rattle.std.proofs.Common.{◌+◌, ◌-◌, ℕ, List, ◌++◌, map, drop, sym, ap, ◌∙◌, arith}
use Rattle.std.proofs.Math.ListN.{drop_of_length-le}
use Rattle.bit_values.specs.Bits.{Word}
use Rattle.bit_values.specs.BitLists.{number_bits}
use Rattle.bit_writer.specs.Bytes.{words_bits}
use Rattle.slot_terms.specs.States.{State, state_of}
use Rattle.slot_terms.specs.Typed.{typed_of}
use Rattle.slot_terms.specs.declared.typed.Typed as code
use Rattle.slot_statements.proofs.TreeLemmas.{drop_one}
use Rattle.slot_controls.specs.Steps.{words_at}
use Rattle.slot_controls.specs.Sums.{sum_behind}
use Rattle.slot_controls.proofs.sums.words_checksum.Goals as goal

pub open_sum-sum-requires-clause-low : goal.open_sum-sum-requires-clause-low
open_sum-sum-requires-clause-low c = omega arith

pub loop-t-init : goal.loop-t-init
loop-t-init c = c.open_sum-sum.ensures (words_bits (words_at (state_of c.args.s.now) (map typed_of c.args.list.now)))

pub loop-t-preserved : goal.loop-t-preserved
loop-t-preserved c =
    let s : State = state_of c.args.s.now in
    let rest : List ℕ = words_bits (words_at s (map typed_of (drop (c.loop-t.t-index + 1) c.args.list.now))) in
    let behind : List ℕ → ℕ = sum_behind c.loop-t.sum.whole c.loop-t.sum.part c.loop-t.sum.count in
    c.with_word-sum.ensures rest
    ∙ ap (λ (w : Word). behind (number_bits w.width w.value ++ rest)) c.word_of.ensures
    ∙ sym (ap (λ (ts : List code.Typed). behind (words_bits (words_at s (map typed_of ts)))) (drop_one c.args.list.now c.loop-t.t-index c.t-item.result c.loop-t-test.true c.t-item.is))
    ∙ c.loop-t.invariant

pub returns : goal.returns
returns c =
    let s : State = state_of c.args.s.now in
    let behind : List ℕ → ℕ = sum_behind c.loop-t.sum.whole c.loop-t.sum.part c.loop-t.sum.count in
    c.finished.ensures
    ∙ ap (λ n. 65535 - n) (sym (ap (λ (ts : List code.Typed). behind (words_bits (words_at s (map typed_of ts)))) (drop_of_length-le c.args.list.now c.loop-t-test.false)) ∙ c.loop-t.invariant)

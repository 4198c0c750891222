use Rattle.std.proofs.Common.{◌+◌, ◌*◌, ◌++◌, ℕ, List, drop, length, take, arith, subst}
use Rattle.bit_values.specs.Bits.{Word}
use Rattle.bit_values.specs.Bytes.{bits_of}
use Rattle.tele_layout.specs.Telemetry.{numbers_bits}
use Rattle.tele_layout.proofs.WritingLemmas.{Putting, left_is, next_number, put_number}
use Rattle.tele_layout.proofs.writing.put_numbers.Goals as goal

pub put_bits-requires : goal.put_bits-requires
put_bits-requires c =
    let v : Word = c.v-item.result in
    let xs : List Word = c.args.numbers.now in
    let w : ℕ = c.args.width in
    let last : ℕ = c.args.at + length xs * w in
    let whole : List ℕ = take c.args.at (bits_of c.args.buf.now) ++ numbers_bits w xs in
    let P : List Word → Type 0 = Putting w last whole c.loop-v.end (bits_of c.loop-v.buf) in
    let n = next_number w last whole c.loop-v.end (bits_of c.loop-v.buf) v (drop (c.loop-v.v-index + 1) xs) c.requires.wide c.requires.narrow
    (subst P (left_is xs c.loop-v.v-index v c.loop-v-test.true c.v-item.is) c.loop-v.invariant) in
    omega (arith, n.width, n.within, c.requires.within, c.loop-v.auto.buf)

pub loop-v-preserved : goal.loop-v-preserved
loop-v-preserved c =
    let v : Word = c.v-item.result in
    let xs : List Word = c.args.numbers.now in
    let w : ℕ = c.args.width in
    let last : ℕ = c.args.at + length xs * w in
    let whole : List ℕ = take c.args.at (bits_of c.args.buf.now) ++ numbers_bits w xs in
    let P : List Word → Type 0 = Putting w last whole c.loop-v.end (bits_of c.loop-v.buf) in
    put_number w last whole c.loop-v.end (bits_of c.loop-v.buf) (bits_of c.put_bits.new.buf) v (drop (c.loop-v.v-index + 1) xs) c.requires.wide c.requires.narrow
    (subst P (left_is xs c.loop-v.v-index v c.loop-v-test.true c.v-item.is) c.loop-v.invariant) c.put_bits.ensures.grown

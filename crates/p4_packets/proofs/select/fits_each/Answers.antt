use Rattle.std.proofs.Common.{◌≡◌, List, [], map, drop, sym, ap, ap₂, ◌∙◌, arith}
use Rattle.std.proofs.Math.ListN.{drop_of_length-le}
use Rattle.bit_values.specs.Bits.{Word}
use Rattle.p4_tree.specs.View.{keyset_of}
use Rattle.p4_tree.specs.declared.program.Keyset as code_keyset
use Rattle.p4_meaning.specs.Parsing.{fits_each}
use Rattle.p4_packets.specs.Fields.{store_of}
use Rattle.p4_packets.proofs.SelectLemmas.{no_keys, no_sets}
use Rattle.p4_packets.proofs.select.fits_each.Goals as goal

pub returns-then-i-keys : goal.returns-then-i-keys
returns-then-i-keys c =
    let s = store_of c.args.s.now in
    let none : drop c.loop-i.i c.args.keys.now ≡ [] = drop_of_length-le c.args.keys.now (omega arith) in
    sym (no_keys c.args.sets.now c.loop-i.i s (omega arith))
    ∙ ap (λ ks. fits_each (map keyset_of (drop c.loop-i.i c.args.sets.now)) ks s) (sym none)
    ∙ c.loop-i.invariant

pub returns-then-sets-keys : goal.returns-then-sets-keys
returns-then-sets-keys c =
    let s = store_of c.args.s.now in
    let none : drop c.loop-i.i c.args.sets.now ≡ [] = drop_of_length-le c.args.sets.now (omega arith) in
    sym (no_sets c.args.keys.now c.loop-i.i s (omega arith))
    ∙ ap (λ l. fits_each (map keyset_of l) (drop c.loop-i.i c.args.keys.now) s) (sym none)
    ∙ c.loop-i.invariant

pub returns : goal.returns
returns c =
    let s = store_of c.args.s.now in
    let none : drop c.loop-i.i c.args.sets.now ≡ [] = drop_of_length-le c.args.sets.now (omega arith) in
    let all : drop c.loop-i.i c.args.keys.now ≡ [] = drop_of_length-le c.args.keys.now (omega arith) in
    ap₂ (λ (sets : List code_keyset.Keyset) (ks : List Word). fits_each (map keyset_of sets) ks s) (sym none) (sym all)
    ∙ c.loop-i.invariant

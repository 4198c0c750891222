use Rattle.std.proofs.Common.{◌≡◌, List, [], map, drop, sym, ap, ap₂, ◌∙◌, arith}
use Rattle.std.proofs.Math.ListN.{drop_of_length-le}
use Rattle.bit_values.specs.Bits.{Word}
use Rattle.p4_meaning.specs.Choice.{fits_keys}
use Rattle.table_entries.specs.declared.entry.Match as code_match
use Rattle.table_entries.specs.View.{match_of}
use Rattle.table_entries.proofs.Keys.{no_keys, no_matches}
use Rattle.table_entries.proofs.choice.fits_keys.Goals as goal

pub returns-then-i-keys : goal.returns-then-i-keys
returns-then-i-keys c =
    let none : drop c.loop-i.i c.args.keys.now ≡ [] = drop_of_length-le c.args.keys.now (omega arith) in
    sym (no_keys c.args.list.now c.loop-i.i (omega arith))
    ∙ ap (fits_keys (map match_of (drop c.loop-i.i c.args.list.now))) (sym none)
    ∙ c.loop-i.invariant

pub returns-then-list-keys : goal.returns-then-list-keys
returns-then-list-keys c =
    let none : drop c.loop-i.i c.args.list.now ≡ [] = drop_of_length-le c.args.list.now (omega arith) in
    sym (no_matches c.args.keys.now c.loop-i.i (omega arith))
    ∙ ap (λ l. fits_keys (map match_of l) (drop c.loop-i.i c.args.keys.now)) (sym none)
    ∙ c.loop-i.invariant

pub returns : goal.returns
returns c =
    let none : drop c.loop-i.i c.args.list.now ≡ [] = drop_of_length-le c.args.list.now (omega arith) in
    let all : drop c.loop-i.i c.args.keys.now ≡ [] = drop_of_length-le c.args.keys.now (omega arith) in
    ap₂ (λ (ms : List code_match.Match) (ks : List Word). fits_keys (map match_of ms) ks) (sym none) (sym all)
    ∙ c.loop-i.invariant

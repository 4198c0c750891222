use Rattle.lex_words.specs.declared.key.Key.TheVariants as k
use Rattle.lex_words.specs.Seen.{number, key}
use Rattle.p4_printer.specs.Layout.{bare}
use Rattle.std.proofs.Common.{◌++◌, ◌∷◌, []}
use Rattle.p4_printer.proofs.Texts.{follows}
use Rattle.p4_printer.proofs.declaration.put_count.Goals as goal

pub returns : goal.returns
returns c =
    follows c.args.out.now c.put.new.out c.put-3.new.out (key k.More ∷ []) ((key k.Open ∷ []) ++ ((number (bare c.args.count) ∷ []) ++ (key k.Close ∷ []))) c.in_ok-put.ensures
    (follows c.put.new.out c.put-2.new.out c.put-3.new.out (key k.Open ∷ []) ((number (bare c.args.count) ∷ []) ++ (key k.Close ∷ [])) c.in_ok-put-2.ensures
    (follows c.put-2.new.out c.put_decimal.new.out c.put-3.new.out (number (bare c.args.count) ∷ []) (key k.Close ∷ []) c.in_ok-put_decimal.ensures
    c.in_ok-put-3.ensures))

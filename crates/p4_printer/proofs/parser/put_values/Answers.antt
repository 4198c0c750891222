use Rattle.lex_words.specs.declared.key.Key.TheVariants as k
use Rattle.lex_words.specs.Seen.{key}
use Rattle.std.proofs.Common.{◌++◌, ◌∷◌, [], map}
use Rattle.p4_tree.specs.View.{expr_of}
use Rattle.p4_printer.specs.Expressions.{lexemes_of_exprs}
use Rattle.p4_printer.proofs.Texts.{follows}
use Rattle.p4_printer.proofs.parser.put_values.Goals as goal

pub returns : goal.returns
returns c =
    follows c.args.out.now c.put.new.out c.put-4.new.out (key k.Transition ∷ []) ((key k.Select ∷ []) ++ ((key k.Open ∷ []) ++ ((lexemes_of_exprs (map expr_of c.args.list.now)) ++ (key k.Close ∷ [])))) c.in_ok-put.ensures
    (follows c.put.new.out c.put-2.new.out c.put-4.new.out (key k.Select ∷ []) ((key k.Open ∷ []) ++ ((lexemes_of_exprs (map expr_of c.args.list.now)) ++ (key k.Close ∷ []))) c.in_ok-put-2.ensures
    (follows c.put-2.new.out c.put-3.new.out c.put-4.new.out (key k.Open ∷ []) ((lexemes_of_exprs (map expr_of c.args.list.now)) ++ (key k.Close ∷ [])) c.in_ok-put-3.ensures
    (follows c.put-3.new.out c.put_exprs.new.out c.put-4.new.out (lexemes_of_exprs (map expr_of c.args.list.now)) (key k.Close ∷ []) c.in_ok-put_exprs.ensures
    c.in_ok-put-4.ensures)))

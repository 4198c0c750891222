use Rattle.lex_words.specs.declared.key.Key.TheVariants as k
use Rattle.lex_words.specs.Seen.{key}
use Rattle.std.proofs.Common.{◌++◌, ◌∷◌, [], map}
use Rattle.p4_tree.specs.View.{arg_of}
use Rattle.p4_printer.specs.Expressions.{lexemes_of_path, lexemes_of_args}
use Rattle.p4_printer.proofs.Texts.{follows}
use Rattle.p4_printer.proofs.statement.put_call.Goals as goal

pub returns : goal.returns
returns c =
    follows c.args.out.now c.put_path.new.out c.put-3.new.out (lexemes_of_path c.args.callee.now) ((key k.Open ∷ []) ++ ((lexemes_of_args (map arg_of c.args.args.now)) ++ ((key k.Close ∷ []) ++ (key k.Semicolon ∷ [])))) c.in_ok-put_path.ensures
    (follows c.put_path.new.out c.put.new.out c.put-3.new.out (key k.Open ∷ []) ((lexemes_of_args (map arg_of c.args.args.now)) ++ ((key k.Close ∷ []) ++ (key k.Semicolon ∷ []))) c.in_ok-put.ensures
    (follows c.put.new.out c.put_args.new.out c.put-3.new.out (lexemes_of_args (map arg_of c.args.args.now)) ((key k.Close ∷ []) ++ (key k.Semicolon ∷ [])) c.in_ok-put_args.ensures
    (follows c.put_args.new.out c.put-2.new.out c.put-3.new.out (key k.Close ∷ []) (key k.Semicolon ∷ []) c.in_ok-put-2.ensures
    c.in_ok-put-3.ensures)))

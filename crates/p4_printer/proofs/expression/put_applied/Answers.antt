use Rattle.lex_words.specs.declared.key.Key.TheVariants as k
use Rattle.lex_words.specs.Seen.{name, key}
use Rattle.std.proofs.Common.{◌++◌, ◌∷◌, []}
use Rattle.p4_spelling.specs.Words.{apply_name, outcome_name}
use Rattle.p4_printer.proofs.Texts.{follows}
use Rattle.p4_printer.proofs.expression.put_applied.Goals as goal

pub returns : goal.returns
returns c =
    follows c.args.out.now c.put_name.new.out c.put_word-2.new.out (name c.args.table.now ∷ []) ((key k.Dot ∷ []) ++ ((name apply_name ∷ []) ++ ((key k.Open ∷ []) ++ ((key k.Close ∷ []) ++ ((key k.Dot ∷ []) ++ (name (outcome_name c.args.hit) ∷ [])))))) c.in_ok-put_name.ensures
    (follows c.put_name.new.out c.put.new.out c.put_word-2.new.out (key k.Dot ∷ []) ((name apply_name ∷ []) ++ ((key k.Open ∷ []) ++ ((key k.Close ∷ []) ++ ((key k.Dot ∷ []) ++ (name (outcome_name c.args.hit) ∷ []))))) c.in_ok-put.ensures
    (follows c.put.new.out c.put_word.new.out c.put_word-2.new.out (name apply_name ∷ []) ((key k.Open ∷ []) ++ ((key k.Close ∷ []) ++ ((key k.Dot ∷ []) ++ (name (outcome_name c.args.hit) ∷ [])))) c.in_ok-put_word.ensures
    (follows c.put_word.new.out c.put-2.new.out c.put_word-2.new.out (key k.Open ∷ []) ((key k.Close ∷ []) ++ ((key k.Dot ∷ []) ++ (name (outcome_name c.args.hit) ∷ []))) c.in_ok-put-2.ensures
    (follows c.put-2.new.out c.put-3.new.out c.put_word-2.new.out (key k.Close ∷ []) ((key k.Dot ∷ []) ++ (name (outcome_name c.args.hit) ∷ [])) c.in_ok-put-3.ensures
    (follows c.put-3.new.out c.put-4.new.out c.put_word-2.new.out (key k.Dot ∷ []) (name (outcome_name c.args.hit) ∷ []) c.in_ok-put-4.ensures
    (rw c.outcome_text.ensures at c.in_ok-put_word-2.ensures))))))

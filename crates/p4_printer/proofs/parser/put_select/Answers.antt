use Rattle.lex_words.specs.declared.key.Key.TheVariants as k
use Rattle.lex_words.specs.Seen.{key}
use Rattle.std.proofs.Common.{append_assoc, ◌++◌, ◌∷◌, [], map, ap, ◌∙◌}
use Rattle.p4_tree.specs.View.{expr_of, case_of}
use Rattle.p4_printer.specs.Layout.{written, in_row, bracketed}
use Rattle.p4_printer.specs.Expressions.{lexemes_of_exprs}
use Rattle.p4_printer.specs.Programs.{lexemes_of_case}
use Rattle.p4_printer.proofs.Texts.{follows}
use Rattle.p4_printer.proofs.parser.put_select.Goals as goal

pub returns : goal.returns
returns c =
    follows c.args.out.now c.put_values.new.out c.put-2.new.out (key k.Transition ∷ key k.Select ∷ bracketed (lexemes_of_exprs (map expr_of c.args.list.now))) ((key k.BraceOpen ∷ []) ++ ((in_row (map lexemes_of_case (map case_of c.args.cases.now))) ++ (key k.BraceClose ∷ []))) c.in_ok-put_values.ensures
    (follows c.put_values.new.out c.put.new.out c.put-2.new.out (key k.BraceOpen ∷ []) ((in_row (map lexemes_of_case (map case_of c.args.cases.now))) ++ (key k.BraceClose ∷ [])) c.in_ok-put.ensures
    (follows c.put.new.out c.put_cases.new.out c.put-2.new.out (in_row (map lexemes_of_case (map case_of c.args.cases.now))) (key k.BraceClose ∷ []) c.in_ok-put_cases.ensures
    c.in_ok-put-2.ensures))
    ∙ ap (λ z. written c.args.out.now (key k.Transition ∷ key k.Select ∷ key k.Open ∷ z)) (append_assoc (lexemes_of_exprs (map expr_of c.args.list.now)) (key k.Close ∷ []) (key k.BraceOpen ∷ (in_row (map lexemes_of_case (map case_of c.args.cases.now)) ++ key k.BraceClose ∷ [])))

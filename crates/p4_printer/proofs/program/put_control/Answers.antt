use Rattle.lex_words.specs.declared.key.Key.TheVariants as k
use Rattle.lex_words.specs.Seen.{name, key}
use Rattle.std.proofs.Common.{◌++◌, ◌∷◌, [], map}
use Rattle.p4_tree.specs.View.{stmts_of, local_of}
use Rattle.p4_printer.specs.Programs.{lexemes_of_params, lexemes_of_inside}
use Rattle.p4_printer.proofs.Texts.{follows}
use Rattle.p4_printer.proofs.program.put_control.Goals as goal

pub returns : goal.returns
returns c =
    follows c.args.out.now c.put.new.out c.put_inside.new.out (key k.Control ∷ []) ((name c.args.control.now.name ∷ []) ++ ((key k.Open ∷ []) ++ ((lexemes_of_params c.args.control.now.params.items) ++ ((key k.Close ∷ []) ++ ((key k.BraceOpen ∷ []) ++ (lexemes_of_inside (map local_of c.args.control.now.locals.items) (stmts_of c.args.control.now.apply.items))))))) c.in_ok-put.ensures
    (follows c.put.new.out c.put_name.new.out c.put_inside.new.out (name c.args.control.now.name ∷ []) ((key k.Open ∷ []) ++ ((lexemes_of_params c.args.control.now.params.items) ++ ((key k.Close ∷ []) ++ ((key k.BraceOpen ∷ []) ++ (lexemes_of_inside (map local_of c.args.control.now.locals.items) (stmts_of c.args.control.now.apply.items)))))) c.in_ok-put_name.ensures
    (follows c.put_name.new.out c.put-2.new.out c.put_inside.new.out (key k.Open ∷ []) ((lexemes_of_params c.args.control.now.params.items) ++ ((key k.Close ∷ []) ++ ((key k.BraceOpen ∷ []) ++ (lexemes_of_inside (map local_of c.args.control.now.locals.items) (stmts_of c.args.control.now.apply.items))))) c.in_ok-put-2.ensures
    (follows c.put-2.new.out c.put_params.new.out c.put_inside.new.out (lexemes_of_params c.args.control.now.params.items) ((key k.Close ∷ []) ++ ((key k.BraceOpen ∷ []) ++ (lexemes_of_inside (map local_of c.args.control.now.locals.items) (stmts_of c.args.control.now.apply.items)))) (rw c.deref.ensures.value at c.in_ok-put_params.ensures)
    (follows c.put_params.new.out c.put-3.new.out c.put_inside.new.out (key k.Close ∷ []) ((key k.BraceOpen ∷ []) ++ (lexemes_of_inside (map local_of c.args.control.now.locals.items) (stmts_of c.args.control.now.apply.items))) c.in_ok-put-3.ensures
    (follows c.put-3.new.out c.put-4.new.out c.put_inside.new.out (key k.BraceOpen ∷ []) (lexemes_of_inside (map local_of c.args.control.now.locals.items) (stmts_of c.args.control.now.apply.items)) c.in_ok-put-4.ensures
    c.in_ok-put_inside.ensures)))))

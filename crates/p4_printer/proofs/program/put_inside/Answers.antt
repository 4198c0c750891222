use Rattle.lex_words.specs.declared.key.Key.TheVariants as k
use Rattle.lex_words.specs.Seen.{name, key}
use Rattle.std.proofs.Common.{◌++◌, ◌∷◌, [], map}
use Rattle.p4_spelling.specs.Words.{apply_name}
use Rattle.p4_tree.specs.View.{stmts_of, local_of}
use Rattle.p4_printer.specs.Layout.{in_row, braced}
use Rattle.p4_printer.specs.Statements.{lexemes_of_stmts}
use Rattle.p4_printer.specs.Programs.{lexemes_of_local}
use Rattle.p4_printer.proofs.Texts.{follows}
use Rattle.p4_printer.proofs.program.put_inside.Goals as goal

pub returns : goal.returns
returns c =
    follows c.args.out.now c.put_locals.new.out c.put.new.out (in_row (map lexemes_of_local (map local_of c.args.control.now.locals.items))) ((name apply_name ∷ []) ++ ((braced (lexemes_of_stmts (stmts_of c.args.control.now.apply.items))) ++ (key k.BraceClose ∷ []))) (rw c.deref.ensures.value at c.in_ok-put_locals.ensures)
    (follows c.put_locals.new.out c.put_word.new.out c.put.new.out (name apply_name ∷ []) ((braced (lexemes_of_stmts (stmts_of c.args.control.now.apply.items))) ++ (key k.BraceClose ∷ [])) c.in_ok-put_word.ensures
    (follows c.put_word.new.out c.put_block.new.out c.put.new.out (braced (lexemes_of_stmts (stmts_of c.args.control.now.apply.items))) (key k.BraceClose ∷ []) (rw c.deref-2.ensures.value at c.in_ok-put_block.ensures)
    c.in_ok-put.ensures))

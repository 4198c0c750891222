use Rattle.lex_words.specs.declared.key.Key.TheVariants as k
use Rattle.lex_words.specs.Seen.{name, key}
use Rattle.std.proofs.Common.{◌++◌, ◌∷◌, []}
use Rattle.p4_tree.specs.View.{stmts_of, transition_of}
use Rattle.p4_printer.specs.Statements.{lexemes_of_stmts}
use Rattle.p4_printer.specs.Programs.{lexemes_of_transition}
use Rattle.p4_printer.proofs.Texts.{follows}
use Rattle.p4_printer.proofs.parser.put_state.Goals as goal

pub returns : goal.returns
returns c =
    follows c.args.out.now c.put.new.out c.put-3.new.out (key k.State ∷ []) ((name c.args.state.now.name ∷ []) ++ ((key k.BraceOpen ∷ []) ++ ((lexemes_of_stmts (stmts_of c.args.state.now.body.items)) ++ ((lexemes_of_transition (transition_of c.args.state.now.next)) ++ (key k.BraceClose ∷ []))))) c.in_ok-put.ensures
    (follows c.put.new.out c.put_name.new.out c.put-3.new.out (name c.args.state.now.name ∷ []) ((key k.BraceOpen ∷ []) ++ ((lexemes_of_stmts (stmts_of c.args.state.now.body.items)) ++ ((lexemes_of_transition (transition_of c.args.state.now.next)) ++ (key k.BraceClose ∷ [])))) c.in_ok-put_name.ensures
    (follows c.put_name.new.out c.put-2.new.out c.put-3.new.out (key k.BraceOpen ∷ []) ((lexemes_of_stmts (stmts_of c.args.state.now.body.items)) ++ ((lexemes_of_transition (transition_of c.args.state.now.next)) ++ (key k.BraceClose ∷ []))) c.in_ok-put-2.ensures
    (follows c.put-2.new.out c.put_stmts.new.out c.put-3.new.out (lexemes_of_stmts (stmts_of c.args.state.now.body.items)) ((lexemes_of_transition (transition_of c.args.state.now.next)) ++ (key k.BraceClose ∷ [])) (rw c.deref.ensures.value at c.in_ok-put_stmts.ensures)
    (follows c.put_stmts.new.out c.put_transition.new.out c.put-3.new.out (lexemes_of_transition (transition_of c.args.state.now.next)) (key k.BraceClose ∷ []) c.in_ok-put_transition.ensures
    c.in_ok-put-3.ensures))))

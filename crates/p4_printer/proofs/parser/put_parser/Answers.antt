use Rattle.lex_words.specs.declared.key.Key.TheVariants as k
use Rattle.lex_words.specs.Seen.{name, key}
use Rattle.std.proofs.Common.{◌++◌, ◌∷◌, [], map}
use Rattle.p4_tree.specs.View.{state_of}
use Rattle.p4_printer.specs.Layout.{in_row}
use Rattle.p4_printer.specs.Programs.{lexemes_of_params, lexemes_of_state}
use Rattle.p4_printer.proofs.Texts.{follows}
use Rattle.p4_printer.proofs.parser.put_parser.Goals as goal

pub returns : goal.returns
returns c =
    follows c.args.out.now c.put.new.out c.put-5.new.out (key k.Parser ∷ []) ((name c.args.parser.now.name ∷ []) ++ ((key k.Open ∷ []) ++ ((lexemes_of_params c.args.parser.now.params.items) ++ ((key k.Close ∷ []) ++ ((key k.BraceOpen ∷ []) ++ ((in_row (map lexemes_of_state (map state_of c.args.parser.now.states.items))) ++ (key k.BraceClose ∷ []))))))) c.in_ok-put.ensures
    (follows c.put.new.out c.put_name.new.out c.put-5.new.out (name c.args.parser.now.name ∷ []) ((key k.Open ∷ []) ++ ((lexemes_of_params c.args.parser.now.params.items) ++ ((key k.Close ∷ []) ++ ((key k.BraceOpen ∷ []) ++ ((in_row (map lexemes_of_state (map state_of c.args.parser.now.states.items))) ++ (key k.BraceClose ∷ [])))))) c.in_ok-put_name.ensures
    (follows c.put_name.new.out c.put-2.new.out c.put-5.new.out (key k.Open ∷ []) ((lexemes_of_params c.args.parser.now.params.items) ++ ((key k.Close ∷ []) ++ ((key k.BraceOpen ∷ []) ++ ((in_row (map lexemes_of_state (map state_of c.args.parser.now.states.items))) ++ (key k.BraceClose ∷ []))))) c.in_ok-put-2.ensures
    (follows c.put-2.new.out c.put_params.new.out c.put-5.new.out (lexemes_of_params c.args.parser.now.params.items) ((key k.Close ∷ []) ++ ((key k.BraceOpen ∷ []) ++ ((in_row (map lexemes_of_state (map state_of c.args.parser.now.states.items))) ++ (key k.BraceClose ∷ [])))) (rw c.deref.ensures.value at c.in_ok-put_params.ensures)
    (follows c.put_params.new.out c.put-3.new.out c.put-5.new.out (key k.Close ∷ []) ((key k.BraceOpen ∷ []) ++ ((in_row (map lexemes_of_state (map state_of c.args.parser.now.states.items))) ++ (key k.BraceClose ∷ []))) c.in_ok-put-3.ensures
    (follows c.put-3.new.out c.put-4.new.out c.put-5.new.out (key k.BraceOpen ∷ []) ((in_row (map lexemes_of_state (map state_of c.args.parser.now.states.items))) ++ (key k.BraceClose ∷ [])) c.in_ok-put-4.ensures
    (follows c.put-4.new.out c.put_states.new.out c.put-5.new.out (in_row (map lexemes_of_state (map state_of c.args.parser.now.states.items))) (key k.BraceClose ∷ []) (rw c.deref-2.ensures.value at c.in_ok-put_states.ensures)
    c.in_ok-put-5.ensures))))))

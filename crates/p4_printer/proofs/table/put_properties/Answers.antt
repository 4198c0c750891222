use Rattle.lex_words.specs.declared.key.Key.TheVariants as k
use Rattle.lex_words.specs.Seen.{name, key}
use Rattle.p4_spelling.specs.Words.{key_name, actions_name}
use Rattle.std.specs.Option.{option_map}
use Rattle.std.proofs.Common.{◌++◌, ◌∷◌, map}
use Rattle.p4_tree.specs.View.{key_of, default_of}
use Rattle.p4_printer.specs.Layout.{in_row, braced}
use Rattle.p4_printer.specs.Programs.{lexemes_of_key, lexemes_of_listed, lexemes_of_size, lexemes_of_default}
use Rattle.p4_printer.proofs.Texts.{follows}
use Rattle.p4_printer.proofs.table.put_properties.Goals as goal

pub returns : goal.returns
returns c =
    follows c.args.out.now c.put_keys.new.out c.put_default.new.out (name key_name ∷ key k.Assign ∷ braced (in_row (map lexemes_of_key (map key_of c.args.table.now.keys.items)))) ((name actions_name ∷ key k.Assign ∷ braced (in_row (map lexemes_of_listed c.args.table.now.actions.items))) ++ ((lexemes_of_size c.args.table.now.size) ++ (lexemes_of_default c.args.table.now.fixed (option_map default_of c.args.table.now.default)))) (rw c.deref.ensures.value at c.in_ok-put_keys.ensures)
    (follows c.put_keys.new.out c.put_actions.new.out c.put_default.new.out (name actions_name ∷ key k.Assign ∷ braced (in_row (map lexemes_of_listed c.args.table.now.actions.items))) ((lexemes_of_size c.args.table.now.size) ++ (lexemes_of_default c.args.table.now.fixed (option_map default_of c.args.table.now.default))) (rw c.deref-2.ensures.value at c.in_ok-put_actions.ensures)
    (follows c.put_actions.new.out c.put_size.new.out c.put_default.new.out (lexemes_of_size c.args.table.now.size) (lexemes_of_default c.args.table.now.fixed (option_map default_of c.args.table.now.default)) c.in_ok-put_size.ensures
    c.in_ok-put_default.ensures))

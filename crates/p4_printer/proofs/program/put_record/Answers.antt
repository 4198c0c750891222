use Rattle.lex_words.specs.declared.key.Key.TheVariants as k
use Rattle.lex_words.specs.Seen.{name, key}
use Rattle.std.proofs.Common.{◌++◌, ◌∷◌, [], map}
use Rattle.p4_printer.specs.Layout.{in_row}
use Rattle.p4_printer.specs.Programs.{lexemes_of_field}
use Rattle.p4_printer.proofs.Texts.{follows}
use Rattle.p4_printer.proofs.program.put_record.Goals as goal

pub returns : goal.returns
returns c =
    follows c.args.out.now c.put.new.out c.put-3.new.out (key c.args.kind ∷ []) ((name c.args.name.now ∷ []) ++ ((key k.BraceOpen ∷ []) ++ ((in_row (map lexemes_of_field c.args.fields.now)) ++ (key k.BraceClose ∷ [])))) c.in_ok-put.ensures
    (follows c.put.new.out c.put_name.new.out c.put-3.new.out (name c.args.name.now ∷ []) ((key k.BraceOpen ∷ []) ++ ((in_row (map lexemes_of_field c.args.fields.now)) ++ (key k.BraceClose ∷ []))) c.in_ok-put_name.ensures
    (follows c.put_name.new.out c.put-2.new.out c.put-3.new.out (key k.BraceOpen ∷ []) ((in_row (map lexemes_of_field c.args.fields.now)) ++ (key k.BraceClose ∷ [])) c.in_ok-put-2.ensures
    (follows c.put-2.new.out c.put_fields.new.out c.put-3.new.out (in_row (map lexemes_of_field c.args.fields.now)) (key k.BraceClose ∷ []) c.in_ok-put_fields.ensures
    c.in_ok-put-3.ensures)))

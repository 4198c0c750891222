-- What a text declares is plain.
use Rattle.std.proofs.Common.{◌≡◌, ◌≤◌, true, List, ◌++◌, length, length-append, arith}
use Rattle.std.specs.List.{AllByRecursion, list_all}
use Rattle.std.proofs.lemmas.List.{length-map}
use Rattle.lex_text.specs.NameToken.{is_name_byte}
use Rattle.lex_text.specs.declared.token.Words.TheVariants.{Indus}
use Rattle.lex_text.proofs.Lying.{few_tokens}
use Rattle.lex_words.specs.Seen.{Lexeme, lexeme_of}
use Rattle.lex_words.specs.Written.{AreLexemes}
use Rattle.lex_words.proofs.FairLexemes.{tokens_are_lexemes}
use Rattle.indus_tree.specs.Tree.{Property}
use Rattle.indus_spelling.specs.Properties.{SpellsProperty, a_property}
use Rattle.flat_laws.specs.Numbered.{ArePlain}
use Rattle.plain_texts.specs.Texts.{TextsArePlain, TextsDeclareWords}
use Rattle.plain_texts.proofs.Names.{both, decls_plain, decls_words, decls_few}

property_plain : {p : Property} {ws : List Lexeme} → SpellsProperty p ws → AreLexemes Indus ws → ArePlain p.decls
property_plain (a_property {r = r} {s = s} {u = u} {v = v} {w = w} e ds a b c) h =
    decls_plain ds (both s (u ++ (v ++ w)) (both r (s ++ (u ++ (v ++ w))) h).1).0

property_words : {p : Property} {ws : List Lexeme} → SpellsProperty p ws → AreLexemes Indus ws → AllByRecursion (λ d. list_all is_name_byte d.name ≡ true) p.decls
property_words (a_property {r = r} {s = s} {u = u} {v = v} {w = w} e ds a b c) h =
    decls_words ds (both s (u ++ (v ++ w)) (both r (s ++ (u ++ (v ++ w))) h).1).0

property_few : {p : Property} {ws : List Lexeme} → SpellsProperty p ws → length p.decls ≤ length ws
property_few (a_property {r = r} {s = s} {u = u} {v = v} {w = w} e ds a b c) =
    let few = decls_few ds in
    let l = length-append r (s ++ (u ++ (v ++ w))) in
    let m = length-append s (u ++ (v ++ w)) in
    omega (arith, few, l, m)

pub texts_are_plain : TextsArePlain
texts_are_plain text p short spelled typed =
    let few = few_tokens Indus text spelled.list spelled.tokens in
    let same = length-map spelled.list (lexeme_of Indus text) in
    let own = property_few spelled.holds.spells in
    record {
      typed = typed;
      plain = property_plain spelled.holds.spells (tokens_are_lexemes Indus text spelled.list spelled.tokens);
      few = omega (arith, short, few, same, own);
    }

pub texts_declare_words : TextsDeclareWords
texts_declare_words text p spelled = property_words spelled.holds.spells (tokens_are_lexemes Indus text spelled.list spelled.tokens)

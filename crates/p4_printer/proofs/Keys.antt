-- The words of a case's keys.
use Rattle.lex_words.specs.declared.key.Key.TheVariants as k
use Rattle.lex_words.specs.Seen.{key}
use Rattle.std.proofs.Common.{◌≡◌, ◌≢◌, List, [], ◌∷◌, length, map, refl, sym, arith}
use Rattle.std.proofs.lemmas.List.{append-nil}
use Rattle.p4_tree.specs.declared.program.Keyset.{Keyset}
use Rattle.p4_tree.specs.View.{keyset_of}
use Rattle.p4_printer.specs.Layout.{separated, bracketed}
use Rattle.p4_printer.specs.Programs.{lexemes_of_keyset, lexemes_of_keys}

-- one key
pub keys_one : (ks : List Keyset) → length ks ≡ 1 → lexemes_of_keys (map keyset_of ks) ≡ separated (key k.Comma) (map lexemes_of_keyset (map keyset_of ks))
keys_one [] is = absurd (omega arith)
keys_one (k ∷ []) is = sym (append-nil (lexemes_of_keyset (keyset_of k)))
keys_one (k ∷ l ∷ ks) is = absurd (omega arith)

-- another number of keys
pub keys_many : (ks : List Keyset) → length ks ≢ 1 → lexemes_of_keys (map keyset_of ks) ≡ bracketed (separated (key k.Comma) (map lexemes_of_keyset (map keyset_of ks)))
keys_many [] is = refl
keys_many (k ∷ []) is = absurd (is refl)
keys_many (k ∷ l ∷ ks) is = refl

pub ruleset keys = (keys_one, keys_many)

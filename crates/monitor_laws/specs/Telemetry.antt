-- Words in fields and variables, and the bytes of the telemetry.
use Rattle.std.specs.Prelude.{◌≡◌, ℕ, ◌<◌, ◌^◌, List, [], ◌∷◌, ◌++◌, map, false}
use Rattle.std.specs.List.{AllByRecursion}
use Rattle.bit_values.specs.Bits.{Word, word}
use Rattle.bit_values.specs.Widths.{sound_width}
use Rattle.bit_writer.specs.Bytes.{words_bits, bytes_of}
use Rattle.lex_text.specs.Names.{same_text}
use Rattle.p4_meaning.specs.Store.{Store}
use Rattle.p4_meaning.specs.Parsing.{Field}
use Rattle.monitor_laws.specs.Names.{mark_name}

-- the telemetry's first byte is its mark
abbrev pub mark_field : Field
mark_field = record { name = mark_name; width = 8 }

abbrev pub mark_word : (mark : ℕ) → Word
mark_word n = word 8 n

-- the bytes that stand before a frame on a link, where the telemetry has these words behind the mark
abbrev pub tele_bytes : (mark : ℕ) → List Word → List ℕ
tele_bytes n ws = bytes_of (words_bits (mark_word n ∷ ws))

-- the words have the widths of the fields
abbrev pub AreFor : List Field → List Word → Type 0
AreFor [] [] = Unit {0}
AreFor [] (w ∷ ws) = ⊥
AreFor (f ∷ fs) [] = ⊥
AreFor (f ∷ fs) (w ∷ ws) = (w.width ≡ f.width) × (w.value < 2 ^ w.width) × AreFor fs ws

-- the words stand in the fields below a path
abbrev pub HasWords : List (List ℕ) → List Field → List Word → Store → Type 0
HasWords p [] [] s = Unit {0}
HasWords p [] (w ∷ ws) s = ⊥
HasWords p (f ∷ fs) [] s = ⊥
HasWords p (f ∷ fs) (w ∷ ws) s = (s.values (p ++ f.name ∷ []) ≡ w) × HasWords p fs ws s

-- different fields have different names
abbrev pub AreApart : List Field → Type 0
AreApart [] = Unit {0}
AreApart (f ∷ fs) = AllByRecursion (λ g. same_text f.name g.name ≡ false) fs × AreApart fs

-- the words of fields that are 0
abbrev pub zeros : List Field → List Word
zeros fs = map (λ f. word (sound_width f.width) 0) fs

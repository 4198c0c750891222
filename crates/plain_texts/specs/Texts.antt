-- What a text declares. Read `Faults` of `indus_reader` and `Meaning` of `flat_laws` before it.
use Rattle.std.specs.Prelude.{◌≡◌, ℕ, ◌≤◌, ◌^◌, List, length, true}
use Rattle.std.specs.List.{AllByRecursion, list_all}
use Rattle.lex_text.specs.NameToken.{is_name_byte}
use Rattle.indus_tree.specs.Tree.{Property}
use Rattle.indus_rules.specs.Rules.{IsWellTyped}
use Rattle.indus_reader.specs.Faults.{IsProperty}
use Rattle.flat_laws.specs.Meaning.{IsPlainProperty}

-- a well-typed property that a text spells is one whose flat code is spoken of: a name begins with a letter or `_`, and
-- each declaration has tokens of its own
abbrev pub TextsArePlain : Type 0
TextsArePlain = (text : List ℕ) (p : Property) → length text ≤ 2 ^ 32 → IsProperty text p → IsWellTyped p → IsPlainProperty p

-- and its names are of letters, digits and `_`
abbrev pub TextsDeclareWords : Type 0
TextsDeclareWords = (text : List ℕ) (p : Property) → IsProperty text p → AllByRecursion (λ d. list_all is_name_byte d.name ≡ true) p.decls

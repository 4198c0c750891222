-- What the tables of constants and of typedefs hold. Read `Kept` before it.
use Rattle.std.specs.Prelude.{◌≡◌, ℕ, List, [], ◌∷◌, Option, Some, None, String}
use Rattle.std.specs.declared.alloc.Global.{Global}
use Rattle.bit_values.specs.Bits.{Word, word}
use Rattle.p4_tree.specs.declared.statement.PTy.{PTy}
use Rattle.p4_tree.specs.declared.statement.PTy.TheVariants as type
use Rattle.p4_meaning.specs.Store.{Store}
use Rattle.p4_meaning.specs.Value.{width_of}
use Rattle.p4_meaning.specs.Scope.{Scope, constant_named, type_named, constant_or}
use Rattle.p4_types.specs.Kept.{at_name}
use Rattle.p4_types.specs.declared.constants.Constants.{Constants}
use Rattle.p4_types.specs.declared.constants.Known.{Known}

-- the word of a path of one name that is a constant, and else one bit that is 0
abbrev pub word_at : List (String Global × Word) → List (List ℕ) → Word
word_at es [] = word 1 0
word_at es (x ∷ []) = constant_or (at_name es x) (word 1 0)
word_at es (x ∷ y ∷ rest) = word 1 0

abbrev pub constants_store : Constants → Store
constants_store c = record { values = word_at c.words.entries; headers = λ p. None }

abbrev pub or_none : Option ℕ → ℕ
or_none None = 0
or_none (Some n) = n

-- the bits of a type's values
abbrev pub width_in : List (String Global × ℕ) → PTy → ℕ
width_in es (type.Named x) = or_none (at_name es x)
width_in es (type.Bit w) = width_of (type.Bit w)
width_in es type.Bool = width_of type.Bool

-- what is known at a place of the program where this is in scope
pub record IsBehind (k : Known) (sc : Scope) : Type 0 where
  pub words : (x : List ℕ) → at_name k.constants.words.entries x ≡ constant_named sc.constants x
  pub widths : (x : List ℕ) → or_none (at_name k.widths.entries x) ≡ width_of (type_named sc.types x)
  pub outside : sc.inner ≡ None

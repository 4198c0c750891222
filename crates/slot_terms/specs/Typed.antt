-- Terms with the widths of their values, and which words they give. Read `Terms` before it and `Places` after it.
use Rattle.std.specs.Prelude.{◌≡◌, ℕ, ◌-◌, ◌/◌, ◌^◌, List, Bool}
use Rattle.bit_values.specs.Bits.{Word, word, IsWord}
use Rattle.slot_terms.specs.Terms.{Term, term_of, eval}
use Rattle.slot_terms.specs.declared.typed.Typed as code_typed

-- a term, and how many bits its value has
pub record Typed : Type 0 where
  pub term : Term
  pub width : ℕ

-- the same as the code has it
abbrev pub typed_of : code_typed.Typed → Typed
typed_of t = record { term = term_of t.term; width = t.width }

-- as many ones as a width, which is 1 to 128
abbrev pub mask_of : ℕ → ℕ
mask_of w = (2 ^ 128 - 1) / 2 ^ (128 - w)

-- where slots hold these numbers and these headers are valid, the term gives the word, which is in range
pub record Gives (t : Typed) (slots : List ℕ) (headers : List Bool) (x : Word) : Type 0 where
  pub is : x ≡ word t.width (eval slots headers t.term)
  pub word : IsWord x

-- the term gives the word whatever the slots hold, where that is a word
abbrev pub IsConstant : Typed → Word → Type 0
IsConstant t x = (slots : List ℕ) (headers : List Bool) → IsWord x → Gives t slots headers x

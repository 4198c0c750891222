-- What tables are asked, and what they choose. Read `Runs` before it.
use Rattle.std.specs.Prelude.{ℕ, List, [], ◌∷◌, Bool}
use Rattle.bit_values.specs.Bits.{Word, word}
use Rattle.bit_values.specs.Widths.{sound_width, cast_word}
use Rattle.p4_meaning.specs.Tables.{Key}
use Rattle.slot_terms.specs.Terms.{eval}
use Rattle.slot_terms.specs.Typed.{Typed}
use Rattle.slot_terms.specs.Places.{Places, Means}
use Rattle.slot_terms.specs.States.{State}
use Rattle.slot_statements.specs.declared.tables.NumberedOutcome as code_outcome

-- what a table chooses: the number of the action that runs, the words for its parameters, and whether an entry fits
pub record NumberedOutcome : Type 0 where
  pub action : ℕ
  pub args : List Word
  pub hit : Bool

-- the same as the code has it
abbrev pub numbered_of : code_outcome.NumberedOutcome → NumberedOutcome
numbered_of p = record { action = p.action; args = p.args.now; hit = p.hit }

-- terms mean the keys of a table, one by one
abbrev pub MeanKeys : Places → List Key → List Typed → Type 0
MeanKeys m [] [] = Unit {0}
MeanKeys m [] (t ∷ ts) = ⊥
MeanKeys m (k ∷ ks) [] = ⊥
MeanKeys m (k ∷ ks) (t ∷ ts) = Means m k.value 0 t × MeanKeys m ks ts

-- the word that a key has; the cut changes nothing where the slots show a store
abbrev pub key_word : State → Typed → Word
key_word s t = cast_word (sound_width t.width) (word 128 (eval s.slots s.valid t.term))

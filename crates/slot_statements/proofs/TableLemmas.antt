-- The keys of a table.
use Rattle.std.proofs.Common.{◌≡◌, ℕ, List, [], ◌∷◌, ◌++◌, map, refl, sym, ap, ap₂, ◌∙◌, subst}
use Rattle.bit_values.specs.Bits.{word, IsWord}
use Rattle.bit_values.specs.Widths.{cast_word}
use Rattle.bit_values.proofs.BitsLemmas.{cast_of_small}
use Rattle.p4_meaning.specs.Statements.{Run}
use Rattle.p4_meaning.specs.Value.{value_of}
use Rattle.p4_meaning.specs.Tables.{Key, key_words}
use Rattle.slot_terms.specs.Terms.{eval}
use Rattle.slot_terms.specs.Typed.{Typed, Gives}
use Rattle.slot_terms.specs.Places.{Places, Means, Follows}
use Rattle.slot_terms.specs.States.{State}
use Rattle.slot_statements.specs.Tables.{MeanKeys, key_word}
use Rattle.slot_statements.proofs.StoreLemmas.{sound_is}

-- a key's word is the value
key_is : (m : Places) (k : Key) (t : Typed) (s : State) (r : Run) → Means m k.value 0 t → Follows m s.slots s.valid r.store → key_word s t ≡ value_of k.value 0 r.store
key_is m k t s r means follows =
    let gives : Gives t s.slots s.valid (value_of k.value 0 r.store) = means s.slots s.valid r.store follows.shows in
    let n : ℕ = eval s.slots s.valid t.term in
    let is : IsWord (word t.width n) = subst IsWord gives.is gives.word in
    ap (λ w. cast_word w (word 128 n)) (sound_is t.width is.wide is.narrow) ∙ ap (word t.width) (cast_of_small t.width n is.in_range) ∙ sym gives.is

pub keys_are : (m : Places) (ks : List Key) (ts : List Typed) (s : State) (r : Run) → MeanKeys m ks ts → Follows m s.slots s.valid r.store → map (key_word s) ts ≡ key_words ks r.store
keys_are m [] [] s r mean follows = refl
keys_are m [] (t ∷ ts) s r mean follows = absurd mean
keys_are m (k ∷ ks) [] s r mean follows = absurd mean
keys_are m (k ∷ ks) (t ∷ ts) s r mean follows = ap₂ (λ a b. a ∷ b) (key_is m k t s r mean.0 follows) (keys_are m ks ts s r mean.1 follows)

-- one key more
pub keys_more : (m : Places) (ks : List Key) (ts : List Typed) (k : Key) (t : Typed) → MeanKeys m ks ts → Means m k.value 0 t → MeanKeys m (ks ++ k ∷ []) (ts ++ t ∷ [])
keys_more m [] [] k t all one = (one, tt)
keys_more m [] (u ∷ ts) k t all one = absurd all
keys_more m (j ∷ ks) [] k t all one = absurd all
keys_more m (j ∷ ks) (u ∷ ts) k t all one = (all.0, keys_more m ks ts k t all.1 one)

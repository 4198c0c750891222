-- An action on any words.
use Rattle.std.proofs.Common.{◌≡◌, ℕ, ◌%◌, ◌^◌, List, [], ◌∷◌, refl, sym, subst, bit_and}
use Rattle.std.specs.Prelude.{slice_set}
use Rattle.bit_values.specs.Bits.{Word, word, IsWord}
use Rattle.bit_values.specs.Widths.{sound_width, cast_word}
use Rattle.p4_meaning.specs.Store.{Store, set_value}
use Rattle.p4_meaning.specs.Actions.{Param, bound}
use Rattle.slot_terms.specs.Typed.{mask_of}
use Rattle.slot_terms.specs.Places.{Places, Follows, IsLaid}
use Rattle.slot_terms.proofs.MaskedLemmas.{masked, cut_word}
use Rattle.std.proofs.lemmas.Nat.{pow_pos}
use Rattle.slot_terms.proofs.PlaceLemmas.{sound_wide, sound_narrow}
use Rattle.slot_terms.specs.States.{State}
use Rattle.slot_statements.specs.Codes.{put}
use Rattle.slot_statements.specs.Starts.{IsNew}
use Rattle.slot_statements.specs.Parameters.{with_row, with_params}
use Rattle.slot_statements.proofs.KnownLemmas.{AreFree}
use Rattle.slot_statements.specs.Actions.{bind_words}
use Rattle.slot_statements.specs.Parameters.{masked_from}
use Rattle.slot_statements.proofs.VarLemmas.{new_laid, var_grown}
use Rattle.slot_statements.proofs.CallLemmas.{row_new}

-- a parameter gets a number of its width
one_bound :
    (m : Places) (p : Param) (s : State) (now : Store) (v : ℕ) → IsLaid m → IsNew m (with_row m p.name (sound_width p.width)) p.name (sound_width p.width) m.next → Follows m s.slots s.valid now → IsWord (word (sound_width p.width) v)
    → Follows (with_row m p.name (sound_width p.width)) (slice_set s.slots m.next v) s.valid (set_value now (p.name ∷ []) (word (sound_width p.width) v))
one_bound m p s now v laid new follows word_is = var_grown m (with_row m p.name (sound_width p.width)) p.name (sound_width p.width) m.next laid new s.slots s.valid now v follows word_is

pub words_follow :
    (m : Places) (ps : List Param) (ws : List Word) (s : State) (now : Store) → IsLaid m → AreFree m ps → Follows m s.slots s.valid now
    → Follows (with_params m ps) (bind_words (masked_from m.next ps) ws s).slots (bind_words (masked_from m.next ps) ws s).valid (bound ps ws now)
words_follow m [] ws s now laid free follows = follows
words_follow m (p ∷ ps) [] s now laid free follows =
    let w : ℕ = sound_width p.width in
    let new : IsNew m (with_row m p.name w) p.name w m.next = row_new m p.name w free.0 in
    let zero_is : IsWord (word w 0) = record { wide = sound_wide p.width; narrow = sound_narrow p.width; in_range = pow_pos w } in
    words_follow (with_row m p.name w) ps [] (put s m.next 0) (set_value now (p.name ∷ []) (word w 0)) (new_laid m (with_row m p.name w) p.name w m.next laid new) free.1
    (one_bound m p s now 0 laid new follows zero_is)
words_follow m (p ∷ ps) (x ∷ ws) s now laid free follows =
    let w : ℕ = sound_width p.width in
    let new : IsNew m (with_row m p.name w) p.name w m.next = row_new m p.name w free.0 in
    let cut : bit_and x.value (mask_of w) ≡ x.value % 2 ^ w = masked w x.value (mask_of w) refl (sound_narrow p.width) in
    let word_is : IsWord (word w (x.value % 2 ^ w)) = cut_word w x.value (sound_wide p.width) (sound_narrow p.width) in
    words_follow (with_row m p.name w) ps ws (put s m.next (bit_and x.value (mask_of w))) (set_value now (p.name ∷ []) (cast_word w x)) (new_laid m (with_row m p.name w) p.name w m.next laid new) free.1
    (subst (λ v. Follows (with_row m p.name w) (slice_set s.slots m.next v) s.valid (set_value now (p.name ∷ []) (cast_word w x))) (sym cut)
    (one_bound m p s now (x.value % 2 ^ w) laid new follows word_is))

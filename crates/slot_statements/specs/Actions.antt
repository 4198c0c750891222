-- What the parameters of an action get: the arguments of a call, and words, as tables give them. Read `Codes` before it and
-- `Parameters` after it.
use Rattle.std.specs.Prelude.{ℕ, List, [], ◌∷◌, bit_and}
use Rattle.bit_values.specs.Bits.{Word}
use Rattle.slot_terms.specs.Terms.{Term, eval}
use Rattle.slot_terms.specs.States.{State}
use Rattle.slot_statements.specs.Codes.{put}

-- slots get the values of terms, one after the other
abbrev pub bind : List ℕ → List Term → State → State
bind [] ts s = s
bind (i ∷ is) [] s = s
bind (i ∷ is) (t ∷ ts) s = bind is ts (put s i (eval s.slots s.valid t))

-- slots get words, each cut by its mask; where a word is wanting, 0
abbrev pub bind_words : List (ℕ × ℕ) → List Word → State → State
bind_words [] ws s = s
bind_words (p ∷ ps) [] s = bind_words ps [] (put s p.0 0)
bind_words (p ∷ ps) (w ∷ ws) s = bind_words ps ws (put s p.0 (bit_and w.value p.1))

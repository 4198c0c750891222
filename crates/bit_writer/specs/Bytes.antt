-- The bits of words, and the bytes of bits.
use Rattle.std.specs.Prelude.{ℕ, List, [], ◌∷◌, ◌++◌}
use Rattle.bit_values.specs.Bits.{Word}
use Rattle.bit_values.specs.BitLists.{number_bits, number_of}

-- the bits of words, in order
abbrev pub words_bits : List Word → List ℕ
words_bits [] = []
words_bits (w ∷ ws) = number_bits w.width w.value ++ words_bits ws

-- the whole bytes of a list of bits
abbrev pub bytes_of : List ℕ → List ℕ
bytes_of (a ∷ b ∷ c ∷ d ∷ e ∷ f ∷ g ∷ h ∷ rest) = number_of (a ∷ b ∷ c ∷ d ∷ e ∷ f ∷ g ∷ h ∷ []) ∷ bytes_of rest
bytes_of _ = []

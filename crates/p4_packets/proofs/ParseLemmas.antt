-- Steps of the parser on places in a frame.
use Rattle.std.proofs.Common.{◌≡◌, ℕ, suc, ◌+◌, ◌*◌, ◌≤◌, List, [], ◌∷◌, ◌++◌, length, drop, sym, ap, ap₂, ◌∙◌, arith, cond, true, false, nat_lt, length-drop}
use Rattle.std.proofs.lemmas.List.{drop-drop}
use Rattle.bit_values.specs.Bits.{word}
use Rattle.bit_values.specs.Bytes.{bits_of, number_at}
use Rattle.bit_values.proofs.BytesLemmas.{length-bits_of}
use Rattle.p4_tree.specs.Tree.{ParserState}
use Rattle.p4_meaning.specs.Store.{Store, set_value}
use Rattle.p4_meaning.specs.Parsing.{Reading, Field, Header, goes_on, stops, PacketTooShort, field_taken, fields_taken, width_sum, extracted, with_valid, ParserEnd, Turned, ends, leads, on_turned, turns_of}
use Rattle.p4_packets.specs.Places.{IsTurn}

abbrev pub at_place : Store → List ℕ → ℕ → Reading
at_place s frame at = record { store = s; rest = drop at (bits_of frame) }

pub taken : (frame : List ℕ) (at : ℕ) (f : Field) (s t : Store) (p : List (List ℕ)) → t ≡ set_value s (p ++ f.name ∷ []) (word f.width (number_at frame at f.width)) → at_place t frame (at + f.width) ≡ field_taken p f (at_place s frame at)
taken frame at f s t p e =
    ap₂ (λ (u : Store) (l : List ℕ). let r : Reading = record { store = u; rest = l } in r) e (sym (drop-drop f.width at (bits_of frame)))

pub left_over : (s : Store) (frame : List ℕ) (at : ℕ) → at ≤ 8 * length frame → length (at_place s frame at).rest + at ≡ 8 * length frame
left_over s frame at le = omega (arith, length-drop at (bits_of frame), length-bits_of frame)

pub too_short : (h : Header) (s : Reading) → nat_lt (length s.rest) (width_sum h.fields) ≡ true → stops s PacketTooShort ≡ extracted h s
too_short h s e = sym (ap (λ b. cond b (stops s PacketTooShort) (goes_on (with_valid h.path (fields_taken h.path h.fields s)))) e)

pub long_enough : (h : Header) (s : Reading) → nat_lt (length s.rest) (width_sum h.fields) ≡ false → goes_on (with_valid h.path (fields_taken h.path h.fields s)) ≡ extracted h s
long_enough h s e = sym (ap (λ b. cond b (stops s PacketTooShort) (goes_on (with_valid h.path (fields_taken h.path h.fields s)))) e)

-- one state more
pub one_more : (k m : ℕ) (hs : List Header) (sts left : List ParserState) (n n' : List ℕ) (s s' : Reading) (t : Turned) → k ≡ suc m → IsTurn hs sts n s t left → t ≡ leads n' s' → turns_of m hs left n' s' ≡ turns_of k hs sts n s
one_more k m hs sts left n n' s s' t e turn led =
    sym (turn m ∙ ap (λ t. on_turned t (turns_of m hs left)) led) ∙ ap (λ j. turns_of j hs sts n s) (sym e)

-- the last state
pub ends_now : (k m : ℕ) (hs : List Header) (sts left : List ParserState) (n : List ℕ) (s : Reading) (t : Turned) (f : ParserEnd) → k ≡ suc m → IsTurn hs sts n s t left → t ≡ ends f → f ≡ turns_of k hs sts n s
ends_now k m hs sts left n s t f e turn end =
    sym (turn m ∙ ap (λ t. on_turned t (turns_of m hs left)) end) ∙ ap (λ j. turns_of j hs sts n s) (sym e)

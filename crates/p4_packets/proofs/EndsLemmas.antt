-- The parser that is run.
use Rattle.std.proofs.Common.{◌≡◌, ℕ, suc, List, length, ap, ap₂, ◌∙◌}
use Rattle.std.specs.Prelude.{codes}
use Rattle.bit_values.specs.Bytes.{bits_of}
use Rattle.p4_tree.specs.Tree.{ParserState}
use Rattle.p4_meaning.specs.Store.{Store}
use Rattle.p4_meaning.specs.Parsing.{Header, ParserEnd, turns_of}
use Rattle.p4_meaning.specs.Parts.{Parts}
use Rattle.p4_packets.specs.Ends.{parser_ends_from}

-- the parser that was run is that of the parts
pub parsed_end : (p : Parts) (frame : List ℕ) (n : ℕ) (hs : List Header) (sts : List ParserState) (x : List ℕ) (s : Store) (e : ParserEnd) → n ≡ suc (length p.states) → hs ≡ p.headers → sts ≡ p.states → x ≡ codes "start" → e ≡ turns_of n hs sts x (record { store = s; rest = bits_of frame }) → e ≡ parser_ends_from p s frame
parsed_end p frame n hs sts x s e turns headers states start ends =
    ends
    ∙ ap (λ n. turns_of n hs sts x (record { store = s; rest = bits_of frame })) turns
    ∙ ap₂ (λ (hs : List Header) (sts : List ParserState). turns_of (suc (length p.states)) hs sts x (record { store = s; rest = bits_of frame })) headers states
    ∙ ap (λ (x : List ℕ). turns_of (suc (length p.states)) p.headers p.states x (record { store = s; rest = bits_of frame })) start

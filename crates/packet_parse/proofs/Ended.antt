-- How the parser ends, by the parts and the store that code has.
use Rattle.std.proofs.Common.{◌≡◌, ℕ, ◌-◌, ◌*◌, ◌/◌, ◌≤◌, List, length, drop, ap, ap₂, ◌∙◌, arith, length-drop}
use Rattle.bit_values.specs.Bytes.{bits_of}
use Rattle.bit_values.proofs.BytesLemmas.{length-bits_of}
use Rattle.p4_tree.specs.Tree.{Program}
use Rattle.p4_meaning.specs.Store.{Store}
use Rattle.p4_meaning.specs.Scope.{Scope}
use Rattle.p4_meaning.specs.Parts.{Parts, parts_of, parser_in}
use Rattle.p4_packets.specs.Ends.{parser_ends_from}
use Rattle.packet_parse.specs.Stores.{parser_end, parser_scope, store_under}
use Rattle.packet_parse.specs.declared.fields.Fields.{Fields}

pub ended : (p : Program) (f : Fields) (frame : List ℕ) (q : Parts) (s : Store) (sc : Scope) → q ≡ parts_of p → sc ≡ parser_scope (parser_in p) → s ≡ store_under sc f → parser_ends_from q s frame ≡ parser_end p f frame
unfolding parser_end
ended p f frame q s sc parts scope store = ap₂ (λ (r : Parts) (t : Store). parser_ends_from r t frame) parts (store ∙ ap (λ (d : Scope). store_under d f) scope)

pub consumed_is : (frame rest : List ℕ) (at : ℕ) → drop at (bits_of frame) ≡ rest → at ≤ 8 * length frame → at / 8 ≡ (8 * length frame - length rest) / 8
consumed_is frame rest at left within =
    let there : at ≡ 8 * length frame - length rest = omega (arith, ap length left, length-drop at (bits_of frame), length-bits_of frame, within) in
    ap (λ n. n / 8) there

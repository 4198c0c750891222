use Rattle.std.proofs.Common.{ap, ◌∙◌}
use Rattle.bit_values.specs.Bits.{word, cast}
use Rattle.p4_meaning.specs.Standard.{egress_spec, egress_port, packet_length, checksum_error}
use Rattle.p4_meaning.specs.Standard.{parser_error}
use Rattle.p4_meaning.specs.Store.{Store, set_value}
use Rattle.p4_packets.proofs.begin.with_standard.Goals as goal

pub returns : goal.returns
returns c =
    c.in_ok-set_number-6.ensures
    ∙ ap (λ (s : Store). set_value s parser_error (word 2 0)) (c.in_ok-set_number-5.ensures
    ∙ ap (λ (s : Store). set_value s checksum_error (word 1 0)) (c.in_ok-set_number-4.ensures
    ∙ ap (λ (s : Store). set_value s packet_length (word 32 (cast 32 c.args.length))) (c.in_ok-set_number-3.ensures
    ∙ ap (λ (s : Store). set_value s egress_port (word 9 0)) (c.in_ok-set_number-2.ensures
    ∙ ap (λ (s : Store). set_value s egress_spec (word 9 0)) c.in_ok-set_number.ensures))))

use Rattle.std.proofs.Common.{ap, ap₂, ◌∙◌}
use Rattle.bit_values.specs.Bits.{Word}
use Rattle.p4_meaning.specs.Standard.{ingress_port, egress_spec, egress_port, packet_length, checksum_error, parser_error}
use Rattle.p4_meaning.specs.Store.{Store, set_value}
use Rattle.p4_packets.specs.Fields.{store_of}
use Rattle.packet_parse.proofs.stores.put_standard.Goals as goal

pub returns : goal.returns
returns c =
    c.in_ok-set_standard-6.ensures
    ∙ ap₂ (λ (s : Store) (w : Word). set_value s parser_error w) (c.in_ok-set_standard-5.ensures
    ∙ ap₂ (λ (s : Store) (w : Word). set_value s checksum_error w) (c.in_ok-set_standard-4.ensures
    ∙ ap₂ (λ (s : Store) (w : Word). set_value s packet_length w) (c.in_ok-set_standard-3.ensures
    ∙ ap₂ (λ (s : Store) (w : Word). set_value s egress_port w) (c.in_ok-set_standard-2.ensures
    ∙ ap₂ (λ (s : Store) (w : Word). set_value s egress_spec w) (c.in_ok-set_standard.ensures
    ∙ ap (λ (w : Word). set_value (store_of c.args.s.now) ingress_port w) c.cut.ensures)
    c.cut-2.ensures) c.cut-3.ensures) c.cut-4.ensures) c.truth.ensures) c.error_word.ensures

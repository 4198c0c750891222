use Rattle.std.proofs.Common.{ap, ◌∙◌}
use Rattle.bit_values.specs.Bits.{Word, cast}
use Rattle.bit_values.specs.Widths.{holds}
use Rattle.packet_parse.specs.Stores.{error_at}
use Rattle.packet_parse.proofs.Shown.{standard_is}
use Rattle.packet_parse.proofs.stores.shown_standard.Goals as goal

pub returns : goal.returns
returns c =
    standard_is
    (c.port.ensures ∙ ap (λ (w : Word). cast 9 w.value) c.in_ok-ingress.ensures)
    (c.port-2.ensures ∙ ap (λ (w : Word). cast 9 w.value) c.in_ok-spec.ensures)
    (c.port-3.ensures ∙ ap (λ (w : Word). cast 9 w.value) c.in_ok-egress.ensures)
    (c.length_in.ensures ∙ ap (λ (w : Word). cast 32 w.value) c.in_ok-length.ensures)
    (c.holds.ensures ∙ ap holds c.in_ok-checksum.ensures)
    (c.error_at.ensures ∙ ap error_at (c.number.ensures ∙ ap (λ (w : Word). w.value) c.in_ok-error.ensures))

-- The standard metadata, field by field.
use Rattle.std.proofs.Common.{◌≡◌, ℕ, Bool}
use Rattle.p4_packets.specs.declared.parse.ParserError.{ParserError}
use Rattle.packet_parse.specs.declared.fields.StdMeta.{StdMeta}

abbrev pub standard : (ingress spec egress length : ℕ) → (checksum : Bool) → (error : ParserError) → StdMeta
standard i s e l c p = record { ingress_port = i; egress_spec = s; egress_port = e; packet_length = l; checksum_error = c; parser_error = p }

pub standard_is : {i i' s s' e e' l l' : ℕ} {c c' : Bool} {p p' : ParserError} → i ≡ i' → s ≡ s' → e ≡ e' → l ≡ l' → c ≡ c' → p ≡ p' → standard i s e l c p ≡ standard i' s' e' l' c' p'
standard_is a b d f g h = λ x. standard (a x) (b x) (d x) (f x) (g x) (h x)

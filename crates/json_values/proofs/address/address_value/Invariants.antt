-- What is left of the text, behind the bytes before it, is what the text is; so many bytes were read.
use Rattle.std.proofs.Common.{◌≡◌, ◌<◌, ◌^◌, ◌-◌}
use denote.Text.{Utf8}
use denote.Shadow.{shadow}
use Rattle.json_values.specs.Texts.{bytes_from, address_of}
use Rattle.json_values.proofs.address.address_value.Given as goal

abbrev pub invariant-loop-i : goal.invariant-loop-i
invariant-loop-i l = shadow (Utf8 l.rest) × (bytes_from l.form (l.marks - l.i) l.before l.rest ≡ address_of l.form l.text) × (l.before < 256 ^ l.i)

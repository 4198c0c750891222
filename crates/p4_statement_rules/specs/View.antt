-- What calls are for, of the program's values. Read `Forms` before it.
use Rattle.std.specs.Prelude.{Bool}
use Rattle.p4_scopes.specs.Scopes.{Stands}
use Rattle.p4_scopes.specs.Uses.{holds_header, holds_standard, is_algorithm}
use Rattle.p4_statement_rules.specs.Forms.{Form, unknown, ill, drops, digests, sums, extracts, emits, applies, reads_cell, writes_cell, makes_valid, acts}
use Rattle.p4_statement_rules.specs.declared.calls.Wanted.{Wanted}
use Rattle.p4_statement_rules.specs.declared.calls.Wanted.TheVariants as wanted
use Rattle.p4_statement_rules.specs.declared.forms.Form as code
use Rattle.p4_statement_rules.specs.declared.forms.Form.TheVariants as form

abbrev pub form_view : code.Form → Form
form_view form.Unknown = unknown
form_view form.Ill = ill
form_view form.Drops = drops
form_view form.Digests = digests
form_view (form.Sums v) = sums v
form_view form.Extracts = extracts
form_view form.Emits = emits
form_view form.Applies = applies
form_view (form.ReadsCell k) = reads_cell k
form_view (form.WritesCell k) = writes_cell k
form_view form.MakesValid = makes_valid
form_view (form.Acts ks) = acts ks.now

-- to what a path leads that is an argument
abbrev pub fits_of : Wanted → Stands → Bool
fits_of wanted.Header = holds_header
fits_of wanted.Standard = holds_standard
fits_of wanted.Algorithm = is_algorithm

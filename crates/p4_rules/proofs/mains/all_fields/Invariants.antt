use Rattle.std.proofs.Common.{◌≡◌, drop}
use Rattle.p4_scopes.specs.View.{scope_of}
use Rattle.p4_rules.specs.Mains.{all_fields}
use Rattle.p4_rules.specs.Views.{fits_of}
use Rattle.p4_rules.proofs.mains.all_fields.Given as goal

abbrev pub invariant-loop-field : goal.invariant-loop-field
invariant-loop-field l = all_fields (fits_of l.wanted) (scope_of l.scope) (drop l.field-index l.fields) ≡ all_fields (fits_of l.wanted) (scope_of l.scope) l.fields

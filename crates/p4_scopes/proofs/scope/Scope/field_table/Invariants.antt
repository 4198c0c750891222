use Rattle.std.proofs.Common.{take}
use Rattle.p4_scopes.specs.Entries.{IsFieldTable}
use Rattle.p4_scopes.proofs.scope.Scope.field_table.Given as goal

abbrev pub invariant-loop-f : goal.invariant-loop-f
invariant-loop-f l = IsFieldTable l.self (take l.f-index l.fields) l.table.entries

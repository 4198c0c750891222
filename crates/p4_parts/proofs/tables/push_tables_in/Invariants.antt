use Rattle.std.proofs.Common.{◌≡◌, ◌++◌, map, drop}
use Rattle.p4_tree.specs.View.{local_of}
use Rattle.p4_meaning.specs.Tables.{tables_in}
use Rattle.p4_parts.specs.PartsIn.{action_in, table_in}
use Rattle.p4_resolved.specs.Scopes.{at_part}
use Rattle.p4_parts.proofs.tables.push_tables_in.Given as goal

abbrev pub invariant-loop-local : goal.invariant-loop-local
invariant-loop-local l = map table_in l.tables.items ++ tables_in (at_part l.top l.layer) (map action_in l.actions.actions.now) (map local_of (drop l.local-index l.locals)) ≡ map table_in l.initial.tables.items ++ tables_in (at_part l.top l.initial.layer) (map action_in l.actions.actions.now) (map local_of l.locals)

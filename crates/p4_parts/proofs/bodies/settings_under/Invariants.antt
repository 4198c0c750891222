use Rattle.std.proofs.Common.{◌≡◌, ◌++◌, map, drop}
use Rattle.p4_tree.specs.View.{local_of, stmt_of}
use Rattle.p4_meaning.specs.Under.{behind_locals}
use Rattle.p4_parts.specs.Locals.{settings}
use Rattle.p4_resolved.specs.Scopes.{at_part}
use Rattle.p4_parts.proofs.bodies.settings_under.Given as goal

abbrev pub invariant-loop-local : goal.invariant-loop-local
invariant-loop-local l = record {
  settings : map stmt_of l.body.items ++ settings (at_part l.top l.layer) (map local_of (drop l.local-index l.locals)) ≡ settings (at_part l.top l.initial.layer) (map local_of l.locals);
  behind : behind_locals (at_part l.top l.layer) (map local_of (drop l.local-index l.locals)) ≡ behind_locals (at_part l.top l.initial.layer) (map local_of l.locals);
}

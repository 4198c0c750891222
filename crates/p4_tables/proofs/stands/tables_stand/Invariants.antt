use Rattle.std.proofs.Common.{◌≡◌, drop, map}
use Rattle.p4_parts.specs.PartsIn.{action_in, table_in}
use Rattle.p4_tables.specs.StandsTests.{tables_stand}
use Rattle.p4_tables.proofs.stands.tables_stand.Given as goal

abbrev pub invariant-loop-i : goal.invariant-loop-i
invariant-loop-i l =
    tables_stand (map action_in l.from.actions.now) (map action_in l.to.actions.now) (map table_in l.tables) l.others (drop l.i (map table_in l.own_tables)) (drop l.i l.own)
    ≡ tables_stand (map action_in l.from.actions.now) (map action_in l.to.actions.now) (map table_in l.tables) l.others (map table_in l.own_tables) l.own

use Rattle.std.proofs.Common.{sym, subst}
use Rattle.p4_types.specs.Typed.{IsTyped}
use Rattle.p4_types.proofs.typed.TypedProgram.known.Goals as goal

pub invariant_of-result : goal.invariant_of-result
invariant_of-result c =
    subst IsTyped (sym c.in_ok-new.ensures.ok)
    (record {
      typed = c.requires.typed;
      tables = c.in_ok-tables.ensures;
      registers = c.in_ok-registers.ensures;
      actions = c.in_ok-actions.ensures;
      constants = c.in_ok-constants.ensures;
      counts = c.requires.counted;
    })

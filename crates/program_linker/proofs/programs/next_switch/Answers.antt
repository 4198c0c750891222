use Rattle.std.proofs.Common.{sym, subst}
use Rattle.p4_tree.specs.Tree.{Program}
use Rattle.p4_rules.specs.ProgramRules.{IsWellTyped}
use Rattle.program_linker.proofs.programs.next_switch.Goals as goal

pub known-requires-clause-typed : goal.known-requires-clause-typed
known-requires-clause-typed c =
    let P : Program → Type 0 = λ p. IsWellTyped p in subst P (sym c.in_ok-tree.ensures) c.requires.typed

use Rattle.std.proofs.Common.{sym, subst}
use Rattle.p4_tree.specs.Tree.{Program}
use Rattle.p4_rules.specs.ProgramRules.{IsWellTyped}
use Rattle.program_linker.proofs.programs.first_switch.Goals as goal

pub typed-requires : goal.typed-requires
typed-requires c = let P : Program → Type 0 = λ p. IsWellTyped p in subst P (sym c.in_ok-tree.ensures) c.requires

use Rattle.std.proofs.Common.{subst}
use Rattle.p4_tree.specs.View.{program_of}
use Rattle.p4_tree.specs.declared.program.Program.{Program}
use Rattle.p4_rules.specs.ProgramRules.{IsWellTyped}
use Rattle.p4_types.proofs.typed.TypedProgram.program.Goals as goal

pub returns-clause-typed : goal.returns-clause-typed
returns-clause-typed c = let P : Program → Type 0 = λ p. IsWellTyped (program_of p) in subst P c.self.view_is c.self.invariant.typed

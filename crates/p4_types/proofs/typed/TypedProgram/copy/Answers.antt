use Rattle.std.proofs.Common.{sym, subst}
use Rattle.p4_tree.specs.Tree as tree
use Rattle.p4_tree.specs.View.{program_of}
use Rattle.p4_tree.specs.declared.program.Program.{Program}
use Rattle.p4_rules.specs.ProgramRules.{IsWellTyped}
use Rattle.p4_types.specs.Counts.{AreCounts}
use Rattle.p4_types.specs.declared.typed.Tabled.{Tabled}
use Rattle.p4_types.proofs.typed.TypedProgram.copy.Goals as goal

pub known-requires-clause-typed : goal.known-requires-clause-typed
known-requires-clause-typed c =
    let P : tree.Program → Type 0 = λ p. IsWellTyped p in
    let Q : Tabled → Type 0 = λ t. IsWellTyped (program_of t.program) in
    subst P (sym c.in_ok-program.ensures) (subst Q (sym c.deref.ensures) c.self.invariant.typed)

pub known-requires-clause-counted : goal.known-requires-clause-counted
known-requires-clause-counted c =
    let P : tree.Program → Type 0 = λ p. AreCounts p c.counts.result in
    let Q : Program → Type 0 = λ p. AreCounts (program_of p) c.counts.result in
    let R : Tabled → Type 0 = λ t. AreCounts (program_of t.program) c.counts.result in
    subst P (sym c.in_ok-program.ensures) (subst R (sym c.deref.ensures) (subst Q (sym c.self.view_is) c.counts.ensures))

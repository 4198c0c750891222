use Rattle.std.proofs.Common.{◌≡◌, ap, subst, sym, ◌∙◌}
use Rattle.p4_tree.specs.Tree.{Program}
use Rattle.p4_tree.specs.View.{program_of}
use Rattle.p4_tree.specs.declared.program.Program as code
use Rattle.p4_rules.specs.ProgramRules.{IsWellTyped}
use Rattle.p4_types.specs.Counts.{AreCounts}
use Rattle.exit_programs.specs.Programs.{program_without}
use Rattle.exit_rules.proofs.WellTyped.{stays_well_typed}
use Rattle.exit_lowering.specs.Lowered.{IsLowered}
use Rattle.exit_lowering.proofs.Facts.{lowered, counts_same, still_ok}
use Rattle.exit_lowering.proofs.lowered.without_exits.Goals as goal

pub known-requires-clause-typed : goal.known-requires-clause-typed
known-requires-clause-typed c =
    let same = c.in_ok-program.ensures ∙ ap (λ (q : code.Program). program_without (program_of q)) c.program.ensures.same in
    let P : Program → Type 0 = λ q. IsWellTyped q in
    subst P (sym same) (stays_well_typed (program_of c.args.p.now) c.program.ensures.typed c.requires.given)

pub known-requires-clause-counted : goal.known-requires-clause-counted
known-requires-clause-counted c =
    let same = c.in_ok-program.ensures ∙ ap (λ (q : code.Program). program_without (program_of q)) c.program.ensures.same in
    let P : Program → Type 0 = λ q. AreCounts q c.counts.result in
    subst P (sym same) (counts_same (program_of c.args.p.now) c.counts.result c.program.ensures.typed c.requires.given c.counts.ensures)

pub returns : goal.returns
returns c =
    let p = program_of c.args.p.now in
    let same = c.in_ok-program.ensures ∙ ap (λ (q : code.Program). program_without (program_of q)) c.program.ensures.same in
    let all = lowered p c.program.ensures.typed c.requires.given in
    still_ok (λ t. program_of t ≡ program_of c.in_ok-program.program) (λ t. IsLowered p (program_of t)) c.known.result (λ t e. subst (IsLowered p) (sym (e ∙ same)) all) c.known.ensures

use Rattle.std.proofs.Common.{◌≡◌, sym, ap, subst}
use Rattle.p4_tree.specs.Tree.{Program}
use Rattle.p4_tree.specs.View.{program_of}
use Rattle.rewriting_laws.specs.Standing.{MayStandFor}
use Rattle.rewriting_rules.proofs.Programs.{stays_well_typed}
use Rattle.rewritten_programs.specs.Rewritten.{ProgramRewritten}
use Rattle.simplify_rules.specs.Simplified.{IsSimplified}
use Rattle.simplify_programs.specs.Simplified.{IsSimplifiedProgram}
use Rattle.simplify_programs.proofs.Facts.{counts_same, simplified, then_so}
use Rattle.simplify_programs.proofs.programs.simplify.Goals as goal

pub known-requires-clause-typed : goal.known-requires-clause-typed
known-requires-clause-typed g c =
    let same = ap program_of c.program.ensures.same in
    let r = subst (λ (p : Program). ProgramRewritten MayStandFor p (program_of c.in_ok-program.program)) same c.in_ok-program.ensures.stands in
    stays_well_typed (program_of c.args.p.now) (program_of c.in_ok-program.program) r c.program.ensures.typed

pub known-requires-clause-counted : goal.known-requires-clause-counted
known-requires-clause-counted g c =
    let same = ap program_of c.program.ensures.same in
    let r = subst (λ (p : Program). ProgramRewritten MayStandFor p (program_of c.in_ok-program.program)) same c.in_ok-program.ensures.stands in
    counts_same (program_of c.args.p.now) (program_of c.in_ok-program.program) c.counts.result r c.program.ensures.typed c.counts.ensures

pub returns : goal.returns
returns g c =
    let A = g.R.Offers.Answers c.args.rules.now in
    let p = program_of c.args.p.now in
    let q = program_of c.in_ok-program.program in
    let same = ap program_of c.program.ensures.same in
    let r = subst (λ (x : Program). ProgramRewritten MayStandFor x q) same c.in_ok-program.ensures.stands in
    let w = subst (λ (x : Program). ProgramRewritten (IsSimplified A) x q) same c.in_ok-program.ensures.walked in
    let all = simplified A p q c.program.ensures.typed w r in
    then_so (λ t. program_of t ≡ q) (λ t. IsSimplifiedProgram A p (program_of t)) c.known.result (λ t e. subst (IsSimplifiedProgram A p) (sym e) all) c.known.ensures

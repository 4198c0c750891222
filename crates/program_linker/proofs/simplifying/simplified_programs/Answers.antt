use Rattle.std.proofs.Common.{sym, ◌∙◌}
use Rattle.p4_tree.specs.View.{program_of}
use Rattle.simplify_programs.specs.Simplified.{IsSimplifiedProgram}
use Rattle.program_linker.proofs.Lists.{one_more, all_made}
use Rattle.program_linker.proofs.simplifying.simplified_programs.Goals as goal

pub loop-program-preserved : goal.loop-program-preserved
loop-program-preserved g c =
    one_more program_of (IsSimplifiedProgram (g.R.Offers.Answers c.args.rules.now)) c.args.programs.items _ _ c.loop-program.made.items c.push.new.self.items c.in-Some.program
    c.in_ok-simplify.field-0 c.in-Some.ensures.steps.0 c.in_ok-simplify.ensures c.in_ok-push.ensures.items c.loop-program.invariant

pub returns : goal.returns
returns g c =
    all_made program_of (IsSimplifiedProgram (g.R.Offers.Answers c.args.rules.now)) c.args.programs.items c.loop-program.program-iterator.rest.items c.loop-program.made.items
    (sym c.loop-program.program-iterator.rest.ok.0 ∙ c.in-None.ensures.steps.0) c.loop-program.invariant

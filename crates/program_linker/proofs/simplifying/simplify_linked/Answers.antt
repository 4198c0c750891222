use Rattle.std.proofs.Common.{map}
use Rattle.p4_tree.specs.View.{program_of}
use Rattle.lower_blocks.specs.Results.{rows_of}
use Rattle.program_linker.proofs.Answered.{stay_linked, stay_spelled}
use Rattle.program_linker.proofs.simplifying.simplify_linked.Goals as goal

pub returns-clause-linked : goal.returns-clause-linked
returns-clause-linked g c =
    stay_linked (g.R.Offers.Answers c.args.rules.now) (map program_of c.args.l.programs.items) (map program_of c.in_ok-programs.programs.items) (rows_of c.args.l.map) c.in_ok-programs.ensures

pub returns-clause-spelled : goal.returns-clause-spelled
returns-clause-spelled g c =
    stay_spelled (g.R.Offers.Answers c.args.rules.now) program_of c.args.l.programs.items c.in_ok-programs.programs.items c.in_ok-programs.ensures

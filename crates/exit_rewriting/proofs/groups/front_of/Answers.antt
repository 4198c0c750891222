use Rattle.std.proofs.Common.{ap, ◌∙◌, sym}
use Rattle.exit_rewriting.specs.Groups.{before_point}
use Rattle.exit_rewriting.proofs.Grouping.{stripped, not_stripped, front_text}
use Rattle.exit_rewriting.proofs.groups.front_of.Goals as goal

pub returns-in-Some : goal.returns-in-Some
returns-in-Some c =
    front_text _ c.in-Some.front.now c.strip_suffix-in-Some.result c.strip_suffix-in-Some.ensures.cases
    ∙ sym (ap before_point (stripped c.args.control.now c.args.x.now c.in-Some.front.now c.in-Some.ensures.cases))

pub returns-in-None : goal.returns-in-None
returns-in-None c = sym (ap before_point (not_stripped c.args.control.now c.args.x.now c.in-None.ensures.cases))

use Rattle.std.proofs.Common.{◌≡◌, ap, sym, ◌∙◌}
use Rattle.link_checks.specs.View.{text_of}
use Rattle.link_checks.proofs.Firsts.{some_front, none_front}
use Rattle.link_checks.proofs.first.first.Goals as goal

pub returns-in-Some : goal.returns-in-Some
returns-in-Some c x y first second = ap text_of c.in-Some.is ∙ some_front c.in-Some.field-0.now x y (sym (ap text_of c.in-Some.is) ∙ first)

pub returns-in-None : goal.returns-in-None
returns-in-None c x y first second = none_front (text_of c.args.b) x y (sym (ap text_of c.in-None.is) ∙ first) second

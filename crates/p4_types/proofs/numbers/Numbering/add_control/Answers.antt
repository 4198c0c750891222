use Rattle.std.proofs.Common.{map, refl}
use Rattle.p4_tree.specs.View.{local_of}
use Rattle.p4_types.specs.Numbers.{locals_names}
use Rattle.p4_types.specs.Kept.{sort_of}
use Rattle.p4_types.proofs.Numbered.{control_more}
use Rattle.p4_types.proofs.numbers.Numbering.add_control.Goals as goal

pub returns : goal.returns
returns c = λ all so.
    control_more c.args.self.now _ all so c.in_ok-group.group c.args.control.now
    (locals_names (sort_of c.args.sort) c.args.control.now (map local_of c.args.locals.now)) c.in_ok-group.ensures refl refl refl c.in_ok-push.ensures.items

use Rattle.std.proofs.Common.{refl, map}
use Rattle.p4_tree.specs.View.{top_of}
use Rattle.p4_scopes.specs.View.{scope_of}
use Rattle.p4_declaration_rules.proofs.Sums.{tops_at_first}
use Rattle.p4_declaration_rules.proofs.controls.check_tops.Goals as goal

pub loop-top-init : goal.loop-top-init
loop-top-init c = record { declared = refl; most = tops_at_first c.args.main.now (scope_of c.args.scope.now) (map top_of c.args.tops.now); rest = refl }

use Rattle.std.proofs.Common.{List, map, ap, ◌∙◌}
use Rattle.p4_tree.specs.View.{top_of}
use Rattle.p4_tree.specs.declared.program.Top as code
use Rattle.p4_meaning.specs.Scope.{constant_named}
use Rattle.p4_meaning.specs.Under.{no_scope, behind_tops}
use Rattle.p4_types.proofs.constants.constants_of.Goals as goal

pub returns : goal.returns
returns c = λ x. c.in_ok-constants.ensures x ∙ ap (λ (ts : List code.Top). constant_named (behind_tops no_scope (map top_of ts)).constants x) c.deref.ensures.value

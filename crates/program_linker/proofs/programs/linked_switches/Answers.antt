use Rattle.std.proofs.Common.{◌∷◌, [], ◌++◌, map, sym, ap, ◌∙◌, arith}
use Rattle.std.proofs.lemmas.List.{map_push}
use Rattle.std.proofs.lemmas.List.FromFn.{map-range_with_len_more}
use Rattle.p4_tree.specs.View.{program_of}
use Rattle.linked_trees.specs.View.{lowered_of}
use Rattle.program_linker.specs.Parts.{linked_at}
use Rattle.program_linker.proofs.programs.linked_switches.Goals as goal

pub first_switch-requires : goal.first_switch-requires
first_switch-requires c = c.requires.typed 0 (omega arith)

pub next_switch-requires-clause-typed : goal.next_switch-requires-clause-typed
next_switch-requires-clause-typed c = c.requires.typed c.loop-switch.switch (omega (arith, c.requires.few))

pub loop-switch-preserved : goal.loop-switch-preserved
loop-switch-preserved c =
    let F = linked_at (lowered_of c.args.parts.now) c.args.size c.args.net.now (program_of c.args.program.now) in
    let before = map program_of c.loop-switch.programs.items in
    ap (map program_of) c.in_ok-push-2.ensures.items
    ∙ map_push program_of c.loop-switch.programs.items c.in_ok-next_switch.field-0
    ∙ ap (λ x. before ++ x ∷ []) c.in_ok-next_switch.ensures
    ∙ ap (λ xs. xs ++ F c.loop-switch.switch ∷ []) c.loop-switch.invariant
    ∙ sym (map-range_with_len_more F 0 c.loop-switch.switch c.loop-switch.switch (omega arith))

use Rattle.std.proofs.Common.{ℕ, map, ap, ◌∙◌, arith}
use Rattle.std.specs.List.{range_with_len}
use Rattle.indus_tree.specs.View.{property_of}
use Rattle.p4_tree.specs.View.{program_of}
use Rattle.linked_trees.specs.View.{lowered_of}
use Rattle.lower_blocks.specs.Results.{rows_of}
use Rattle.program_linker.specs.Parts.{lowered_in, linked_at}
use Rattle.program_linker.proofs.Links.{can_be, given_names, each_is_typed, each_counts_alike, are_linked, are_spelled}
use Rattle.program_linker.proofs.linking.link.Goals as goal

pub linked_form-requires : goal.linked_form-requires
linked_form-requires c =
    let can = can_be (property_of c.args.p.now) (program_of c.args.f.now) _ c.args.room (ap program_of c.program.ensures.same) c.requires.plain c.requires.reports c.program.ensures.typed c.requires.text c.requires.leaves c.requires.room c.in_ok-layout.ensures.none in
    record { given = given_names (property_of c.args.p.now) (program_of c.args.f.now) c.args.room can }

pub linked_switches-requires-clause-typed : goal.linked_switches-requires-clause-typed
linked_switches-requires-clause-typed c =
    let can = can_be (property_of c.args.p.now) (program_of c.args.f.now) _ c.args.room (ap program_of c.program.ensures.same) c.requires.plain c.requires.reports c.program.ensures.typed c.requires.text c.requires.leaves c.requires.room c.in_ok-layout.ensures.none in
    each_is_typed (property_of c.args.p.now) (program_of c.args.f.now) c.args.room can c.reaches_is_exact.ensures c.args.net.now c.count-count.ensures.wiring
    (lowered_of c.in_ok-parts.parts) (c.in_ok-parts.ensures.trees ∙ ap (lowered_in (property_of c.args.p.now)) c.in_ok-program.ensures)
    (program_of c.in_ok-program.program) c.in_ok-program.ensures c.in_ok-layout.layout.bytes

pub linked_switches-requires-clause-alike : goal.linked_switches-requires-clause-alike
linked_switches-requires-clause-alike c =
    let can = can_be (property_of c.args.p.now) (program_of c.args.f.now) _ c.args.room (ap program_of c.program.ensures.same) c.requires.plain c.requires.reports c.program.ensures.typed c.requires.text c.requires.leaves c.requires.room c.in_ok-layout.ensures.none in
    each_counts_alike (property_of c.args.p.now) (program_of c.args.f.now) c.args.room can c.reaches_is_exact.ensures c.args.net.now c.count-count.ensures.wiring
    (lowered_of c.in_ok-parts.parts) (c.in_ok-parts.ensures.trees ∙ ap (lowered_in (property_of c.args.p.now)) c.in_ok-program.ensures)
    (program_of c.in_ok-program.program) c.in_ok-program.ensures c.in_ok-layout.layout.bytes

pub returns-clause-linked : goal.returns-clause-linked
returns-clause-linked c =
    let can = can_be (property_of c.args.p.now) (program_of c.args.f.now) _ c.args.room (ap program_of c.program.ensures.same) c.requires.plain c.requires.reports c.program.ensures.typed c.requires.text c.requires.leaves c.requires.room c.in_ok-layout.ensures.none in
    let F = linked_at (lowered_of c.in_ok-parts.parts) c.in_ok-layout.layout.bytes c.args.net.now (program_of c.in_ok-program.program) in
    are_linked (property_of c.args.p.now) (program_of c.args.f.now) c.args.room can c.reaches_is_exact.ensures c.args.net.now c.count-count.ensures.wiring
    (lowered_of c.in_ok-parts.parts) (c.in_ok-parts.ensures.trees ∙ ap (lowered_in (property_of c.args.p.now)) c.in_ok-program.ensures)
    (program_of c.in_ok-program.program) c.in_ok-program.ensures c.in_ok-layout.layout.bytes c.in_ok-layout.ensures.layout.bytes
    (map program_of c.in_ok-programs.programs.items) (c.in_ok-programs.ensures ∙ ap (λ (n : ℕ). map F (range_with_len 0 n)) c.count-count.ensures.count)
    (rows_of c.in_ok-parts.map) c.in_ok-parts.ensures.rows

pub returns-clause-spelled : goal.returns-clause-spelled
returns-clause-spelled c = λ texts.
    let can = can_be (property_of c.args.p.now) (program_of c.args.f.now) _ c.args.room (ap program_of c.program.ensures.same) c.requires.plain c.requires.reports c.program.ensures.typed c.requires.text c.requires.leaves c.requires.room c.in_ok-layout.ensures.none in
    let F = linked_at (lowered_of c.in_ok-parts.parts) c.in_ok-layout.layout.bytes c.args.net.now (program_of c.in_ok-program.program) in
    let are =
    are_linked (property_of c.args.p.now) (program_of c.args.f.now) c.args.room can c.reaches_is_exact.ensures c.args.net.now c.count-count.ensures.wiring
    (lowered_of c.in_ok-parts.parts) (c.in_ok-parts.ensures.trees ∙ ap (lowered_in (property_of c.args.p.now)) c.in_ok-program.ensures)
    (program_of c.in_ok-program.program) c.in_ok-program.ensures c.in_ok-layout.layout.bytes c.in_ok-layout.ensures.layout.bytes
    (map program_of c.in_ok-programs.programs.items) (c.in_ok-programs.ensures ∙ ap (λ (n : ℕ). map F (range_with_len 0 n)) c.count-count.ensures.count)
    (rows_of c.in_ok-parts.map) c.in_ok-parts.ensures.rows in
    are_spelled (property_of c.args.p.now) (program_of c.args.f.now) c.args.room can c.reaches_is_exact.ensures c.args.net.now c.count-count.ensures.wiring
    program_of c.in_ok-programs.programs.items (rows_of c.in_ok-parts.map) are (omega (arith, c.count-count.ensures.count, c.count-count.ensures.in_range)) texts

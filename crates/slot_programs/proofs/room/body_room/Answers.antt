use Rattle.std.proofs.Common.{◌+◌, sym, ap, ap₂, ◌∙◌}
use Rattle.p4_tree.specs.View.{stmts_of}
use Rattle.slot_programs.specs.Room.{variables_in}
use Rattle.slot_programs.proofs.UseLemmas.{variables_then}
use Rattle.slot_programs.proofs.room.body_room.Goals as goal

pub returns : goal.returns
returns c =
    c.in_ok-both.ensures
    ∙ ap₂ (λ i j. i + j) (c.in_ok-locals.ensures ∙ ap (λ xs. variables_in (stmts_of xs)) c.deref.ensures.value) (c.in_ok-body.ensures ∙ ap (λ xs. variables_in (stmts_of xs)) c.deref-2.ensures.value)
    ∙ sym (variables_then (stmts_of c.args.b.now.locals.items) (stmts_of c.args.b.now.body.items))

use Rattle.std.proofs.Common.{ap, sym, ◌∙◌}
use Rattle.std.proofs.lemmas.Slice.Zip.{either_empty_from_Zip}
use Rattle.p4_meaning.specs.Statements.{cell_at}
use Rattle.p4_slots.proofs.RegisterLemmas.{none_named}
use Rattle.p4_slots.proofs.cells.read_named.Goals as goal

pub returns : goal.returns
returns c =
    c.default.ensures
    ∙ ap (λ l. cell_at l c.args.index)
    (sym (none_named c.loop-register.register-iterator.a.rest.now c.loop-register.register-iterator.b.rest.now c.args.name.now (either_empty_from_Zip c.loop-register.register-iterator c.next.new.self c.next.result c.in-None.is c.next.ensures.steps))
    ∙ c.loop-register.invariant)

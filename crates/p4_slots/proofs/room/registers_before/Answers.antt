use Rattle.std.proofs.Common.{map, ap, ◌∙◌, arith}
use Rattle.std.proofs.lemmas.List.{take_all}
use Rattle.p4_parts.specs.PartsIn.{cells_decl}
use Rattle.p4_slots.proofs.RegisterLemmas.{cells_from, named_starts, wide_starts}
use Rattle.p4_slots.proofs.room.registers_before.Goals as goal

pub returns-clause-named : goal.returns-clause-named
returns-clause-named c =
    named_starts (map cells_decl c.args.list.now) c.loop-declared.registers.items
    (c.loop-declared.invariant ∙ ap (λ l. cells_from (map cells_decl l)) (take_all c.loop-declared.declared-index c.args.list.now (omega arith)))

pub returns-clause-wide : goal.returns-clause-wide
returns-clause-wide c =
    wide_starts (map cells_decl c.args.list.now) c.loop-declared.registers.items
    (c.loop-declared.invariant ∙ ap (λ l. cells_from (map cells_decl l)) (take_all c.loop-declared.declared-index c.args.list.now (omega arith)))

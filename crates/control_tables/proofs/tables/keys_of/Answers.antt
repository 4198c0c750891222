use Rattle.std.proofs.Common.{◌∷◌, [], ◌+◌, ◌++◌, map, drop, sym, ap, ◌∙◌, arith}
use Rattle.std.proofs.lemmas.List.{map_push, append_assoc}
use Rattle.p4_tree.specs.View.{key_of}
use Rattle.control_tables.specs.Tables.{key_at, keys_from}
use Rattle.control_tables.proofs.KeySteps.{next_key}
use Rattle.control_tables.proofs.tables.keys_of.Goals as goal

pub loop-part-preserved : goal.loop-part-preserved
loop-part-preserved c =
    let n = c.args.number in
    let i = c.loop-part.part in
    let ts = c.args.types.now in
    let done = map key_of c.loop-part.keys.items in
    rw (c.in_ok-push.ensures.items, map_push key_of c.loop-part.keys.items c.in_ok-key_at.field-0, c.in_ok-key_at.ensures)
    (append_assoc done (key_at n i ∷ []) (keys_from n (i + 1) (drop (i + 1) ts)) ∙ ap (λ l. done ++ l) (sym (next_key n i ts i (omega arith))) ∙ c.loop-part.invariant)

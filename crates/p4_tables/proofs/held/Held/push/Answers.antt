use Rattle.std.proofs.Common.{◌-◌, ℕ, [], ◌∷◌, ◌++◌, map, take, sym, ap, subst, ◌∙◌}
use Rattle.table_shapes.specs.Shapes.{has_ternary}
use Rattle.table_entries.specs.Index.{IsIndex}
use Rattle.table_entries.specs.View.{entry_of}
use Rattle.table_entries.proofs.Listed.{one_more, all_but_last, many_of, long}
use Rattle.p4_tables.proofs.held.Held.push.Goals as goal

pub invariant_of-self-in-Ok : goal.invariant_of-self-in-Ok
invariant_of-self-in-Ok c =
    let before = c.self.inside.listed.items in
    let t = has_ternary c.self.inside.shape.keys.items in
    let ks = c.self.inside.shape.keys.items in
    subst (λ es. IsIndex ks t es c.note.new.self) (one_more before c.push.new.self.items c.args.e c.index.result.now c.len-place.result (c.len-place.ensures ∙ long c.self.inside.listed) c.in_ok-push.ensures.items c.index.ensures) (subst (λ l. IsIndex l t (map entry_of before ++ entry_of c.index.result.now ∷ []) c.note.new.self) c.deref.ensures.value (c.in-Ok.ensures.ok t (map entry_of before) (subst (λ l. IsIndex l t (map entry_of before) c.self.inside.index) (sym c.deref.ensures.value) c.self.invariant) (many_of before c.len-place.result (c.len-place.ensures ∙ long c.self.inside.listed))))

pub invariant_of-self-in-Err : goal.invariant_of-self-in-Err
invariant_of-self-in-Err c =
    let before = c.self.inside.listed.items in
    let t = has_ternary c.self.inside.shape.keys.items in
    let ks = c.self.inside.shape.keys.items in
    subst (λ es. IsIndex ks t es c.note.new.self) (all_but_last before c.push.new.self.items c.pop.new.self.items c.args.e c.in_ok-push.ensures.items (c.pop.ensures.rest ∙ ap (λ (n : ℕ). take (n - 1) c.push.new.self.items) (long c.push.new.self))) (subst (λ l. IsIndex l t (map entry_of before) c.note.new.self) c.deref.ensures.value (c.in-Err.ensures.err t (map entry_of before) (subst (λ l. IsIndex l t (map entry_of before) c.self.inside.index) (sym c.deref.ensures.value) c.self.invariant)))

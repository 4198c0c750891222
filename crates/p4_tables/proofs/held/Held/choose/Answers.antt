use Rattle.std.proofs.Common.{◌≡◌, true, map, sym, ap, subst, ◌∙◌}
use Rattle.std.specs.Option.{option_map}
use Rattle.table_shapes.specs.Shapes.{has_ternary, have_widths}
use Rattle.table_entries.specs.Entries.{act_in}
use Rattle.table_entries.specs.Signs.{sign_act, wanted}
use Rattle.table_entries.specs.Index.{IsIndex, first_fit, first_told, longest}
use Rattle.p4_tables.specs.Kept.{AreApart, IsSound}
use Rattle.p4_tables.specs.State.{Held}
use Rattle.table_entries.specs.View.{entry_of, act_of}
use Rattle.table_shapes.specs.View.{shape_of}
use Rattle.table_entries.specs.Walk.{lent, found_in}
use Rattle.p4_tables.proofs.Fallen.{fit_found}
use Rattle.p4_tables.proofs.Signed.{act_found}
use Rattle.p4_tables.proofs.held.Held.choose.Goals as goal

pub returns-in-Priorities-clause-acts : goal.returns-in-Priorities-clause-acts
returns-in-Priorities-clause-acts c =
    let inside = c.self.inside in
    let ks = inside.shape.keys.items in
    let es = map entry_of inside.listed.items in
    let ws = c.args.keys.now in
    let index = subst (IsIndex ks (has_ternary ks) es) c.in-Priorities.is c.self.invariant in
    let h : Held = record { shape = shape_of inside.shape; listed = es; default = act_of inside.default } in
    let sound : IsSound h = subst IsSound (sym c.self.view_is) c.requires in
    let apart : AreApart true es = subst (λ b. AreApart b es) index.0 sound.apart in
    let found = fit_found h ws sound apart c.in-Priorities.places c.first_fit.ensures.ordered index.1
    (option_map entry_of (lent c.first_fit.result))
    (c.first_fit.ensures.found ∙ ap (λ l. first_fit (map entry_of l) ws c.in-Priorities.places.entries) c.deref.ensures.value) in
    c.of_entry.ensures.acts
    ∙ ap (option_map act_in) (found ∙ ap (λ b. found_in b es ws) (sym index.0) ∙ ap (λ (g : Held). found_in (has_ternary g.shape.keys) g.listed ws) c.self.view_is)

pub returns-in-Some-clause-acts : goal.returns-in-Some-clause-acts
returns-in-Some-clause-acts c =
    let inside = c.self.inside in
    let ks = inside.shape.keys.items in
    let es = map entry_of inside.listed.items in
    let ws = c.args.keys.now in
    let index = subst (IsIndex ks (has_ternary ks) es) c.in-Signs.is c.self.invariant in
    let h : Held = record { shape = shape_of inside.shape; listed = es; default = act_of inside.default } in
    let sound : IsSound h = subst IsSound (sym c.self.view_is) c.requires in
    let kinds = c.deref-in-Signs.ensures.value in
    let wide = subst (λ l. have_widths (map (λ k. k.value) l) ws ≡ true) kinds c.in-Some.ensures.wide in
    c.of_act.ensures.acts
    ∙ ap (option_map act_of) (c.in-Some.ensures.told ∙ ap (λ l. first_told (λ n. sign_act l c.in-Signs.signs (wanted l n ws)) (longest l)) kinds)
    ∙ act_found h ws sound index.0 wide c.in-Signs.signs index.1
    ∙ ap (option_map act_in) (ap (λ b. found_in b es ws) (sym index.0) ∙ ap (λ (g : Held). found_in (has_ternary g.shape.keys) g.listed ws) c.self.view_is)

use Rattle.std.proofs.Common.{◌≡◌, None, sym, ap, subst, ◌∙◌}
use Rattle.std.specs.Option.{option_map}
use Rattle.table_shapes.specs.Shapes.{has_ternary}
use Rattle.table_entries.specs.Entries.{Act}
use Rattle.p4_tables.specs.State.{held_at}
use Rattle.p4_tables.specs.Answers.{IsHit, IsMiss}
use Rattle.table_entries.specs.View.{chosen_act}
use Rattle.table_entries.specs.Walk.{found_in}
use Rattle.p4_tables.proofs.Changed.{read_at, within}
use Rattle.p4_tables.proofs.Found.{hit, miss, some_entry, no_act, on_true, not_false}
use Rattle.p4_tables.proofs.state.TableState.choose.Goals as goal

pub returns-in-Some-clause-hit : goal.returns-in-Some-clause-hit
returns-in-Some-clause-hit c =
    let tables = c.self.inside.tables.items in
    let h = c.index-held.result.now in
    let is : h ≡ held_at c.args.self.now c.args.table =
    read_at tables c.args.table h (within tables c.args.self.now c.args.table c.self.view_is c.requires) c.index-held.ensures
    ∙ ap (λ st. held_at st c.args.table) c.self.view_is
    in
    let answer : Act = chosen_act c.in-Some.chosen in
    let found = some_entry (found_in (has_ternary h.shape.keys) h.listed c.args.keys.now) answer (sym c.choose.ensures.acts ∙ ap (option_map chosen_act) c.in-Some.is) in
    on_true c.in-Some.chosen.hit (subst (λ g. IsHit g c.args.keys.now answer) is (hit h c.args.keys.now found.entry answer found.found (sym (ap (λ (a : Act). a.action) found.runs)) (sym (ap (λ (a : Act). a.args) found.runs))))

pub returns-in-Some-clause-miss : goal.returns-in-Some-clause-miss
returns-in-Some-clause-miss c = not_false _ c.in-Some.chosen.hit c.in-Some.ensures.hit

pub returns-in-None-clause-miss : goal.returns-in-None-clause-miss
returns-in-None-clause-miss c =
    let tables = c.self.inside.tables.items in
    let h = c.index-held.result.now in
    let is : h ≡ held_at c.args.self.now c.args.table =
    read_at tables c.args.table h (within tables c.args.self.now c.args.table c.self.view_is c.requires) c.index-held.ensures
    ∙ ap (λ st. held_at st c.args.table) c.self.view_is
    in
    let found : found_in (has_ternary h.shape.keys) h.listed c.args.keys.now ≡ None =
    no_act _ (sym c.choose.ensures.acts ∙ ap (option_map chosen_act) c.in-None.is)
    in
    let answer : Act = record { action = c.default-default.result.now.action; args = c.deref.result.now } in
    let default : answer ≡ h.default =
    ap (λ ws. record { action = c.default-default.result.now.action; args = ws }) c.deref.ensures.value ∙ c.default-default.ensures
    in
    subst (λ g. IsMiss g c.args.keys.now answer) is (miss h c.args.keys.now answer found default)

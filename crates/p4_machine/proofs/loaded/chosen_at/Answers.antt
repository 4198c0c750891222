use Rattle.std.proofs.Common.{◌≡◌, ◌<◌, ◌≤◌, length, map, ap, ◌∙◌, arith}
use Rattle.std.proofs.lemmas.List.{length-map}
use Rattle.p4_parts.specs.PartsIn.{action_in, parts_in, table_in}
use Rattle.p4_statements.specs.Outcomes.{outcome_of}
use Rattle.p4_tables.specs.Programs.{shapes}
use Rattle.table_entries.specs.View.{chosen_act}
use Rattle.p4_machine.proofs.LoadedLemmas.{same_tables, as_many, outcome_for, on_true, on_false, chosen_there, none_there}
use Rattle.p4_machine.proofs.loaded.chosen_at.Goals as goal

pub choose-requires : goal.choose-requires
choose-requires c =
    let ts = map table_in c.args.parts.now.tables.items in
    let many : length ts ≡ length c.args.state.now = as_many ts c.args.state.now (same_tables ts (shapes c.args.state.now) c.requires) in
    omega (arith, many, length-map c.args.parts.now.tables.items table_in, c.len.ensures)

pub returns-then-place-len : goal.returns-then-place-len
returns-then-place-len c = λ x at.
    let p = parts_in c.args.parts.now in
    let a = chosen_act c.choose.result in
    let hit = c.choose.result.hit in
    let there : c.args.place < length p.tables = omega (arith, length-map c.args.parts.now.tables.items table_in, c.len.ensures) in
    chosen_there p c.args.state.now x c.args.place c.args.keys.now (outcome_of c.outcome.result) a hit (same_tables p.tables (shapes c.args.state.now) c.requires) at there
    (c.outcome.ensures ∙ ap (λ l. outcome_for (map action_in l) a hit) c.deref.ensures.value) (on_true hit c.choose.ensures.hit) (on_false hit c.choose.ensures.miss)

pub returns-else-place-len : goal.returns-else-place-len
returns-else-place-len c = λ x at.
    let p = parts_in c.args.parts.now in
    let past : length p.tables ≤ c.args.place = omega (arith, length-map c.args.parts.now.tables.items table_in, c.len.ensures) in
    none_there p c.args.state.now x c.args.place c.args.keys.now at past

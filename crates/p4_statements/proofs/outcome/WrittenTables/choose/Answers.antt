use Rattle.std.proofs.Common.{◌≡◌, ℕ, List, map, Option, sym, ap, ◌∙◌}
use Rattle.std.specs.Option.{option_map}
use Rattle.p4_meaning.specs.Tables.{Table, Entries, table_named}
use Rattle.p4_resolved.specs.Lent.{lent}
use Rattle.p4_parts.specs.PartsIn.{action_in, table_in}
use Rattle.p4_statements.specs.Outcomes.{outcome_in, written}
use Rattle.p4_statements.proofs.OutcomesLemmas.{written_before}
use Rattle.p4_statements.proofs.outcome.WrittenTables.choose.Goals as goal

pub returns : goal.returns
returns c =
    let p = c.args.parts.now in
    let x = c.args.name.now in
    let keys = c.args._keys.now in
    let as' = map action_in p.actions.items in
    let ts = map table_in p.tables.items in
    let found : Option Table = option_map table_in (lent c.table_named.result) in
    c.written_in.ensures keys
    ∙ ap (λ l. outcome_in (map action_in l) found (written found) keys) c.deref.ensures.value
    ∙ ap (λ (o : Option Table). outcome_in as' o (written o) keys) (c.table_named.ensures ∙ ap (λ l. table_named (map table_in l) x) c.deref-2.ensures.value)
    ∙ ap (λ (h : Entries). outcome_in as' (table_named ts x) h keys) (sym (written_before ts x))

use Rattle.std.proofs.Common.{◌≡◌, ◌<◌, List, length, map, ap, ap₂, Some, ◌∙◌, arith}
use Rattle.p4_meaning.specs.Actions.{Action}
use Rattle.table_entries.specs.Entries.{Entry, Act}
use Rattle.p4_parts.specs.PartsIn.{action_in, parts_in, table_in}
use Rattle.table_entries.specs.View.{entry_of, act_of}
use Rattle.p4_tables.specs.State.{replaced}
use Rattle.p4_tables.specs.Named.{table_place}
use Rattle.p4_tables.specs.Carried.{same_number, renumbered, act_renumbered}
use Rattle.p4_tables.proofs.Refilled.{refilled_is, refilled_past}
use Rattle.p4_tables.proofs.carry.refill.Goals as goal

pub returns-in_ok-put_all : goal.returns-in_ok-put_all
returns-in_ok-put_all c =
    let from = parts_in c.args.from.now in
    let to = parts_in c.args.to.now in
    let at : c.table_place-place.result ≡ table_place to.tables c.args.name.now = c.table_place-place.ensures ∙ ap (λ ts. table_place (map table_in ts) c.args.name.now) c.deref.ensures.value in
    let there : c.table_place-place.result < length c.args.tables.now.items = omega (arith, c.len.ensures, c.if-place-len.true) in
    let list : map entry_of c.in_ok-list.list.items ≡ map (renumbered (same_number from.actions to.actions)) c.args.held.now.listed =
    c.in_ok-list.ensures
    ∙ ap₂ (λ (as' bs : List Action). map (renumbered (same_number as' bs)) (map entry_of c.listed.result.now)) (ap (map action_in) c.deref-then-place-len.ensures.value) (ap (map action_in) c.requires)
    ∙ ap (map (renumbered (same_number from.actions to.actions))) c.listed.ensures
    in
    let default : act_of c.in_ok-default.default ≡ act_renumbered (same_number from.actions to.actions) c.args.held.now.default =
    c.in_ok-default.ensures
    ∙ ap₂ (λ (as' bs : List Action). act_renumbered (same_number as' bs) (act_of c.default.result.now)) (ap (map action_in) c.deref-then-place-len-2.ensures.value) (ap (map action_in) c.requires)
    ∙ ap (act_renumbered (same_number from.actions to.actions)) c.default.ensures
    in
    c.in_ok-put_all.ensures.ok
    ∙ ap₂ (λ (es : List Entry) (d : Act). replaced c.args.tables.now.items c.table_place-place.result es (Some d)) list default
    ∙ refilled_is from to c.args.name.now c.args.held.now c.args.tables.now.items c.table_place-place.result at there

pub returns-else-place-len : goal.returns-else-place-len
returns-else-place-len c =
    let at : c.table_place-place.result ≡ table_place (parts_in c.args.to.now).tables c.args.name.now = c.table_place-place.ensures ∙ ap (λ ts. table_place (map table_in ts) c.args.name.now) c.deref.ensures.value in
    refilled_past (parts_in c.args.from.now) (parts_in c.args.to.now) c.args.name.now c.args.held.now c.args.tables.now.items c.table_place-place.result at (omega (arith, c.len.ensures, c.if-place-len.false))

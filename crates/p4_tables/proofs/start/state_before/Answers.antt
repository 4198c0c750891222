use Rattle.std.proofs.Common.{◌≡◌, map, ap, ◌∙◌}
use Rattle.std.proofs.lemmas.Result.{IfOk-weaker}
use Rattle.p4_tree.specs.View.{program_of, top_of}
use Rattle.p4_meaning.specs.Parts.{Parts, parts_of}
use Rattle.p4_scopes.specs.Scopes.{core}
use Rattle.p4_parts.specs.PartsIn.{action_in, table_in}
use Rattle.value_shapes.specs.Values.{tops_values}
use Rattle.p4_tables.specs.Programs.{tables_before, state_before}
use Rattle.value_shapes.specs.Values.{lists_in}
use Rattle.value_shapes.specs.declared.values.Holder.TheVariants.{Keys, Params}
use Rattle.p4_tables.proofs.start.state_before.Goals as goal

pub returns : goal.returns
unfolding state_before
returns c =
    let p = program_of c.args.p.now in
    let actions : map action_in c.as_slice-list.result.now ≡ (parts_of p).actions = ap (map action_in) c.as_slice-list.ensures.value ∙ ap (λ (q : Parts). q.actions) c.in_ok-parts.ensures in
    let tables : map table_in c.deref-4.result.now ≡ (parts_of p).tables = ap (map table_in) c.deref-4.ensures.value ∙ ap (λ (q : Parts). q.tables) c.in_ok-parts.ensures in
    let params : lists_in c.deref-3.result.now ≡ tops_values Params core p.tops =
    ap lists_in c.deref-3.ensures.value ∙ c.in_ok-params.ensures ∙ ap (λ ts. tops_values Params core (map top_of ts)) c.deref.ensures.value
    in
    let keys : lists_in c.deref-5.result.now ≡ tops_values Keys core p.tops =
    ap lists_in c.deref-5.ensures.value ∙ c.in_ok-keys.ensures ∙ ap (λ ts. tops_values Keys core (map top_of ts)) c.deref-2.ensures.value
    in
    let all : tables_before (map action_in c.as_slice-list.result.now) (lists_in c.deref-3.result.now) (map table_in c.deref-4.result.now) (lists_in c.deref-5.result.now) ≡ state_before p =
    ap (λ as'. tables_before as' (lists_in c.deref-3.result.now) (map table_in c.deref-4.result.now) (lists_in c.deref-5.result.now)) actions
    ∙ ap (λ pss. tables_before (parts_of p).actions pss (map table_in c.deref-4.result.now) (lists_in c.deref-5.result.now)) params
    ∙ ap (λ ts. tables_before (parts_of p).actions (tops_values Params core p.tops) ts (lists_in c.deref-5.result.now)) tables
    ∙ ap (λ kss. tables_before (parts_of p).actions (tops_values Params core p.tops) (parts_of p).tables kss) keys
    in
    IfOk-weaker c.tables_before.result _ _ (λ v h. h ∙ all) c.tables_before.ensures

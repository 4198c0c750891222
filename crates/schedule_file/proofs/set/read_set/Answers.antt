use Rattle.std.proofs.Common.{sym, ap, ◌∙◌}
use Rattle.std.proofs.lemmas.Result.{err_from_is_err_and}
use Rattle.serde_json.specs.View.{view}
use Rattle.json_parts.specs.Views.{object_seen}
use Rattle.control_file.specs.Views.{decls_of}
use Rattle.schedule_file.specs.Sets.{setting_by}
use Rattle.schedule_file.specs.Views.{set_view}
use Rattle.schedule_file.proofs.SetLemmas.{read_ok, read_err, set_stop, set_rest}
use Rattle.schedule_file.proofs.set.read_set.Goals as goal

pub returns-in_err-setting : goal.returns-in_err-setting
returns-in_err-setting c =
    let p = err_from_is_err_and c.from_residual-in_err-setting.result c.from_residual-in_err-setting.ensures.1 in
    let names = c.args.network.now.names in
    let o = object_seen c.in_ok-members.members in
    let members = read_ok object_seen c.new.result c.in_ok-members.members _ c.in_ok-members.ensures c.new.ensures in
    rw (p.1, p.2) (λ other. set_stop (decls_of c.args.property.now) names (view c.args.value.now) o members _ (ap (setting_by names o) (sym c.named.ensures) ∙ c.in_err-setting.ensures other))

pub returns-in_err-in_table : goal.returns-in_err-in_table
returns-in_err-in_table c =
    let p = err_from_is_err_and c.from_residual-in_err-in_table.result c.from_residual-in_err-in_table.ensures.1 in
    let names = c.args.network.now.names in
    let o = object_seen c.in_ok-members.members in
    let members = read_ok object_seen c.new.result c.in_ok-members.members _ c.in_ok-members.ensures c.new.ensures in
    rw (p.1, p.2) (λ other. set_rest (decls_of c.args.property.now) names (view c.args.value.now) o members (set_view c.in_ok-setting.setting) _ (ap (setting_by names o) (sym c.named.ensures) ∙ c.in_ok-setting.ensures) (read_err (λ u. u) c.end.result _ _ c.in_err-in_table.ensures c.end.ensures other))

use Rattle.std.proofs.Common.{◌≡◌, None, refl, sym, ap, ◌∙◌}
use Rattle.table_entries.specs.Signs.{list_act}
use Rattle.table_entries.proofs.Noted.{no_one, list_noted}
use Rattle.table_entries.proofs.signs.note_list.Goals as goal

pub returns-in_ok-insert-clause-ok : goal.returns-in_ok-insert-clause-ok
returns-in_ok-insert-clause-ok c =
    let old = c.args.acts.now in
    let none : list_act old c.as_slice.result.now ≡ None = no_one _ _ (sym c.if-not-contains_key.ensures) refl in
    let none_so : list_act old c.args.sign.items ≡ None = sym (ap (list_act old) c.as_slice.ensures.value) ∙ none in
    list_noted old c.insert.new.self c.args.sign c.args.act none_so c.in_ok-insert.ensures.updates

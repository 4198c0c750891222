use Rattle.std.proofs.Common.{◌≡◌, Some, None, sym, ap, ◌∙◌}
use Rattle.std.proofs.lemmas.Result.{on_ok_weaker}
use Rattle.table_entries.specs.Signs.{packed}
use Rattle.table_entries.proofs.Packed.{as_number, as_list}
use Rattle.table_entries.proofs.signs.Signs.note.Goals as goal

pub returns-in-Some-clause-ok : goal.returns-in-Some-clause-ok
returns-in-Some-clause-ok c =
    let ks = c.args.kinds.now in
    let is : packed ks c.args.sign.items ≡ Some c.in-Some.code = ap (packed ks) (sym c.deref.ensures.value) ∙ sym c.packed.ensures ∙ c.in-Some.is in
    on_ok_weaker c.note_number.result (as_number ks c.args.self.now c.args.sign.items c.args.act c.note_number.new.acts c.in-Some.code is) c.note_number.ensures.ok

pub returns-in-None-clause-ok : goal.returns-in-None-clause-ok
returns-in-None-clause-ok c =
    let ks = c.args.kinds.now in
    let is : packed ks c.args.sign.items ≡ None = ap (packed ks) (sym c.deref.ensures.value) ∙ sym c.packed.ensures ∙ c.in-None.is in
    on_ok_weaker c.note_list.result (as_list ks c.args.self.now c.args.sign.items c.args.act c.note_list.new.acts is) c.note_list.ensures.ok

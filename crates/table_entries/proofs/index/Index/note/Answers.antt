use Rattle.std.proofs.Common.{◌≡◌, map, ap, subst, ◌∙◌}
use Rattle.std.proofs.lemmas.Result.{on_ok_weaker}
use Rattle.table_entries.specs.Signs.{signs_of}
use Rattle.table_entries.specs.Index.{IsIndex}
use Rattle.table_entries.specs.View.{match_of, entry_of}
use Rattle.table_entries.proofs.Noted.{signs_pushed, priorities_pushed}
use Rattle.table_entries.proofs.index.Index.note.Goals as goal

pub returns-in_ok-act-in-Signs-clause-ok : goal.returns-in_ok-act-in-Signs-clause-ok
returns-in_ok-act-in-Signs-clause-ok c =
    let sign : c.in_ok-sign-in-Signs.sign.items ≡ signs_of (map match_of c.args.e.now.keys.items) = c.in_ok-sign-in-Signs.ensures ∙ ap (λ l. signs_of (map match_of l)) c.deref.ensures.value in
    on_ok_weaker c.note.result (λ noted t es h at. signs_pushed c.args.kinds.now c.in-Signs.signs c.note.new.self c.in_ok-sign-in-Signs.sign.items c.in_ok-act-in-Signs.act (entry_of c.args.e.now) sign c.in_ok-act-in-Signs.ensures noted t es (subst (IsIndex c.args.kinds.now t es) c.in-Signs.is h)) c.note.ensures.ok

pub returns-in-Priorities-clause-ok : goal.returns-in-Priorities-clause-ok
returns-in-Priorities-clause-ok c =
    on_ok_weaker c.note_priority.result (λ noted t es h at. priorities_pushed c.in-Priorities.places c.note_priority.new.places c.args.place (entry_of c.args.e.now) noted t es (subst (IsIndex c.args.kinds.now t es) c.in-Priorities.is h) at) c.note_priority.ensures.ok

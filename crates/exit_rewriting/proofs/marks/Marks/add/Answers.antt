use Rattle.std.proofs.Common.{ℕ, List, is_some, string_bytes, sym, ap, ◌∙◌}
use Rattle.indexmap.proofs.CallerLemmas.{insert_entry-new}
use Rattle.p4_types.specs.Kept.{at_name}
use Rattle.p4_types.proofs.Numbered.{same_keys}
use Rattle.exit_rewriting.proofs.Marking.{add_new, add_again, not_there}
use Rattle.exit_rewriting.proofs.marks.Marks.add.Goals as goal

pub returns-then-contains_key : goal.returns-then-contains_key
returns-then-contains_key c =
    add_again c.args.self.now (string_bytes c.args.name) c.args.mark
    (ap (λ (x : List ℕ). is_some (at_name c.args.self.now.table.entries x)) (sym c.as_str.ensures.value) ∙ sym c.contains_key.ensures ∙ c.if-contains_key.true)

pub returns : goal.returns
returns c =
    let out = ap (λ (x : List ℕ). is_some (at_name c.args.self.now.table.entries x)) (sym c.as_str.ensures.value) ∙ sym c.contains_key.ensures ∙ c.if-contains_key.false in
    add_new c.args.self.now (record { table = c.insert.new.self }) c.args.name c.args.mark
    (c.in_ok-insert.ensures.entries ∙ insert_entry-new same_keys c.args.self.now.table c.args.name c.args.mark (not_there _ out))

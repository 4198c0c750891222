use Rattle.std.proofs.Common.{ℕ, List, is_some, string_bytes, refl, sym, ap, ◌∙◌}
use Rattle.indexmap.proofs.CallerLemmas.{insert_entry-new}
use Rattle.p4_types.specs.Kept.{at_name}
use Rattle.p4_types.proofs.Numbered.{same_keys, no_one, gains_new, gains_again}
use Rattle.p4_types.proofs.numbers.Group.add.Goals as goal

pub returns-then-contains_key : goal.returns-then-contains_key
returns-then-contains_key c =
    gains_again c.args.self.now _ (string_bytes c.args.name) refl c.in_ok-next.ensures
    (ap (λ (x : List ℕ). is_some (at_name c.args.self.now.numbers.entries x)) (sym c.as_str.ensures.value) ∙ sym c.contains_key.ensures ∙ c.if-contains_key.true) refl

pub returns : goal.returns
returns c =
    let out = ap (λ (x : List ℕ). is_some (at_name c.args.self.now.numbers.entries x)) (sym c.as_str.ensures.value) ∙ sym c.contains_key.ensures ∙ c.if-contains_key.false in
    gains_new c.args.self.now _ (string_bytes c.args.name) refl c.in_ok-next.ensures c.args.name refl
    (c.in_ok-insert.ensures.entries ∙ insert_entry-new same_keys c.args.self.now.numbers c.args.name c.args.self.now.next (no_one _ out))

use Rattle.std.proofs.Common.{ℕ, List, is_some, string_bytes, refl, sym, ap, ◌∙◌}
use Rattle.indexmap.proofs.CallerLemmas.{insert_entry-new}
use Rattle.p4_types.specs.Kept.{at_name}
use Rattle.p4_types.proofs.Numbered.{same_keys, no_one}
use Rattle.lower_reads.proofs.Places.{new_place, old_place}
use Rattle.lower_reads.proofs.declarations.add_place.Goals as goal

pub returns-then-contains_key : goal.returns-then-contains_key
returns-then-contains_key c = λ x.
    old_place c.args.out.now.entries c.args.place (string_bytes c.args.name) x
    (ap (λ (y : List ℕ). is_some (at_name c.args.out.now.entries y)) (sym c.as_str.ensures.value) ∙ sym c.contains_key.ensures ∙ c.if-contains_key.true)

pub returns : goal.returns
returns c = λ x.
    let out = ap (λ (y : List ℕ). is_some (at_name c.args.out.now.entries y)) (sym c.as_str.ensures.value) ∙ sym c.contains_key.ensures ∙ c.if-contains_key.false in
    new_place c.args.out.now.entries _ c.args.name c.args.place (string_bytes c.args.name) x refl
    (c.in_ok-insert.ensures.entries ∙ insert_entry-new same_keys c.args.out.now c.args.name c.args.place (no_one _ out))

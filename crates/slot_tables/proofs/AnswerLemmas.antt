-- What a table answers is what it chooses.
use Rattle.std.proofs.Common.{◌≡◌, List, Bool, true, false, sym, ap, ap₂, ◌∙◌}
use Rattle.std.specs.Bool.{OnTrue, OnFalse}
use Rattle.bit_values.specs.Bits.{Word}
use Rattle.table_entries.specs.Entries.{Act}
use Rattle.p4_tables.specs.State.{Held}
use Rattle.p4_tables.specs.Answers.{IsHit, IsMiss}
use Rattle.p4_tables.proofs.Applied.{miss_chosen}
use Rattle.slot_statements.specs.Tables.{NumberedOutcome}
use Rattle.slot_tables.specs.Choices.{number_name, numbered_from, choice_in}

abbrev pub outcome_of : Act → Bool → NumberedOutcome
outcome_of a hit = record { action = a.action; args = a.args; hit = hit }

pub answered : (h : Held) (ks : List Word) (a : Act) (hit : Bool) → OnTrue hit (IsHit h ks a) → OnFalse hit (IsMiss h ks a) → outcome_of a hit ≡ choice_in h ks
answered h ks a true is miss =
    ap₂ (λ n (ws : List Word). (let o : NumberedOutcome = record { action = n; args = ws; hit = true } in o)) is.action is.args ∙ sym (ap (numbered_from h.default) (is.first number_name))
answered h ks a false hits is = ap (λ (b : Act). outcome_of b false) is.default ∙ sym (ap (numbered_from h.default) (miss_chosen h ks a is number_name))

use Rattle.json_values.proofs.TextLemmas.{number_is, is_number}
use Rattle.json_values.proofs.laws.number_texts_are_tokens.Goals as goal

pub returns : goal.returns
returns c = λ text value. (number_is text value, λ h. is_number text value h.0 h.1)

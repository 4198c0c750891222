use Rattle.linked_properties.proofs.Words.{found_views_are_words}
use Rattle.linked_properties.proofs.laws.found_views_are_words.Goals as goal

pub returns : goal.returns
returns c = found_views_are_words

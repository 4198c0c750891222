use Rattle.p4_meaning.proofs.Seen.{value_seen, width_seen}
use Rattle.p4_meaning.proofs.ScopeWords.{behind_all_tops, behind_all_locals}
use Rattle.p4_meaning.specs.Under.{behind_tops}
use Rattle.p4_meaning.proofs.laws.names_stand_for_what_is_seen.Goals as goal

pub returns-clause-value : goal.returns-clause-value
returns-clause-value c = λ sc e w s h k. value_seen sc s h k e w

pub returns-clause-width : goal.returns-clause-width
returns-clause-width c = λ sc e s h k. width_seen sc s h k e

pub returns-clause-constants : goal.returns-clause-constants
returns-clause-constants c = λ sc h ts ls. behind_all_locals (behind_tops sc ts) ls (behind_all_tops sc ts h)

use Rattle.run_headline.proofs.Claims.{linked_programs_keep_the_claims}
use Rattle.run_headline.proofs.laws.linked_programs_keep_the_claims.Goals as goal

pub returns : goal.returns
returns c = linked_programs_keep_the_claims c.reaches_is_exact.ensures

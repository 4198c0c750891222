use Rattle.faultless_programs.proofs.FoundViews.{found_views_are_own}
use Rattle.faultless_programs.proofs.laws.found_views_are_own.Goals as goal

pub returns : goal.returns
returns c = found_views_are_own

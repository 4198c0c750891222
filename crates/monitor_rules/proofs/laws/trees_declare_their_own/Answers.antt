-- All names.
use Rattle.monitor_rules.proofs.Declares.{declares_its_own}
use Rattle.monitor_rules.proofs.laws.trees_declare_their_own.Goals as goal

pub returns : goal.returns
returns c = declares_its_own

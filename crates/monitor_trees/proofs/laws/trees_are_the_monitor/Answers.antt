-- All promises on trees as parts.
use Rattle.monitor_trees.proofs.Promised.{gives_monitor}
use Rattle.monitor_trees.proofs.laws.trees_are_the_monitor.Goals as goal

pub returns : goal.returns
returns c g i r q or oq = gives_monitor g i r q or oq

use Rattle.lower_lists.proofs.expressions.+each_has.Given as goal

abbrev pub decreases-each_has : goal.decreases-each_has
decreases-each_has l = l.many

use Rattle.lower_lists.proofs.expressions.+one_equal.Given as goal

abbrev pub decreases-one_equal : goal.decreases-one_equal
decreases-one_equal l = l.many

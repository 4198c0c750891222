use Rattle.control_file.proofs.KeyLemmas.{key_is_new, key_was_seen}
use Rattle.control_file.proofs.keys.add.Goals as goal

pub returns-then-not-added-clause-fresh : goal.returns-then-not-added-clause-fresh
returns-then-not-added-clause-fresh c = λ other. rw c.in_ok-path.ensures (key_was_seen c.args.path.now c.args.seen.now.keys c.in_ok-numbers.field-0 c.args.key.now c.in_ok-numbers.ensures c.in_ok-added.added c.in_ok-added.ensures.added c.if-not-added.true)

pub returns-clause-fresh : goal.returns-clause-fresh
returns-clause-fresh c = key_is_new c.args.path.now c.args.seen.now.keys c.in_ok-numbers.field-0 c.args.key.now c.in_ok-numbers.ensures c.in_ok-added.added c.in_ok-added.ensures.added c.if-not-added.false

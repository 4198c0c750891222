use Rattle.table_entries.proofs.Packed.{stands_alone, stands_not}
use Rattle.table_entries.proofs.signs.joined.Goals as goal

pub returns-then-before-eq0 : goal.returns-then-before-eq0
returns-then-before-eq0 c = stands_alone c.args.width c.args.number c.args.before c.if-width-ge128.true c.ranges.number.fits c.if-before-eq0.true

pub returns-else-before-eq0 : goal.returns-else-before-eq0
returns-else-before-eq0 c = stands_not c.args.width c.args.number c.args.before c.if-width-ge128.true c.if-before-eq0.false

use Rattle.std.proofs.Common.{◌≡◌, IfOk, subst}
use Rattle.lower_code.proofs.expressions.as_bit.Goals as goal

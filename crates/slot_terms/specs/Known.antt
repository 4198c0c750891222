-- Expressions whose paths have places, and faults that only others have. Read `Places` before it.
use Rattle.std.specs.Prelude.{◌≡◌, Bool, true, false, ◌&&◌, is_some}
use Rattle.p4_tree.specs.Tree.{Expr, num, flag, path, valid, applied, error_name, negation, inversion, opposite, binary, conditional, slice, cast}
use Rattle.slot_terms.specs.Places.{Places, place_at, header_number}
use Rattle.slot_terms.specs.declared.fault.Fault.{Fault}
use Rattle.slot_terms.specs.declared.fault.Fault.TheVariants as fault

-- each path in an expression has a place, and each header a number
abbrev pub is_known : Places → Expr → Bool
is_known m (num p n) = true
is_known m (flag p b) = true
is_known m (path p x) = is_some (place_at m.rows x)
is_known m (valid p x) = is_some (header_number m.headers x)
is_known m (applied p t h) = true
is_known m (error_name p x) = true
is_known m (negation p a) = is_known m a
is_known m (inversion p a) = is_known m a
is_known m (opposite p a) = is_known m a
is_known m (binary p op a b) = is_known m a && is_known m b
is_known m (conditional p t a b) = is_known m t && (is_known m a && is_known m b)
is_known m (slice p a h l) = is_known m a
is_known m (cast p t a) = is_known m a

-- `Unknown` says that the expression is not known; want of memory may come of any
abbrev pub Blames : Places → Expr → Fault → Type 0
Blames m e fault.NoMemory = Unit {0}
Blames m e fault.Unknown = is_known m e ≡ false

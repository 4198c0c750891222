-- What an expression is in P4, and what its place wants of it, is what it is in the property's language.
use Rattle.std.proofs.Common.{◌≡◌, Bool, true, false, refl, ap, ap₂, ◌∙◌}
use Rattle.std.specs.Prelude.{if◌then◌else◌}
use Rattle.indus_tree.specs.declared.tree.Op.{Op}
use Rattle.indus_tree.specs.declared.tree.Op.TheVariants as op
use Rattle.indus_scopes.specs.Kinds as from
use Rattle.indus_scopes.specs.declared.kind.Kind.{Kind}
use Rattle.indus_scopes.specs.declared.kind.Kind.TheVariants.{Number, Truth, Unknown}
use Rattle.p4_scopes.specs.Kinds as to
use Rattle.p4_scopes.specs.declared.kind.Kind as target
use Rattle.p4_scopes.specs.declared.kind.Kind.TheVariants as t
use Rattle.lowered_code.specs.Expressions.{lowered_op}

abbrev pub K : Kind → target.Kind
K (Number w) = t.Number w
K Truth = t.Truth
K Unknown = t.Unknown

pub open_same : (a : Kind) → to.is_open (K a) ≡ from.is_open a
open_same (Number w) = refl
open_same Truth = refl
open_same Unknown = refl

pub join_same : (a b : Kind) → to.join (K a) (K b) ≡ K (from.join a b)
join_same a b = ap (λ x. if x then K b else K a) (open_same a) ∙ go (from.is_open a)
  where
    go : (x : Bool) → (if x then K b else K a) ≡ K (if x then b else a)
    go true = refl
    go false = refl

pub number_same : (a : Kind) → to.as_number (K a) ≡ K (from.as_number a)
number_same (Number w) = refl
number_same Truth = refl
number_same Unknown = refl

pub width_same : (a : Kind) → to.width_in (K a) ≡ from.width_in a
width_same (Number w) = refl
width_same Truth = refl
width_same Unknown = refl

pub widths_same : (a b : Kind) → to.widths_differ (K a) (K b) ≡ from.widths_differ a b
widths_same (Number v) (Number w) = refl
widths_same (Number v) Truth = refl
widths_same (Number v) Unknown = refl
widths_same Truth b = refl
widths_same Unknown b = refl

pub kinds_same : (a b : Kind) → to.kinds_differ (K a) (K b) ≡ from.kinds_differ a b
kinds_same (Number v) (Number w) = refl
kinds_same (Number v) Truth = refl
kinds_same (Number v) Unknown = refl
kinds_same Truth (Number w) = refl
kinds_same Truth Truth = refl
kinds_same Truth Unknown = refl
kinds_same Unknown b = refl

-- ---- operators

pub like_same : (a b : Kind) → to.as_number (to.join (K a) (K b)) ≡ K (from.as_number (from.join a b))
like_same a b = ap to.as_number (join_same a b) ∙ number_same (from.join a b)

pub binary_same : (o : Op) (a b : Kind) → to.binary_kind (lowered_op o) (K a) (K b) ≡ K (from.binary_kind o a b)
binary_same op.Mul a b = like_same a b
binary_same op.Add a b = like_same a b
binary_same op.Sub a b = like_same a b
binary_same op.BitAnd a b = like_same a b
binary_same op.BitXor a b = like_same a b
binary_same op.BitOr a b = like_same a b
binary_same op.Shl a b = number_same a
binary_same op.Shr a b = number_same a
binary_same op.Less a b = refl
binary_same op.LessEq a b = refl
binary_same op.More a b = refl
binary_same op.MoreEq a b = refl
binary_same op.Equal a b = refl
binary_same op.Differ a b = refl
binary_same op.Both a b = refl
binary_same op.Either a b = refl

like_wants : (a b w : Kind) → to.like_want (K a) (K b) (K w) ≡ K (from.like_want a b w)
like_wants a b w =
    ap to.as_number
    (ap (λ x. to.join x (K w)) (ap₂ to.join (number_same a) (number_same b) ∙ join_same (from.as_number a) (from.as_number b))
    ∙ join_same (from.join (from.as_number a) (from.as_number b)) w)
    ∙ number_same (from.join (from.join (from.as_number a) (from.as_number b)) w)

pub left_same : (o : Op) (a b w : Kind) → to.left_want (lowered_op o) (K a) (K b) (K w) ≡ K (from.left_want o a b w)
left_same op.Mul a b w = like_wants a b w
left_same op.Add a b w = like_wants a b w
left_same op.Sub a b w = like_wants a b w
left_same op.BitAnd a b w = like_wants a b w
left_same op.BitXor a b w = like_wants a b w
left_same op.BitOr a b w = like_wants a b w
left_same op.Shl a b w = like_same a w
left_same op.Shr a b w = like_same a w
left_same op.Less a b w = like_same a b
left_same op.LessEq a b w = like_same a b
left_same op.More a b w = like_same a b
left_same op.MoreEq a b w = like_same a b
left_same op.Equal a b w = join_same a b
left_same op.Differ a b w = join_same a b
left_same op.Both a b w = refl
left_same op.Either a b w = refl

pub right_same : (o : Op) (a b w : Kind) → to.right_want (lowered_op o) (K a) (K b) (K w) ≡ K (from.right_want o a b w)
right_same op.Mul a b w = like_wants a b w
right_same op.Add a b w = like_wants a b w
right_same op.Sub a b w = like_wants a b w
right_same op.BitAnd a b w = like_wants a b w
right_same op.BitXor a b w = like_wants a b w
right_same op.BitOr a b w = like_wants a b w
right_same op.Shl a b w = like_same b (Number 128)
right_same op.Shr a b w = like_same b (Number 128)
right_same op.Less a b w = like_same a b
right_same op.LessEq a b w = like_same a b
right_same op.More a b w = like_same a b
right_same op.MoreEq a b w = like_same a b
right_same op.Equal a b w = join_same a b
right_same op.Differ a b w = join_same a b
right_same op.Both a b w = refl
right_same op.Either a b w = refl

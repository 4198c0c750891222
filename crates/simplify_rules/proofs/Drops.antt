-- The rule `drop_neutral`: its answer may stand for what it is offered.
use Rattle.std.proofs.Common.{arith, ◌≡◌, ℕ, Bool, true, false, cond, ◌&&◌, nat_eq, Some, None, refl, sym, ◌∙◌}
use Rattle.std.proofs.lemmas.Bool.Decides.{nat_tests}
use Rattle.p4_tree.specs.Tree.{Expr, num, binary}
use Rattle.p4_tree.specs.declared.statement.Op.{Op}
use Rattle.p4_tree.specs.declared.statement.Op.TheVariants.{Mul, Add, Sub, Shl, Shr, BitXor, BitOr}
use Rattle.rewriting_laws.specs.OwnWidths.{has_own}
use Rattle.rewriting_laws.specs.Standing.{MayStandFor, StandsIfAny}
use Rattle.rewriting_laws.proofs.Closed.{broken}
use Rattle.simplify_rules.specs.declared.operand.Known.{Known}
use Rattle.simplify_rules.specs.Known.{known_in}
use Rattle.simplify_rules.specs.DropNeutral.{right_neutral, left_neutral, is_neutral, drop_neutral}
use Rattle.simplify_rules.proofs.RightNeutral.{keeps_left, neutral_of, drops_right}
use Rattle.simplify_rules.proofs.LeftNeutral.{keeps_right, drops_left}

right_is : (op : Op) (b : Known) → is_neutral (right_neutral op) b ≡ (keeps_left op && is_neutral (Some (neutral_of op)) b)
right_is Add b = refl
right_is Sub b = refl
right_is BitOr b = refl
right_is BitXor b = refl
right_is Shl b = refl
right_is Shr b = refl
right_is Mul b = refl
right_is _ b = refl

left_is : (op : Op) (a : Known) → is_neutral (left_neutral op) a ≡ (keeps_right op && is_neutral (Some (neutral_of op)) a)
left_is Add a = refl
left_is BitOr a = refl
left_is BitXor a = refl
left_is Mul a = refl
left_is _ a = refl

value_is : (m n : ℕ) → nat_eq m n ≡ true → m ≡ n
value_is m n h = grind (arith, nat_tests, h)

right_drops : (p : ℕ) (op : Op) (a b : Expr) (k : Bool) → keeps_left op ≡ k → (k && is_neutral (Some (neutral_of op)) (known_in b)) ≡ true → has_own a ≡ true → MayStandFor (binary p op a b) a
right_drops p op a b false k h o = broken (sym h)
right_drops p op a (num q n) true k h o = drops_right p q op a n k (value_is n.value (neutral_of op) h) o
right_drops p op a _ true k h o = broken (sym h)

left_drops : (p : ℕ) (op : Op) (a b : Expr) (k : Bool) → keeps_right op ≡ k → (k && is_neutral (Some (neutral_of op)) (known_in a)) ≡ true → has_own b ≡ true → MayStandFor (binary p op a b) b
left_drops p op a b false k h o = broken (sym h)
left_drops p op (num q n) b true k h o = drops_left p q op b n k (value_is n.value (neutral_of op) h) o
left_drops p op _ b true k h o = broken (sym h)

binary_drops : (p : ℕ) (op : Op) (a b : Expr) (r x l y : Bool) → is_neutral (right_neutral op) (known_in b) ≡ r → has_own a ≡ x → is_neutral (left_neutral op) (known_in a) ≡ l → has_own b ≡ y → StandsIfAny (binary p op a b) (cond (r && x) (Some a) (cond (l && y) (Some b) None))
binary_drops p op a b true true l y i j u v = right_drops p op a b (keeps_left op) refl (sym (right_is op (known_in b)) ∙ i) j
binary_drops p op a b true false true true i j u v = left_drops p op a b (keeps_right op) refl (sym (left_is op (known_in a)) ∙ u) v
binary_drops p op a b true false true false i j u v = tt
binary_drops p op a b true false false y i j u v = tt
binary_drops p op a b false x true true i j u v = left_drops p op a b (keeps_right op) refl (sym (left_is op (known_in a)) ∙ u) v
binary_drops p op a b false x true false i j u v = tt
binary_drops p op a b false x false y i j u v = tt

pub drop_neutral_stands : (e : Expr) → StandsIfAny e (drop_neutral e)
drop_neutral_stands (binary p op a b) = binary_drops p op a b (is_neutral (right_neutral op) (known_in b)) (has_own a) (is_neutral (left_neutral op) (known_in a)) (has_own b) refl refl refl refl
drop_neutral_stands _ = tt

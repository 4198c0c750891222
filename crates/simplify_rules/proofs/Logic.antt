-- What is taken of `&&` and `||` may stand for the whole.
use Rattle.std.proofs.Common.{arith, ◌≡◌, ℕ, ◌≤◌, ◌<◌, ◌^◌, Bool, true, false, cond, nat_eq, Some, None, refl, sym, ap, ap₂, ◌∙◌, subst}
use Rattle.std.proofs.lemmas.Bool.Decides.{nat_tests}
use Rattle.bit_values.specs.Bits.{Word, word}
use Rattle.bit_values.specs.Widths.{bit, holds, cast_word}
use Rattle.rule_tests.specs.Tests.{IsFine}
use Rattle.p4_meaning.specs.Store.{Store}
use Rattle.p4_meaning.specs.Value.{value_of}
use Rattle.p4_tree.specs.Tree.{Expr, flag, binary, conditional}
use Rattle.p4_tree.specs.declared.statement.Op.{Op}
use Rattle.p4_tree.specs.declared.statement.Op.TheVariants.{Both, Either}
use Rattle.p4_scopes.specs.Scopes.{Scope, own}
use Rattle.p4_scopes.specs.declared.kind.Kind.{Kind}
use Rattle.p4_scopes.specs.declared.kind.Kind.TheVariants.{Truth}
use Rattle.p4_statement_rules.specs.Expressions.{expr_tests}
use Rattle.p4_typing_laws.specs.Soundness.{kind_width, IsSound}
use Rattle.p4_typing_laws.specs.Widths.{Shows}
use Rattle.p4_typing_laws.proofs.StaticWidths.{shown_sound}
use Rattle.p4_typing_laws.proofs.KindWidths.{is_value}
use Rattle.rewriting_laws.specs.Standing.{MayStandFor, StandsIfAny}
use Rattle.rewriting_laws.specs.OwnWidths.{has_own}
use Rattle.simplify_rules.specs.FoldChoice.{taken, logic_folded, fold_choice}
use Rattle.simplify_rules.specs.declared.operand.Known.TheVariants.{Truth as Says}
use Rattle.rewriting_laws.proofs.Closed.{closed}
use Rattle.rewriting_laws.proofs.Refits.{Fit, same_kind, fits_there, refit, kept_value, either_is, nonzero_width, no_error_name, sound_reads}
use Rattle.simplify_rules.proofs.Choices.{choice_folded}
use Rattle.p4_scopes.specs.Kinds.{is_open}
use Rattle.p4_typing_laws.proofs.ValueWidths.{fine_has_static}

-- a word of one bit is the bit that it holds
bit_is : (w : Word) → w.width ≡ 1 → w.value < 2 → bit (holds w) ≡ w
bit_is w e h = go (nat_eq w.value 1) refl
  where
    go : (t : Bool) → nat_eq w.value 1 ≡ t → word 1 (cond (nat_eq w.value 1) 1 0) ≡ w
    go true q = ap₂ word (sym e) (ap (λ (b : Bool). cond b 1 0) q ∙ (let one : w.value ≡ 1 = grind (arith, nat_tests, q) in sym one))
    go false q = ap₂ word (sym e) (ap (λ (b : Bool). cond b 1 0) q ∙ (let none : w.value ≡ 0 = grind (arith, nat_tests, q, h) in sym none))

-- a false left operand of `&&`, and a true one of `||`, is what is taken
pub both_false : (p q : ℕ) (b : Expr) → MayStandFor (binary p Both (flag q false) b) (flag q false)
both_false p q b =
    record {
      spelled = λ c. tt;
      own = λ h. refl;
      typed = λ s so. record { wherever = λ w f. record { kind = refl; named = refl; fine = f.0 } };
      valued = λ s so want cap f st shows w. refl;
    }

pub either_true : (p q : ℕ) (b : Expr) → MayStandFor (binary p Either (flag q true) b) (flag q true)
either_true p q b =
    record {
      spelled = λ c. tt;
      own = λ h. refl;
      typed = λ s so. record { wherever = λ w f. record { kind = refl; named = refl; fine = f.0 } };
      valued = λ s so want cap f st shows w. refl;
    }

truth_is : (s : Scope) (so : IsSound s) (b : Expr) → has_own b ≡ true → IsFine (expr_tests s Truth b) → own s b ≡ Truth
truth_is s so b o f = (let rs = sound_reads s so in same_kind (own s b) Truth (closed s rs b Truth f o) refl (fits_there s rs b Truth f))

right_typed : (p q : ℕ) (v : Bool) (b : Expr) → has_own b ≡ true → (s : Scope) → IsSound s → (w : Kind) → Fit Truth w → IsFine (expr_tests s Truth b) → (own s b ≡ Truth) × IsFine (expr_tests s w b)
right_typed p q v b o s so w fit f =
    (let rs = sound_reads s so in
    let k = truth_is s so b o f in
    (k, refit s rs b Truth w (closed s rs b Truth f o) (subst (λ (j : Kind). Fit j w) (sym k) fit) f))

value_is_bit : (s : Scope) → IsSound s → (b : Expr) → has_own b ≡ true → IsFine (expr_tests s Truth b) → (st : Store) → Shows s st → (w : ℕ) → bit (holds (cast_word 1 (value_of b 1 st))) ≡ value_of b w st
value_is_bit s so b o f st shows w =
    let rs = shown_sound s st shows in
    let x = closed s rs b Truth f o in
    let k = truth_is s so b o f in
    let one : kind_width (own s b) ≡ 1 = ap kind_width k in
    let cap : kind_width Truth ≤ 128 = omega arith in
    let kept = kept_value s b Truth cap f x st shows 1 w (sym one) in
    let same = ap holds kept in
    let is = value_bit s b cap f st shows w x one in
    ap bit same ∙ bit_is (value_of b w st) is.0 is.1
  where
    value_bit : (s : Scope) (b : Expr) → kind_width Truth ≤ 128 → IsFine (expr_tests s Truth b) → (st : Store) → Shows s st → (w : ℕ) → is_open (own s b) ≡ false → kind_width (own s b) ≡ 1 → ((value_of b w st).width ≡ 1) × ((value_of b w st).value < 2)
    value_bit s b cap f st shows w x one =
        (let k = kind_width (own s b) in
        let some = nonzero_width (own s b) x in
        let static = either_is k 1 some in
        let is = (fine_has_static s Truth cap b f).served st shows w (either_is k w some ∙ sym static) in
        let wide = is.width ∙ (static ∙ one) in
        (wide, subst (λ (n : ℕ). (value_of b w st).value < 2 ^ n) wide is.word.in_range))

pub both_true : (p q : ℕ) (b : Expr) → has_own b ≡ true → MayStandFor (binary p Both (flag q true) b) b
both_true p q b o =
    record {
      spelled = λ c. c.1;
      own = λ h. o;
      typed = λ s so. record { wherever = λ w f. (let t = right_typed p q true b o s so w f.0 f.1.1.1 in record { kind = t.0; named = no_error_name s b (ap is_value t.0); fine = t.1 }) };
      valued = λ s so want cap f st shows w. sym (value_is_bit s so b o f.1.1.1 st shows w);
    }

pub either_false : (p q : ℕ) (b : Expr) → has_own b ≡ true → MayStandFor (binary p Either (flag q false) b) b
either_false p q b o =
    record {
      spelled = λ c. c.1;
      own = λ h. o;
      typed = λ s so. record { wherever = λ w f. (let t = right_typed p q false b o s so w f.0 f.1.1.1 in record { kind = t.0; named = no_error_name s b (ap is_value t.0); fine = t.1 }) };
      valued = λ s so want cap f st shows w. sym (value_is_bit s so b o f.1.1.1 st shows w);
    }

-- ---- the rule

if_taken : (e b : Expr) → (has_own b ≡ true → MayStandFor e b) → StandsIfAny e (taken b)
if_taken e b h = go (has_own b) refl
  where
    go : (t : Bool) → has_own b ≡ t → StandsIfAny e (cond t (Some b) None)
    go true o = h o
    go false o = tt

logic_stands : (p q : ℕ) (op : Op) (v : Bool) (b : Expr) → StandsIfAny (binary p op (flag q v) b) (logic_folded (Says v) op (flag q v) b)
logic_stands p q Both true b = if_taken (binary p Both (flag q true) b) b (both_true p q b)
logic_stands p q Both false b = both_false p q b
logic_stands p q Either true b = either_true p q b
logic_stands p q Either false b = if_taken (binary p Either (flag q false) b) b (either_false p q b)
logic_stands p q _ true b = tt
logic_stands p q _ false b = tt

pub fold_choice_stands : (e : Expr) → StandsIfAny e (fold_choice e)
fold_choice_stands (conditional p (flag q v) a b) = choice_folded p q v a b
fold_choice_stands (binary p op (flag q v) b) = logic_stands p q op v b
fold_choice_stands _ = tt

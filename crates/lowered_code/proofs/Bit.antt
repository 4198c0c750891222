-- A truth value as one bit.
use Rattle.std.proofs.Common.{◌≡◌, ℕ, List, Bool, true, false, refl, sym, ap, pow_pos}
use Rattle.std.proofs.Math.Nat.{mod-lt}
use Rattle.bit_values.specs.Bits.{Word, word, cast as cast_number}
use Rattle.bit_values.specs.Widths.{bit, cast_word}
use Rattle.bit_values.proofs.BitsLemmas.{cast_of_small}
use Rattle.p4_tree.specs.Tree as p4
use Rattle.p4_tree.specs.declared.statement.PTy.TheVariants as type
use Rattle.p4_meaning.specs.Store.{Store, read}
use Rattle.p4_meaning.specs.Value as p4v
use Rattle.monitor_laws.specs.Trees.{number}
use Rattle.lowered_code.specs.Expressions.{as_bit}

-- it is a written bit, bits that are read as a truth value, or a cast
module _ (P : p4.Expr → p4.Expr → Type 0) (written : (p : ℕ) (b : Bool) → P (p4.flag p b) (number 1 (bit b).value)) (stands : (p q : ℕ) (x : List (List ℕ)) → P (p4.cast p type.Bool (p4.path q x)) (p4.path q x))
    (made : (e : p4.Expr) → P e (p4.cast 0 (type.Bit 1) e)) where
  pub by_bit_form : (e : p4.Expr) → P e (as_bit e)
  by_bit_form (p4.flag p b) = written p b
  by_bit_form (p4.num p n) = made (p4.num p n)
  by_bit_form (p4.path p names) = made (p4.path p names)
  by_bit_form (p4.valid p header) = made (p4.valid p header)
  by_bit_form (p4.applied p x b) = made (p4.applied p x b)
  by_bit_form (p4.error_name p x) = made (p4.error_name p x)
  by_bit_form (p4.negation p a) = made (p4.negation p a)
  by_bit_form (p4.inversion p a) = made (p4.inversion p a)
  by_bit_form (p4.opposite p a) = made (p4.opposite p a)
  by_bit_form (p4.binary p op a b) = made (p4.binary p op a b)
  by_bit_form (p4.conditional p t a b) = made (p4.conditional p t a b)
  by_bit_form (p4.slice p a high low) = made (p4.slice p a high low)
  by_bit_form (p4.cast p type.Bool (p4.path q x)) = stands p q x
  by_bit_form (p4.cast p type.Bool (p4.num q n)) = made (p4.cast p type.Bool (p4.num q n))
  by_bit_form (p4.cast p type.Bool (p4.flag q b)) = made (p4.cast p type.Bool (p4.flag q b))
  by_bit_form (p4.cast p type.Bool (p4.valid q header)) = made (p4.cast p type.Bool (p4.valid q header))
  by_bit_form (p4.cast p type.Bool (p4.applied q x b)) = made (p4.cast p type.Bool (p4.applied q x b))
  by_bit_form (p4.cast p type.Bool (p4.error_name q x)) = made (p4.cast p type.Bool (p4.error_name q x))
  by_bit_form (p4.cast p type.Bool (p4.negation q a)) = made (p4.cast p type.Bool (p4.negation q a))
  by_bit_form (p4.cast p type.Bool (p4.inversion q a)) = made (p4.cast p type.Bool (p4.inversion q a))
  by_bit_form (p4.cast p type.Bool (p4.opposite q a)) = made (p4.cast p type.Bool (p4.opposite q a))
  by_bit_form (p4.cast p type.Bool (p4.binary q op a b)) = made (p4.cast p type.Bool (p4.binary q op a b))
  by_bit_form (p4.cast p type.Bool (p4.conditional q t a b)) = made (p4.cast p type.Bool (p4.conditional q t a b))
  by_bit_form (p4.cast p type.Bool (p4.slice q a high low)) = made (p4.cast p type.Bool (p4.slice q a high low))
  by_bit_form (p4.cast p type.Bool (p4.cast q t a)) = made (p4.cast p type.Bool (p4.cast q t a))
  by_bit_form (p4.cast p (type.Bit w) e) = made (p4.cast p (type.Bit w) e)
  by_bit_form (p4.cast p (type.Named y) e) = made (p4.cast p (type.Named y) e)

cast_twice : (u : Word) → cast_word 1 (cast_word 1 u) ≡ cast_word 1 u
cast_twice u = ap (word 1) (cast_of_small 1 (cast_number 1 u.value) (mod-lt u.value (pow_pos 1)))

written_bit : (b : Bool) → cast_word 1 (word 1 (cast_number 1 (bit b).value)) ≡ cast_word 1 (bit b)
written_bit true = refl
written_bit false = refl

-- it has the value of the truth value
pub bit_value : (s : Store) (e : p4.Expr) → cast_word 1 (p4v.value_of (as_bit e) 1 s) ≡ cast_word 1 (p4v.value_of e 0 s)
bit_value s =
    by_bit_form (λ e f. cast_word 1 (p4v.value_of f 1 s) ≡ cast_word 1 (p4v.value_of e 0 s)) (λ p b. written_bit b) (λ p q x. sym (cast_twice (read s x))) (λ e. cast_twice (p4v.value_of e 0 s))

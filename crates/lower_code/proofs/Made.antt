-- A truth value as one bit, with a cast and without.
use Rattle.std.proofs.Common.{◌≡◌, ℕ, Option, Some, None, refl, sym}
use Rattle.std.proofs.lemmas.Option.{none-some, same_Some}
use Rattle.p4_tree.specs.Tree as p4
use Rattle.p4_tree.specs.declared.statement.PTy.TheVariants as type
use Rattle.lowered_code.specs.Expressions.{as_bit}
use Rattle.lower_code.specs.Bits.{bit_again, path_again}

-- what is read, in the place of what is cast to a truth value
read_again : (p : ℕ) (e t : p4.Expr) → Some t ≡ path_again e → t ≡ as_bit (p4.cast p type.Bool e)
read_again p (p4.num q n) t h = absurd (none-some t (sym h))
read_again p (p4.flag q v) t h = absurd (none-some t (sym h))
read_again p (p4.path q x) t h = same_Some t (p4.path q x) h
read_again p (p4.valid q x) t h = absurd (none-some t (sym h))
read_again p (p4.applied q x v) t h = absurd (none-some t (sym h))
read_again p (p4.error_name q x) t h = absurd (none-some t (sym h))
read_again p (p4.negation q f) t h = absurd (none-some t (sym h))
read_again p (p4.inversion q f) t h = absurd (none-some t (sym h))
read_again p (p4.opposite q f) t h = absurd (none-some t (sym h))
read_again p (p4.binary q o f v) t h = absurd (none-some t (sym h))
read_again p (p4.conditional q r f v) t h = absurd (none-some t (sym h))
read_again p (p4.slice q f i l) t h = absurd (none-some t (sym h))
read_again p (p4.cast q r f) t h = absurd (none-some t (sym h))

-- what is cast, where nothing is read
read_kept : (p : ℕ) (e : p4.Expr) → None ≡ path_again e → p4.cast 0 (type.Bit 1) (p4.cast p type.Bool e) ≡ as_bit (p4.cast p type.Bool e)
read_kept p (p4.num q n) h = refl
read_kept p (p4.flag q v) h = refl
read_kept p (p4.path q x) h = absurd (none-some (p4.path q x) h)
read_kept p (p4.valid q x) h = refl
read_kept p (p4.applied q x v) h = refl
read_kept p (p4.error_name q x) h = refl
read_kept p (p4.negation q f) h = refl
read_kept p (p4.inversion q f) h = refl
read_kept p (p4.opposite q f) h = refl
read_kept p (p4.binary q o f v) h = refl
read_kept p (p4.conditional q r f v) h = refl
read_kept p (p4.slice q f i l) h = refl
read_kept p (p4.cast q r f) h = refl

-- what stands without a cast
pub again : (e t : p4.Expr) → Some t ≡ bit_again e → t ≡ as_bit e
again (p4.num p n) t h = absurd (none-some t (sym h))
again (p4.flag p v) t h = same_Some t (as_bit (p4.flag p v)) h
again (p4.path p x) t h = absurd (none-some t (sym h))
again (p4.valid p x) t h = absurd (none-some t (sym h))
again (p4.applied p x v) t h = absurd (none-some t (sym h))
again (p4.error_name p x) t h = absurd (none-some t (sym h))
again (p4.negation p f) t h = absurd (none-some t (sym h))
again (p4.inversion p f) t h = absurd (none-some t (sym h))
again (p4.opposite p f) t h = absurd (none-some t (sym h))
again (p4.binary p o f v) t h = absurd (none-some t (sym h))
again (p4.conditional p r f v) t h = absurd (none-some t (sym h))
again (p4.slice p f i l) t h = absurd (none-some t (sym h))
again (p4.cast p type.Bool e) t h = read_again p e t h
again (p4.cast p (type.Bit w) e) t h = absurd (none-some t (sym h))
again (p4.cast p (type.Named x) e) t h = absurd (none-some t (sym h))

-- what is cast
pub kept : (e : p4.Expr) → None ≡ bit_again e → p4.cast 0 (type.Bit 1) e ≡ as_bit e
kept (p4.num p n) h = refl
kept (p4.flag p v) h = absurd (none-some (as_bit (p4.flag p v)) h)
kept (p4.path p x) h = refl
kept (p4.valid p x) h = refl
kept (p4.applied p x v) h = refl
kept (p4.error_name p x) h = refl
kept (p4.negation p f) h = refl
kept (p4.inversion p f) h = refl
kept (p4.opposite p f) h = refl
kept (p4.binary p o f v) h = refl
kept (p4.conditional p r f v) h = refl
kept (p4.slice p f i l) h = refl
kept (p4.cast p type.Bool e) h = read_kept p e h
kept (p4.cast p (type.Bit w) e) h = refl
kept (p4.cast p (type.Named x) e) h = refl

-- What may stand behind an expression, so that reading ends there.
use Rattle.std.proofs.Common.{◌≡◌, ℕ, suc, ◌+◌, ◌≤◌, ◌<◌, false, Option, Some, None, refl, sym, ap, subst, arith}
use Rattle.std.proofs.lemmas.Bool.{ne_eqb}
use Rattle.std.specs.Prelude.{◌==◌}
use Rattle.lex_words.specs.declared.key.Key.{Key}
use Rattle.lex_words.specs.declared.key.Key.TheVariants.{Question, Dot, Open, Close, SquareOpen, Times}
use Rattle.lex_words.specs.Seen.{Lexeme, key, key_in, at_key}
use Rattle.lex_words.specs.Brackets.{left_by}
use Rattle.p4_tree.specs.declared.statement.Op.{Op}
use Rattle.p4_spelling.specs.Operators.{op_at}
use Rattle.p4_expressions.specs.Reading.{op_in, square_at}

-- what stands there begins no slice, no call and no further name of a path
pub record Calm (o : Option Lexeme) : Type 0 where
  pub square : at_key SquareOpen o ≡ false
  pub round : at_key Open o ≡ false
  pub dot : at_key Dot o ≡ false

-- no operator stands there that joins on a level from 1 to l
abbrev pub NoJoin : ℕ → Option Lexeme → Type 0
NoJoin l o = (m : ℕ) → m < l → op_in (m + 1) (key_in o) ≡ None

-- what stands there is not joined to an expression of level l
pub record Ends (l : ℕ) (o : Option Lexeme) : Type 0 where
  pub joins : NoJoin l o
  pub question : 11 ≤ l → at_key Question o ≡ false
  pub square : at_key SquareOpen o ≡ false

-- what stands there is not joined on a level below l, and not by `? :`
pub record Free (l : ℕ) (o : Option Lexeme) : Type 0 where
  pub joins : (m : ℕ) → m + 1 < l → op_in (m + 1) (key_in o) ≡ None
  pub question : 11 ≤ l → at_key Question o ≡ false
  pub square : at_key SquareOpen o ≡ false

pub ends_free : (l : ℕ) (o : Option Lexeme) → Ends l o → Free l o
ends_free l o e = record { joins = λ m lt. e.joins m (omega arith); question = e.question; square = e.square }

-- on a level below
pub free_below : (l : ℕ) (o : Option Lexeme) → Free (suc l) o → Ends l o
free_below l o f = record { joins = λ m lt. f.joins m (omega arith); question = λ le. f.question (omega arith); square = f.square }

-- nothing stands there
pub nothing_ends : (l : ℕ) → Ends l None
nothing_ends l = record { joins = λ m lt. refl; question = λ le. refl; square = refl }

-- a key that joins nothing
pub key_ends : (l : ℕ) (k : Key) → op_at k ≡ None → at_key Question (Some (key k)) ≡ false → at_key SquareOpen (Some (key k)) ≡ false → Ends l (Some (key k))
key_ends l k e q square = record { joins = λ m lt. rw e refl; question = λ le. q; square = square }

-- the key goes on with no expression
pub record Closes (k : Key) : Type 0 where
  pub joins : op_at k ≡ None
  pub question : at_key Question (Some (key k)) ≡ false
  pub square : at_key SquareOpen (Some (key k)) ≡ false
  pub dot : at_key Dot (Some (key k)) ≡ false
  pub round : at_key Open (Some (key k)) ≡ false

pub ends_at : (l : ℕ) (o : Option Lexeme) (k : Key) → o ≡ Some (key k) → Ends l (Some (key k)) → Ends l o
ends_at l o k e f = subst (Ends l) (sym e) f

pub free_at : (l : ℕ) (o : Option Lexeme) (k : Key) → o ≡ Some (key k) → Free l (Some (key k)) → Free l o
free_at l o k e f = subst (Free l) (sym e) f

-- ---- what joins

abbrev level_of : Option (ℕ × Op) → ℕ
level_of None = 0
level_of (Some x) = x.0

levels_low : (k : Key) → level_of (op_at k) ≤ 10
levels_low Times = omega arith
levels_low _ = omega arith

-- operators join below `? :`
pub op-low : (k : Key) (l : ℕ) (op : Op) → op_at k ≡ Some (suc l, op) → (l == 10) ≡ false
op-low k l op e = ne_eqb l 10 (λ x. omega (arith, x, levels_low k, ap level_of e))

pub op-calm : (k : Key) (x : ℕ × Op) → op_at k ≡ Some x → Calm (Some (key k))
op-calm SquareOpen x e = absurd cc
op-calm Open x e = absurd cc
op-calm Dot x e = absurd cc
op-calm _ x e = record { square = refl; round = refl; dot = refl }

pub op-no_question : (k : Key) (x : ℕ × Op) → op_at k ≡ Some x → at_key Question (Some (key k)) ≡ false
op-no_question Question x e = absurd cc
op-no_question _ x e = refl

-- an operator is of one level
pub op_free : (l : ℕ) (k : Key) (op : Op) → op_at k ≡ Some (suc l, op) → Free (suc l) (Some (key k))
op_free l k op e = record {
  joins = λ m lt. let f : (suc l == m + 1) ≡ false = ne_eqb (suc l) (m + 1) (λ y. omega (arith, y)) in rw (e, f) refl;
  question = λ le. op-no_question k _ e;
  square = (op-calm k _ e).square;
}

-- what joins is no round bracket
pub op-plain : (k : Key) (x : ℕ × Op) (b : ℕ) → op_at k ≡ Some x → left_by (key k) b ≡ Some b
op-plain Open x b e = absurd cc
op-plain Close x b e = absurd cc
op-plain _ x b e = refl

pub square-plain : (k : Key) (x : ℕ × Unit {0}) (b : ℕ) → square_at k ≡ Some x → left_by (key k) b ≡ Some b
square-plain Open x b e = absurd cc
square-plain Close x b e = absurd cc
square-plain _ x b e = refl

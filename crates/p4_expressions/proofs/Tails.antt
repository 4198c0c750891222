-- The path with which an expression ends, and what may stand behind it.
use Rattle.std.proofs.Common.{◌≡◌, ℕ, true, false, List, Option, Some, None, ap, ◌∙◌}
use Rattle.lex_words.specs.declared.key.Key.{Key}
use Rattle.lex_words.specs.declared.key.Key.TheVariants.{Dot, Open}
use Rattle.lex_words.specs.Seen.{Lexeme, key, at_key}
use Rattle.p4_tree.specs.Tree.{Expr}
use Rattle.p4_spelling.specs.Expressions.{SpellsPostfix, a_number, a_true, a_false, an_error, a_path, a_validity, an_application, in_brackets, a_slice, Spells, a_postfix, a_not, an_inversion, an_opposite, a_cast, tighter, joined, a_conditional}
use Rattle.p4_expressions.specs.Reading.{is_called}

-- the last operand, where it is a path
abbrev pub operand_path : {p : ℕ} {t : Expr} {u : List Lexeme} → SpellsPostfix p t u → Option (List (List ℕ))
operand_path (a_number n) = None
operand_path a_true = None
operand_path a_false = None
operand_path (an_error x) = None
operand_path (a_path {xs = xs} s) = Some xs
operand_path (a_validity s) = None
operand_path (an_application t hit) = None
operand_path (in_brackets s) = None
operand_path (a_slice high low h l s) = None

abbrev pub last_path : {l p : ℕ} {t : Expr} {u : List Lexeme} → Spells l p t u → Option (List (List ℕ))
last_path (a_postfix s) = operand_path s
last_path (a_not s) = last_path s
last_path (an_inversion s) = last_path s
last_path (an_opposite s) = last_path s
last_path (a_cast t s) = last_path s
last_path (tighter s) = last_path s
last_path (joined k op o s t) = last_path t
last_path (a_conditional s t r) = last_path r

-- what stands there goes on with no path: not with a further name, and not with a call of its last name
abbrev pub Quiet : Option (List (List ℕ)) → Option Lexeme → Type 0
Quiet None o = Unit {0}
Quiet (Some xs) o = (at_key Dot o ≡ false) × (at_key Open o ≡ true → is_called xs ≡ false)

-- neither `.` nor `(` stands there
pub quiet_by : (x : Option (List (List ℕ))) (o : Option Lexeme) → at_key Dot o ≡ false → at_key Open o ≡ false → Quiet x o
quiet_by None o dot round = tt
quiet_by (Some xs) o dot round = (dot, λ e. absurd (let f : true ≡ false = (let g = round in cc) in cc))

pub quiet_key : (x : Option (List (List ℕ))) (o : Option Lexeme) (k : Key) → o ≡ Some (key k) → at_key Dot (Some (key k)) ≡ false → at_key Open (Some (key k)) ≡ false → Quiet x o
quiet_key x o k w dot round = quiet_by x o (ap (at_key Dot) w ∙ dot) (ap (at_key Open) w ∙ round)

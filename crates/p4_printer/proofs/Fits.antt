-- Lexemes of P4 that open no more round brackets than there is room for.
use Rattle.std.proofs.Common.{◌≡◌, ℕ, zero, suc, ◌-◌, ◌≤◌, Bool, true, false, List, [], ◌∷◌, ◌++◌, map, Some, refl, ap, ◌∙◌, arith, append_assoc}
use Rattle.std.specs.List.{list_all}
use Rattle.std.proofs.lemmas.Bool.{and_from}
use Rattle.std.proofs.lemmas.List.Folds.{list_all-append}
use Rattle.lex_text.specs.declared.token.Words.TheVariants.{P4}
use Rattle.lex_words.specs.declared.key.Key.{Key}
use Rattle.lex_words.specs.declared.key.Key.TheVariants as k
use Rattle.lex_words.specs.Seen.{Lexeme, name, number, key}
use Rattle.lex_words.specs.Written.{IsKeyOf, a_reserved_word, a_mark, IsLexeme, AreLexemes, may_stand}
use Rattle.lex_words.specs.Brackets.{left_by, left}
use Rattle.lex_text.specs.declared.literal.Literal.{Literal}
use Rattle.p4_tree.specs.Height.{highest}
use Rattle.p4_tree.specs.declared.statement.Op.{Op}
use Rattle.p4_tree.specs.declared.statement.Op.TheVariants as op
use Rattle.p4_spelling.specs.Words.{outcome_name}
use Rattle.p4_printer.specs.Layout.{in_row, each_after, separated}
use Rattle.p4_printer.specs.Expressions.{key_of_op, key_of_flag}
use Rattle.p4_printer.specs.CanSpell.{IsName, EachCan, SomeCan}

-- P4 has the lexemes, and where m brackets may be opened before them, none is one too many, and m may be opened behind them
pub record Fits (m : ℕ) (u : List Lexeme) : Type 0 where
  pub fair : AreLexemes P4 u
  pub keeps : (v : List Lexeme) → left m (u ++ v) ≡ left m v
  -- none is an inclusion
  pub free : list_all (may_stand false) u ≡ true

-- ---- lexeme by lexeme

are_join : (u v : List Lexeme) → AreLexemes P4 u → AreLexemes P4 v → AreLexemes P4 (u ++ v)
are_join [] v a b = b
are_join (x ∷ u) v a b = (a.0, are_join u v a.1 b)

free_join : (u v : List Lexeme) → list_all (may_stand false) u ≡ true → list_all (may_stand false) v ≡ true → list_all (may_stand false) (u ++ v) ≡ true
free_join u v x y = list_all-append (may_stand false) u v ∙ and_from (list_all (may_stand false) u) (list_all (may_stand false) v) x y

pub nil : {m : ℕ} → Fits m []
nil = record { fair = tt; keeps = λ v. refl; free = refl }

pub joins : {m : ℕ} {u v : List Lexeme} → Fits m u → Fits m v → Fits m (u ++ v)
joins {m = m} {u = u} {v = v} f g = record { fair = are_join u v f.fair g.fair; keeps = λ w. ap (left m) (append_assoc u v w) ∙ f.keeps (v ++ w) ∙ g.keeps w; free = free_join u v f.free g.free }

-- a key of P4 that is no round bracket
pub record IsPlain (x : Key) : Type 0 where
  pub fair : IsKeyOf P4 x
  pub keeps : (m : ℕ) → left_by (key x) m ≡ Some m

pub on : {m : ℕ} {u : List Lexeme} {x : Key} → IsPlain x → Fits m u → Fits m (key x ∷ u)
on {m = m} {u = u} {x = x} i f = record { fair = (i.fair, f.fair); keeps = λ v. rw (i.keeps m) (f.keeps v); free = f.free }

pub on_name : {m : ℕ} {u : List Lexeme} {x : List ℕ} → IsName x → Fits m u → Fits m (name x ∷ u)
on_name i f = record { fair = (i, f.fair); keeps = λ v. f.keeps v; free = f.free }

pub on_number : {m : ℕ} {u : List Lexeme} {n : Literal} → IsLexeme P4 (number n) → Fits m u → Fits m (number n ∷ u)
on_number i f = record { fair = (i, f.fair); keeps = λ v. f.keeps v; free = f.free }

pub bracket : {u w : List Lexeme} (m : ℕ) → 1 ≤ m → Fits (m - 1) u → Fits m w → Fits m (key k.Open ∷ (u ++ key k.Close ∷ w))
bracket zero le f g = absurd (omega arith)
bracket {u = u} {w = w} (suc m) le f g = record {
  fair = (a_mark refl refl, are_join u (key k.Close ∷ w) f.fair (a_mark refl refl, g.fair));
  keeps = λ v. ap (left m) (append_assoc u (key k.Close ∷ w) v) ∙ (let e : suc m - 1 ≡ m = omega arith in rw e at f.keeps) (key k.Close ∷ (w ++ v)) ∙ g.keeps v;
  free = free_join u (key k.Close ∷ w) f.free g.free;
}

pub outcome_is_name : (hit : Bool) → IsName (outcome_name hit)
outcome_is_name true = (refl, refl)
outcome_is_name false = (refl, refl)

-- ---- lists

-- what can be spelled, and is low
pub with_heights : {A : Type 0} (C : A → Type 0) (h : A → ℕ) (m : ℕ) (list : List A) → EachCan C list → highest h list ≤ m → EachCan (λ a. C a × (h a ≤ m)) list
with_heights C h m [] c low = tt
with_heights C h m (a ∷ rest) c low = ((c.0, omega (arith, low)), with_heights C h m rest c.1 (omega (arith, low)))

pub each_of : {A : Type 0} (C : A → Type 0) (list : List A) → SomeCan C list → EachCan C list
each_of C [] c = absurd c
each_of C (a ∷ rest) c = c

-- ---- keys

pub the_Header : IsPlain k.Header
the_Header = record { fair = a_reserved_word refl refl; keeps = λ m. refl }

pub the_Control : IsPlain k.Control
the_Control = record { fair = a_reserved_word refl refl; keeps = λ m. refl }

pub the_Bit : IsPlain k.Bit
the_Bit = record { fair = a_reserved_word refl refl; keeps = λ m. refl }

pub the_Bool : IsPlain k.Bool
the_Bool = record { fair = a_reserved_word refl refl; keeps = λ m. refl }

pub the_True : IsPlain k.True
the_True = record { fair = a_reserved_word refl refl; keeps = λ m. refl }

pub the_False : IsPlain k.False
the_False = record { fair = a_reserved_word refl refl; keeps = λ m. refl }

pub the_If : IsPlain k.If
the_If = record { fair = a_reserved_word refl refl; keeps = λ m. refl }

pub the_Else : IsPlain k.Else
the_Else = record { fair = a_reserved_word refl refl; keeps = λ m. refl }

pub the_In : IsPlain k.In
the_In = record { fair = a_reserved_word refl refl; keeps = λ m. refl }

pub the_Const : IsPlain k.Const
the_Const = record { fair = a_reserved_word refl refl; keeps = λ m. refl }

pub the_Typedef : IsPlain k.Typedef
the_Typedef = record { fair = a_reserved_word refl refl; keeps = λ m. refl }

pub the_Struct : IsPlain k.Struct
the_Struct = record { fair = a_reserved_word refl refl; keeps = λ m. refl }

pub the_Register : IsPlain k.Register
the_Register = record { fair = a_reserved_word refl refl; keeps = λ m. refl }

pub the_Parser : IsPlain k.Parser
the_Parser = record { fair = a_reserved_word refl refl; keeps = λ m. refl }

pub the_Out : IsPlain k.Out
the_Out = record { fair = a_reserved_word refl refl; keeps = λ m. refl }

pub the_Inout : IsPlain k.Inout
the_Inout = record { fair = a_reserved_word refl refl; keeps = λ m. refl }

pub the_State : IsPlain k.State
the_State = record { fair = a_reserved_word refl refl; keeps = λ m. refl }

pub the_Transition : IsPlain k.Transition
the_Transition = record { fair = a_reserved_word refl refl; keeps = λ m. refl }

pub the_Select : IsPlain k.Select
the_Select = record { fair = a_reserved_word refl refl; keeps = λ m. refl }

pub the_Default : IsPlain k.Default
the_Default = record { fair = a_reserved_word refl refl; keeps = λ m. refl }

pub the_Action : IsPlain k.Action
the_Action = record { fair = a_reserved_word refl refl; keeps = λ m. refl }

pub the_Table : IsPlain k.Table
the_Table = record { fair = a_reserved_word refl refl; keeps = λ m. refl }

pub the_Return : IsPlain k.Return
the_Return = record { fair = a_reserved_word refl refl; keeps = λ m. refl }

pub the_Exit : IsPlain k.Exit
the_Exit = record { fair = a_reserved_word refl refl; keeps = λ m. refl }

pub the_Error : IsPlain k.Error
the_Error = record { fair = a_reserved_word refl refl; keeps = λ m. refl }

pub the_V1Switch : IsPlain k.V1Switch
the_V1Switch = record { fair = a_reserved_word refl refl; keeps = λ m. refl }

pub the_Mask : IsPlain k.Mask
the_Mask = record { fair = a_mark refl refl; keeps = λ m. refl }

pub the_Both : IsPlain k.Both
the_Both = record { fair = a_mark refl refl; keeps = λ m. refl }

pub the_Either : IsPlain k.Either
the_Either = record { fair = a_mark refl refl; keeps = λ m. refl }

pub the_Equal : IsPlain k.Equal
the_Equal = record { fair = a_mark refl refl; keeps = λ m. refl }

pub the_Differ : IsPlain k.Differ
the_Differ = record { fair = a_mark refl refl; keeps = λ m. refl }

pub the_LessEq : IsPlain k.LessEq
the_LessEq = record { fair = a_mark refl refl; keeps = λ m. refl }

pub the_MoreEq : IsPlain k.MoreEq
the_MoreEq = record { fair = a_mark refl refl; keeps = λ m. refl }

pub the_ShiftLeft : IsPlain k.ShiftLeft
the_ShiftLeft = record { fair = a_mark refl refl; keeps = λ m. refl }

pub the_ShiftRight : IsPlain k.ShiftRight
the_ShiftRight = record { fair = a_mark refl refl; keeps = λ m. refl }

pub the_Concat : IsPlain k.Concat
the_Concat = record { fair = a_mark refl refl; keeps = λ m. refl }

pub the_BraceOpen : IsPlain k.BraceOpen
the_BraceOpen = record { fair = a_mark refl refl; keeps = λ m. refl }

pub the_BraceClose : IsPlain k.BraceClose
the_BraceClose = record { fair = a_mark refl refl; keeps = λ m. refl }

pub the_SquareOpen : IsPlain k.SquareOpen
the_SquareOpen = record { fair = a_mark refl refl; keeps = λ m. refl }

pub the_SquareClose : IsPlain k.SquareClose
the_SquareClose = record { fair = a_mark refl refl; keeps = λ m. refl }

pub the_Less : IsPlain k.Less
the_Less = record { fair = a_mark refl refl; keeps = λ m. refl }

pub the_More : IsPlain k.More
the_More = record { fair = a_mark refl refl; keeps = λ m. refl }

pub the_Semicolon : IsPlain k.Semicolon
the_Semicolon = record { fair = a_mark refl refl; keeps = λ m. refl }

pub the_Colon : IsPlain k.Colon
the_Colon = record { fair = a_mark refl refl; keeps = λ m. refl }

pub the_Comma : IsPlain k.Comma
the_Comma = record { fair = a_mark refl refl; keeps = λ m. refl }

pub the_Dot : IsPlain k.Dot
the_Dot = record { fair = a_mark refl refl; keeps = λ m. refl }

pub the_Assign : IsPlain k.Assign
the_Assign = record { fair = a_mark refl refl; keeps = λ m. refl }

pub the_Plus : IsPlain k.Plus
the_Plus = record { fair = a_mark refl refl; keeps = λ m. refl }

pub the_Minus : IsPlain k.Minus
the_Minus = record { fair = a_mark refl refl; keeps = λ m. refl }

pub the_Times : IsPlain k.Times
the_Times = record { fair = a_mark refl refl; keeps = λ m. refl }

pub the_And : IsPlain k.And
the_And = record { fair = a_mark refl refl; keeps = λ m. refl }

pub the_Or : IsPlain k.Or
the_Or = record { fair = a_mark refl refl; keeps = λ m. refl }

pub the_Caret : IsPlain k.Caret
the_Caret = record { fair = a_mark refl refl; keeps = λ m. refl }

pub the_Tilde : IsPlain k.Tilde
the_Tilde = record { fair = a_mark refl refl; keeps = λ m. refl }

pub the_Not : IsPlain k.Not
the_Not = record { fair = a_mark refl refl; keeps = λ m. refl }

pub the_Question : IsPlain k.Question
the_Question = record { fair = a_mark refl refl; keeps = λ m. refl }

pub the_op : (o : Op) → IsPlain (key_of_op o)
the_op op.Mul = the_Times
the_op op.Add = the_Plus
the_op op.Sub = the_Minus
the_op op.Concat = the_Concat
the_op op.Shl = the_ShiftLeft
the_op op.Shr = the_ShiftRight
the_op op.BitAnd = the_And
the_op op.BitXor = the_Caret
the_op op.BitOr = the_Or
the_op op.Less = the_Less
the_op op.LessEq = the_LessEq
the_op op.More = the_More
the_op op.MoreEq = the_MoreEq
the_op op.Equal = the_Equal
the_op op.Differ = the_Differ
the_op op.Both = the_Both
the_op op.Either = the_Either

pub the_flag : (b : Bool) → IsPlain (key_of_flag b)
the_flag true = the_True
the_flag false = the_False

-- ---- lists

module _ {A : Type 0} (m : ℕ) (C : A → Type 0) (f : A → List Lexeme) (go : (a : A) → C a → Fits m (f a)) where
  pub fits_each : (list : List A) → EachCan C list → Fits m (in_row (map f list))
  fits_each [] c = nil
  fits_each (a ∷ rest) c = joins (go a c.0) (fits_each rest c.1)

  fits_after : (list : List A) → EachCan C list → Fits m (each_after (key k.Comma) (map f list))
  fits_after [] c = nil
  fits_after (a ∷ rest) c = on the_Comma (joins (go a c.0) (fits_after rest c.1))

  pub fits_list : (list : List A) → EachCan C list → Fits m (separated (key k.Comma) (map f list))
  fits_list [] c = nil
  fits_list (a ∷ rest) c = joins (go a c.0) (fits_after rest c.1)

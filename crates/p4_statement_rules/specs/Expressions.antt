-- What is tested of expressions and types. Read `Kinds`, `Scopes` and `Uses` of `p4_scopes` before it and `Forms` after it.
use Rattle.std.specs.Prelude.{ℕ, List, [], ◌∷◌, Bool, true, false, not, ◌&&◌, ◌||◌, nat_eq, nat_lt, if◌then◌else◌, codes}
use Rattle.bit_values.specs.Operators.{Class, like, shift, joined, compare, logic}
use Rattle.lex_text.specs.Names.{same_text}
use Rattle.lex_text.specs.declared.literal.Literal.{Literal}
use Rattle.rule_tests.specs.Tests.{Tests, fine, test, both}
use Rattle.p4_tree.specs.Operators.{class_of}
use Rattle.p4_tree.specs.Tree.{Expr, num, flag, path, valid, applied, error_name, negation, inversion, opposite, binary, conditional, slice, cast}
use Rattle.p4_tree.specs.declared.statement.PTy.{PTy}
use Rattle.p4_tree.specs.declared.statement.PTy.TheVariants as type
use Rattle.p4_scopes.specs.Kinds.{join, as_number, as_value, kinds_differ, widths_differ, width_in, slice_width, joined_width, left_want, right_want, choice_want, index_want}
use Rattle.p4_scopes.specs.Scopes.{Stands, is_missing, value_kind, Scope, thing_in, cast_kind, own}
use Rattle.p4_scopes.specs.Uses.{is_scalar, reads, holds_header, is_table, is_type, is_constant}
use Rattle.p4_scopes.specs.declared.kind.Kind.{Kind}
use Rattle.p4_scopes.specs.declared.kind.Kind.TheVariants.{Number, Truth, Error}
use Rattle.p4_statement_rules.specs.declared.rule.ProgramRule.{ProgramRule}
use Rattle.p4_statement_rules.specs.declared.rule.ProgramRule.TheVariants.{NameTwice, NoSuchName, WidthDiffers, KindDiffers, WrongPlace, BadSize}

-- the number of the first token of an expression
abbrev pub expr_at : Expr → ℕ
expr_at (num p n) = p
expr_at (flag p b) = p
expr_at (path p x) = p
expr_at (valid p x) = p
expr_at (applied p t h) = p
expr_at (error_name p x) = p
expr_at (negation p a) = p
expr_at (inversion p a) = p
expr_at (opposite p a) = p
expr_at (binary p op a b) = p
expr_at (conditional p c a b) = p
expr_at (slice p a h l) = p
expr_at (cast p t a) = p

-- ---- names and types

-- a name is declared
abbrev pub new_tests : (at : ℕ) → Scope → List ℕ → Tests ProgramRule
new_tests p s x = test p NameTwice (not (is_missing (s (x ∷ []))))

-- a width that no number has
abbrev pub bad_width : ℕ → Bool
bad_width w = nat_eq w 0 || nat_lt 128 w

-- a type is one, and its width is right
abbrev pub type_tests : (at : ℕ) → Scope → PTy → Tests ProgramRule
type_tests p s (type.Bit w) = test p BadSize (bad_width w)
type_tests p s type.Bool = fine
type_tests p s (type.Named t) = both (test p NoSuchName (is_missing (s (t ∷ [])))) (test p KindDiffers (not (is_type (s (t ∷ [])))))

-- a type of single values
abbrev pub scalar_tests : (at : ℕ) → Scope → PTy → Tests ProgramRule
scalar_tests p s t = both (type_tests p s t) (test p KindDiffers (not (is_scalar (thing_in s t))))

-- a cast's type, which is named by no typedef
abbrev pub cast_type_tests : (at : ℕ) → PTy → Tests ProgramRule
cast_type_tests p (type.Bit w) = test p BadSize (bad_width w)
cast_type_tests p type.Bool = fine
cast_type_tests p (type.Named t) = test p KindDiffers true

-- ---- single forms

-- what is of kind k stands where w is wanted
abbrev pub fit_tests : (at : ℕ) (k w : Kind) → Tests ProgramRule
fit_tests p k w = both (test p WidthDiffers (widths_differ k w)) (test p KindDiffers (kinds_differ k w))

-- the written width of a number, else that of its place, else 0
abbrev pub number_width : Literal → Kind → ℕ
number_width n w = if nat_eq n.width 0 then width_in w else n.width

-- a number: it has a width, its own or that of its place
abbrev pub number_tests : (at : ℕ) → Literal → Kind → Tests ProgramRule
number_tests p n w = both (fit_tests p (Number n.width) w) (both (test p KindDiffers (nat_eq (number_width n w) 0)) (test p BadSize (nat_lt 128 n.width)))

-- a value is read by its path
abbrev pub read_tests : (at : ℕ) → Stands → Kind → Tests ProgramRule
read_tests p st w = both (test p NoSuchName (is_missing st)) (both (test p KindDiffers (not (reads st))) (fit_tests p (value_kind st) w))

-- whether a header is valid
abbrev pub valid_tests : (at : ℕ) → Stands → Kind → Tests ProgramRule
valid_tests p st w = both (test p NoSuchName (is_missing st)) (both (test p KindDiffers (not (holds_header st))) (fit_tests p Truth w))

-- the application of a table, where one may stand or not
abbrev pub applied_tests : (at : ℕ) → (may : Bool) → Stands → Tests ProgramRule
applied_tests p may st = both (test p NoSuchName (is_missing st)) (both (test p KindDiffers (not (is_table st))) (test p WrongPlace (not may)))

-- the errors of the parser that there are
abbrev pub is_error : List ℕ → Bool
is_error x = same_text x (codes "NoError") || same_text x (codes "PacketTooShort") || same_text x (codes "NoMatch")

abbrev pub error_tests : (at : ℕ) → List ℕ → Kind → Tests ProgramRule
error_tests p x w = both (test p NoSuchName (not (is_error x))) (fit_tests p Error w)

-- ---- operators

-- the standard metadata's error, which is compared with an error's name alone
abbrev pub is_held_error : Kind → Expr → Bool
is_held_error Error (path p x) = true
is_held_error _ _ = false

abbrev pub is_error_name : Expr → Bool
is_error_name (error_name p x) = true
is_error_name _ = false

abbrev pub ill_compared : (k : Kind) → (a b : Expr) → Bool
ill_compared k a b = is_held_error k a && not (is_error_name b)

-- two operands of these kinds
abbrev pub class_tests : (at : ℕ) → Class → (k l : Kind) → (a b : Expr) → Tests ProgramRule
class_tests p like k l a b = fine
class_tests p shift k l a b = fine
class_tests p joined k l a b = test p BadSize (not (nat_eq (width_in k) 0) && not (nat_eq (width_in l) 0) && nat_eq (joined_width (width_in k) (width_in l)) 0)
class_tests p compare k l a b = test p KindDiffers (ill_compared k a b || ill_compared l b a)
class_tests p logic k l a b = fine

-- a slice of what is of kind k
abbrev pub slice_tests : (at : ℕ) → Kind → (high low : ℕ) → Tests ProgramRule
slice_tests p k h l = test p BadSize (nat_eq (slice_width h l) 0 || (not (nat_eq (width_in k) 0) && not (nat_lt h (width_in k))))

-- a cast goes between numbers of any width, and between a truth value and a number of one bit
abbrev pub cast_differs : (to from : Kind) → Bool
cast_differs (Number w) Truth = not (nat_eq w 1)
cast_differs Truth (Number v) = not (nat_eq v 0) && not (nat_eq v 1)
cast_differs _ _ = false

-- ---- expressions

-- an expression of whose place w is wanted
abbrev pub expr_tests : Scope → (w : Kind) → Expr → Tests ProgramRule
expr_tests s w (num p n) = number_tests p n w
expr_tests s w (flag p b) = fit_tests p Truth w
expr_tests s w (path p x) = read_tests p (s x) w
expr_tests s w (valid p x) = valid_tests p (s x) w
expr_tests s w (applied p t h) = applied_tests p false (s (t ∷ []))
expr_tests s w (error_name p x) = error_tests p x w
expr_tests s w (negation p a) = both (fit_tests p Truth w) (expr_tests s Truth a)
expr_tests s w (inversion p a) = both (fit_tests p (as_number (own s a)) w) (expr_tests s (as_number (join (own s a) w)) a)
expr_tests s w (opposite p a) = both (fit_tests p (as_number (own s a)) w) (expr_tests s (as_number (join (own s a) w)) a)
expr_tests s w (binary p op a b) =
    both (fit_tests p (own s (binary p op a b)) w)
    (both (class_tests p (class_of op) (own s a) (own s b) a b)
    (both (expr_tests s (left_want op (own s a) (own s b) w) a)
    (expr_tests s (right_want op (own s a) (own s b) w) b)))
expr_tests s w (conditional p c a b) =
    both (fit_tests p (own s (conditional p c a b)) w)
    (both (expr_tests s Truth c)
    (both (expr_tests s (choice_want (own s a) (own s b) w) a)
    (expr_tests s (choice_want (own s a) (own s b) w) b)))
expr_tests s w (slice p a h l) =
    both (fit_tests p (Number (slice_width h l)) w)
    (both (slice_tests p (own s a) h l)
    (expr_tests s (as_number (own s a)) a))
expr_tests s w (cast p t a) =
    both (fit_tests p (cast_kind t) w)
    (both (cast_type_tests p t)
    (both (test p KindDiffers (cast_differs (cast_kind t) (own s a)))
    (expr_tests s (as_value (own s a)) a)))

-- an expression whose place gives no width
abbrev pub free_tests : Scope → Expr → Tests ProgramRule
free_tests s e = expr_tests s (as_value (own s e)) e

abbrev pub all_free : Scope → List Expr → Tests ProgramRule
all_free s [] = fine
all_free s (e ∷ es) = both (free_tests s e) (all_free s es)

-- an index
abbrev pub index_tests : Scope → Expr → Tests ProgramRule
index_tests s e = expr_tests s (index_want (own s e)) e

-- what is known before the program runs: numbers, truth values, constants, and operators, choices, casts and slices of
-- these
abbrev pub known_tests : Scope → Expr → Tests ProgramRule
known_tests s (num p n) = fine
known_tests s (flag p b) = fine
known_tests s (path p x) = test p KindDiffers (not (is_constant (s x)))
known_tests s (valid p x) = test p KindDiffers true
known_tests s (applied p t h) = test p KindDiffers true
known_tests s (error_name p x) = test p KindDiffers true
known_tests s (negation p a) = known_tests s a
known_tests s (inversion p a) = known_tests s a
known_tests s (opposite p a) = known_tests s a
known_tests s (binary p op a b) = both (known_tests s a) (known_tests s b)
known_tests s (conditional p c a b) = both (known_tests s c) (both (known_tests s a) (known_tests s b))
known_tests s (slice p a h l) = known_tests s a
known_tests s (cast p t a) = known_tests s a

-- a value of which k is wanted and that is known before the program runs
abbrev pub constant_tests : Scope → (k : Kind) → Expr → Tests ProgramRule
constant_tests s k e = both (expr_tests s k e) (known_tests s e)

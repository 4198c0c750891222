-- What is tested of calls. Arguments that are too few, too many or of another form break the rule at the call, an
-- argument that does not fit at the argument. Read `Forms` before it and `Statements` after it.
use Rattle.std.specs.Prelude.{ℕ, ◌+◌, ◌%◌, List, [], ◌∷◌, Bool, true, false, not, ◌&&◌, ◌||◌, nat_eq, nat_lt, length, Option, Some, None}
use Rattle.bit_values.specs.Bits.{cast as cast_number}
use Rattle.bit_values.specs.Widths.{sound_width}
use Rattle.lex_text.specs.declared.literal.Literal.{Literal}
use Rattle.rule_tests.specs.Tests.{Tests, fine, test, both}
use Rattle.p4_tree.specs.Tree.{Expr, num, Arg, one, many}
use Rattle.p4_scopes.specs.Kinds.{bits_in}
use Rattle.p4_scopes.specs.Scopes.{Stands, is_missing, value_kind, Scope, own}
use Rattle.p4_scopes.specs.Uses.{reads, holds_header, holds_standard, is_algorithm, is_writable, is_constant}
use Rattle.p4_scopes.specs.declared.kind.Kind.{Kind}
use Rattle.p4_scopes.specs.declared.kind.Kind.TheVariants.{Number, Truth}
use Rattle.p4_statement_rules.specs.Expressions.{fit_tests, expr_tests, all_free, index_tests}
use Rattle.p4_statement_rules.specs.Forms.{Form, unknown, ill, drops, digests, sums, extracts, emits, applies, reads_cell, writes_cell, makes_valid, acts, path_in}
use Rattle.p4_statement_rules.specs.declared.rule.ProgramRule.{ProgramRule}
use Rattle.p4_statement_rules.specs.declared.rule.ProgramRule.TheVariants.{NoSuchName, KindDiffers, NotWritable, BadSize}

-- ---- arguments

-- an argument or a list in braces where the other is wanted, or arguments that are too few or too many
abbrev pub misfit : (at : ℕ) → Tests ProgramRule
misfit p = test p KindDiffers true

-- as many members
abbrev pub as_many : {A B : Type 0} → List A → List B → Bool
as_many [] [] = true
as_many [] (b ∷ bs) = false
as_many (a ∷ xs) [] = false
as_many (a ∷ xs) (b ∷ bs) = as_many xs bs

-- an argument of which k is wanted
abbrev pub arg_tests : Scope → Kind → Arg → Tests ProgramRule
arg_tests s k (one p e) = expr_tests s k e
arg_tests s k (many p es) = misfit p

-- arguments of which these kinds are wanted
abbrev pub args_tests : Scope → List Kind → List Arg → Tests ProgramRule
args_tests s [] args = fine
args_tests s (k ∷ ks) [] = fine
args_tests s (k ∷ ks) (a ∷ args) = both (arg_tests s k a) (args_tests s ks args)

-- a path is written
abbrev pub target_tests : (at : ℕ) → Stands → Tests ProgramRule
target_tests p st = both (test p NoSuchName (is_missing st)) (both (test p KindDiffers (not (reads st))) (test p NotWritable (not (is_writable st))))

-- an argument that is a path, at its place, to a thing that passes a test
abbrev pub path_tests : (at : ℕ) → (fits : Stands → Bool) → Scope → Option (ℕ × List (List ℕ)) → Tests ProgramRule
path_tests p fits s None = misfit p
path_tests p fits s (Some x) = both (test x.0 NoSuchName (is_missing (s x.1))) (test x.0 KindDiffers (not (fits (s x.1))))

abbrev pub path_arg : (fits : Stands → Bool) → Scope → Arg → Tests ProgramRule
path_arg fits s (one p e) = path_tests p fits s (path_in e)
path_arg fits s (many p es) = misfit p

-- the one argument of a call
abbrev pub single_tests : (at : ℕ) → (fits : Stands → Bool) → Scope → List Arg → Tests ProgramRule
single_tests p fits s [] = misfit p
single_tests p fits s (a ∷ []) = path_arg fits s a
single_tests p fits s (a ∷ b ∷ rest) = misfit p

-- a call without arguments
abbrev pub none_tests : (at : ℕ) → List Arg → Tests ProgramRule
none_tests p [] = fine
none_tests p (a ∷ args) = misfit p

-- a call of an action that takes these kinds
abbrev pub action_args : (at : ℕ) → Scope → List Kind → List Arg → Tests ProgramRule
action_args p s ks args = both (test p KindDiffers (not (as_many ks args))) (args_tests s ks args)

-- ---- digests

-- the number that a literal is: a written width cuts it
abbrev pub literal_value : Literal → ℕ
literal_value n = cast_number (sound_width n.width) n.value

-- a receiver is a number below 2 ^ 32
abbrev pub receiver_tests : (at : ℕ) → Expr → Tests ProgramRule
receiver_tests p (num q n) = test q BadSize (not (nat_lt (literal_value n) 4294967296))
receiver_tests p _ = test p BadSize true

abbrev pub receiver_arg : Arg → Tests ProgramRule
receiver_arg (one p e) = receiver_tests p e
receiver_arg (many p es) = test p BadSize true

-- 1 to 9 values
abbrev pub digest_values : Scope → Arg → Tests ProgramRule
digest_values s (one p e) = misfit p
digest_values s (many p es) = both (test p BadSize (nat_eq (length es) 0 || nat_lt 9 (length es))) (all_free s es)

abbrev pub digest_tests : (at : ℕ) → Scope → List Arg → Tests ProgramRule
digest_tests p s (a ∷ b ∷ []) = both (receiver_arg a) (digest_values s b)
digest_tests p s _ = misfit p

-- ---- registers

-- the target of a read, which may be assigned, where k is read
abbrev pub cell_target : (at : ℕ) → Scope → Kind → Option (ℕ × List (List ℕ)) → Tests ProgramRule
cell_target p s k None = misfit p
cell_target p s k (Some x) = both (target_tests x.0 (s x.1)) (fit_tests x.0 (value_kind (s x.1)) k)

abbrev pub target_arg : Scope → Kind → Arg → Tests ProgramRule
target_arg s k (one p e) = cell_target p s k (path_in e)
target_arg s k (many p es) = misfit p

abbrev pub index_arg : Scope → Arg → Tests ProgramRule
index_arg s (one p e) = index_tests s e
index_arg s (many p es) = misfit p

abbrev pub cell_read : (at : ℕ) → Scope → Kind → List Arg → Tests ProgramRule
cell_read p s k (t ∷ i ∷ []) = both (target_arg s k t) (index_arg s i)
cell_read p s k _ = misfit p

abbrev pub cell_write : (at : ℕ) → Scope → Kind → List Arg → Tests ProgramRule
cell_write p s k (i ∷ v ∷ []) = both (index_arg s i) (arg_tests s k v)
cell_write p s k _ = misfit p

-- ---- checksums

-- the bits of the values of a list, over what fills 16 bits
abbrev pub bits_over : Scope → List Expr → ℕ
bits_over s [] = 0
bits_over s (e ∷ es) = (bits_in (own s e) + bits_over s es) % 16

-- the width of each value of a list is known
abbrev pub have_bits : Scope → List Expr → Bool
have_bits s [] = true
have_bits s (e ∷ es) = not (nat_eq (bits_in (own s e)) 0) && have_bits s es

-- a list of numbers and truth values that fill 16 bits each time, which is told where the width of each is known
abbrev pub summed_arg : Scope → Arg → Tests ProgramRule
summed_arg s (one p e) = misfit p
summed_arg s (many p es) = both (test p BadSize (have_bits s es && not (nat_eq (bits_over s es) 0))) (all_free s es)

-- a constant stands there, which is no field
abbrev pub is_known : Stands → Bool
is_known st = is_constant st && not (is_missing st)

-- a field of 16 bits that is compared with the checksum, or takes it
abbrev pub summed_path : (at : ℕ) → (verifies : Bool) → Stands → Tests ProgramRule
summed_path p true st = both (test p NoSuchName (is_missing st)) (test p KindDiffers (not (reads st) || is_known st))
summed_path p false st = target_tests p st

abbrev pub summed_field : (at : ℕ) → (verifies : Bool) → Scope → Option (ℕ × List (List ℕ)) → Tests ProgramRule
summed_field p v s None = misfit p
summed_field p v s (Some x) = both (summed_path x.0 v (s x.1)) (fit_tests x.0 (value_kind (s x.1)) (Number 16))

abbrev pub field_arg : (verifies : Bool) → Scope → Arg → Tests ProgramRule
field_arg v s (one p e) = summed_field p v s (path_in e)
field_arg v s (many p es) = misfit p

abbrev pub sum_tests : (at : ℕ) → (verifies : Bool) → Scope → List Arg → Tests ProgramRule
sum_tests p v s (c ∷ list ∷ field ∷ h ∷ []) = both (arg_tests s Truth c) (both (summed_arg s list) (both (field_arg v s field) (path_arg is_algorithm s h)))
sum_tests p v s _ = misfit p

-- ---- calls

-- what a call of this form wants of its arguments
abbrev pub form_tests : (at : ℕ) → Scope → Form → List Arg → Tests ProgramRule
form_tests p s unknown args = test p NoSuchName true
form_tests p s ill args = misfit p
form_tests p s drops args = single_tests p holds_standard s args
form_tests p s digests args = digest_tests p s args
form_tests p s (sums v) args = sum_tests p v s args
form_tests p s extracts args = single_tests p holds_header s args
form_tests p s emits args = single_tests p holds_header s args
form_tests p s applies args = none_tests p args
form_tests p s (reads_cell k) args = cell_read p s k args
form_tests p s (writes_cell k) args = cell_write p s k args
form_tests p s makes_valid args = none_tests p args
form_tests p s (acts ks) args = action_args p s ks args

-- Places don't count in what is tested of expressions and statements: the tests with all places 0 are those of the tree
-- with all places 0.
use Rattle.std.proofs.Common.{◌≡◌, ℕ, suc, List, [], ◌∷◌, Bool, true, false, length, map, refl, sym, ap, ◌∙◌, Option, Some, None}
use Rattle.std.specs.Option.{option_map}
use Rattle.bit_values.specs.Operators.{Class, like, shift, joined, compare, logic}
use Rattle.rule_tests.specs.Tests.{Tests, fine, test, both, IsFine}
use Rattle.p4_tree.specs.Operators.{class_of}
use Rattle.p4_tree.specs.Places.{plain, plain_arg, plain_stmt, plain_else, plain_stmts}
use Rattle.p4_tree.specs.Tree.{Expr, num, flag, path, valid, applied, error_name, negation, inversion, opposite, binary, conditional, slice, cast, Arg, one, many, Stmt, Stmts, MaybeStmt, nothing, block, var, assign, choice, return_, exit_, call, done, next, without, otherwise}
use Rattle.p4_tree.specs.declared.statement.PTy.{PTy}
use Rattle.p4_tree.specs.declared.statement.PTy.TheVariants as type
use Rattle.p4_scopes.specs.Kinds.{as_number, as_value, join, left_want, right_want, choice_want, index_want}
use Rattle.p4_scopes.specs.Scopes.{Stands, Scope, value_kind, kind_in, own}
use Rattle.p4_scopes.specs.Uses.{is_algorithm, holds_header, holds_standard}
use Rattle.p4_scopes.specs.declared.kind.Kind.{Kind}
use Rattle.p4_scopes.specs.declared.kind.Kind.TheVariants.{Number, Truth, Error, Unknown}
use Rattle.p4_statement_rules.specs.Expressions.{type_tests, scalar_tests, is_held_error, is_error_name, ill_compared, class_tests, cast_type_tests, expr_tests, free_tests, all_free, index_tests, known_tests, constant_tests}
use Rattle.p4_statement_rules.specs.Forms.{Form, unknown, ill, drops, digests, sums, extracts, emits, applies, reads_cell, writes_cell, makes_valid, acts, form_of, path_in}
use Rattle.p4_statement_rules.specs.Calls.{as_many, arg_tests, args_tests, path_tests, path_arg, single_tests, none_tests, receiver_tests, receiver_arg, digest_values, digest_tests, cell_target, target_arg, index_arg, cell_read, cell_write, bits_over, have_bits, summed_arg, summed_path, summed_field, field_arg, sum_tests, form_tests}
use Rattle.p4_statement_rules.specs.Statements.{negated_tests, if_tests, start_tests, var_tests, after, stmt_tests, block_tests, else_tests}
use Rattle.p4_statement_rules.specs.declared.rule.ProgramRule.{ProgramRule}
use Rattle.p4_statement_rules.specs.declared.rule.Part.{Part}
use Rattle.p4_declaration_rules.specs.Digests.{most_of_test, most_of_stmt, most_of_else, most_of}

-- ---- tests with all places 0

abbrev pub unplaced : Tests ProgramRule → Tests ProgramRule
unplaced fine = fine
unplaced (test p r b) = test 0 r b
unplaced (both a b) = both (unplaced a) (unplaced b)

pub fine_unplaced : (ts : Tests ProgramRule) → IsFine ts → IsFine (unplaced ts)
fine_unplaced fine f = tt
fine_unplaced (test p r b) f = f
fine_unplaced (both a b) f = (fine_unplaced a f.0, fine_unplaced b f.1)

pub fine_placed : (ts : Tests ProgramRule) → IsFine (unplaced ts) → IsFine ts
fine_placed fine f = tt
fine_placed (test p r b) f = f
fine_placed (both a b) f = (fine_placed a f.0, fine_placed b f.1)

-- the two have the same tests but for places
abbrev pub Same : Tests ProgramRule → Tests ProgramRule → Type 0
Same a b = unplaced a ≡ unplaced b

-- ---- expressions

pub own_plain : (s : Scope) (e : Expr) → own s e ≡ own s (plain e)
own_plain s (num p n) = refl
own_plain s (flag p b) = refl
own_plain s (path p x) = refl
own_plain s (valid p x) = refl
own_plain s (applied p t h) = refl
own_plain s (error_name p x) = refl
own_plain s (negation p a) = refl
own_plain s (inversion p a) = ap as_number (own_plain s a)
own_plain s (opposite p a) = ap as_number (own_plain s a)
own_plain s (binary p op a b) = let f = own_plain s a in let g = own_plain s b in cc
own_plain s (conditional p c a b) = let f = own_plain s a in let g = own_plain s b in cc
own_plain s (slice p a h l) = refl
own_plain s (cast p t a) = refl

held_plain : (k : Kind) (e : Expr) → is_held_error k e ≡ is_held_error k (plain e)
held_plain (Number w) e = refl
held_plain Truth e = refl
held_plain Unknown e = refl
held_plain Error (num p n) = refl
held_plain Error (flag p b) = refl
held_plain Error (path p x) = refl
held_plain Error (valid p x) = refl
held_plain Error (applied p t h) = refl
held_plain Error (error_name p x) = refl
held_plain Error (negation p a) = refl
held_plain Error (inversion p a) = refl
held_plain Error (opposite p a) = refl
held_plain Error (binary p op a b) = refl
held_plain Error (conditional p c a b) = refl
held_plain Error (slice p a h l) = refl
held_plain Error (cast p t a) = refl

named_plain : (e : Expr) → is_error_name e ≡ is_error_name (plain e)
named_plain (num p n) = refl
named_plain (flag p b) = refl
named_plain (path p x) = refl
named_plain (valid p x) = refl
named_plain (applied p t h) = refl
named_plain (error_name p x) = refl
named_plain (negation p a) = refl
named_plain (inversion p a) = refl
named_plain (opposite p a) = refl
named_plain (binary p op a b) = refl
named_plain (conditional p c a b) = refl
named_plain (slice p a h l) = refl
named_plain (cast p t a) = refl

ill_plain : (k : Kind) (a b : Expr) → ill_compared k a b ≡ ill_compared k (plain a) (plain b)
ill_plain k a b = let e = held_plain k a in let f = named_plain b in cc

class_plain : (p : ℕ) (c : Class) (k l : Kind) (a b : Expr) → Same (class_tests p c k l a b) (class_tests 0 c k l (plain a) (plain b))
class_plain p like k l a b = refl
class_plain p shift k l a b = refl
class_plain p joined k l a b = refl
class_plain p compare k l a b = let e = ill_plain k a b in let f = ill_plain l b a in cc
class_plain p logic k l a b = refl

cast_type_plain : (p : ℕ) (t : PTy) → Same (cast_type_tests p t) (cast_type_tests 0 t)
cast_type_plain p (type.Bit w) = refl
cast_type_plain p type.Bool = refl
cast_type_plain p (type.Named t) = refl

pub expr_plain : (s : Scope) (w : Kind) (e : Expr) → Same (expr_tests s w e) (expr_tests s w (plain e))
expr_plain s w (num p n) = refl
expr_plain s w (flag p b) = refl
expr_plain s w (path p x) = refl
expr_plain s w (valid p x) = refl
expr_plain s w (applied p t h) = refl
expr_plain s w (error_name p x) = refl
expr_plain s w (negation p a) = let e = expr_plain s Truth a in cc
expr_plain s w (inversion p a) = let e = own_plain s a in let f = expr_plain s (as_number (join (own s a) w)) a in cc
expr_plain s w (opposite p a) = let e = own_plain s a in let f = expr_plain s (as_number (join (own s a) w)) a in cc
expr_plain s w (binary p op a b) =
    let e = own_plain s a in
    let f = own_plain s b in
    let g = class_plain p (class_of op) (own s a) (own s b) a b in
    let h = expr_plain s (left_want op (own s a) (own s b) w) a in
    let i = expr_plain s (right_want op (own s a) (own s b) w) b in
    cc
expr_plain s w (conditional p c a b) =
    let e = own_plain s a in
    let f = own_plain s b in
    let g = expr_plain s Truth c in
    let h = expr_plain s (choice_want (own s a) (own s b) w) a in
    let i = expr_plain s (choice_want (own s a) (own s b) w) b in
    cc
expr_plain s w (slice p a h l) = let e = own_plain s a in let f = expr_plain s (as_number (own s a)) a in cc
expr_plain s w (cast p t a) =
    let e = own_plain s a in
    let f = cast_type_plain p t in
    let g = expr_plain s (as_value (own s a)) a in
    cc

pub free_plain : (s : Scope) (e : Expr) → Same (free_tests s e) (free_tests s (plain e))
free_plain s e = let f = own_plain s e in let g = expr_plain s (as_value (own s e)) e in cc

pub all_free_plain : (s : Scope) (es : List Expr) → Same (all_free s es) (all_free s (map plain es))
all_free_plain s [] = refl
all_free_plain s (e ∷ es) = let f = free_plain s e in let g = all_free_plain s es in cc

index_plain : (s : Scope) (e : Expr) → Same (index_tests s e) (index_tests s (plain e))
index_plain s e = let f = own_plain s e in let g = expr_plain s (index_want (own s e)) e in cc

known_plain : (s : Scope) (e : Expr) → Same (known_tests s e) (known_tests s (plain e))
known_plain s (num p n) = refl
known_plain s (flag p b) = refl
known_plain s (path p x) = refl
known_plain s (valid p x) = refl
known_plain s (applied p t h) = refl
known_plain s (error_name p x) = refl
known_plain s (negation p a) = known_plain s a
known_plain s (inversion p a) = known_plain s a
known_plain s (opposite p a) = known_plain s a
known_plain s (binary p op a b) = let f = known_plain s a in let g = known_plain s b in cc
known_plain s (conditional p c a b) = let f = known_plain s c in let g = known_plain s a in let h = known_plain s b in cc
known_plain s (slice p a h l) = known_plain s a
known_plain s (cast p t a) = known_plain s a

pub constant_plain : (s : Scope) (k : Kind) (e : Expr) → Same (constant_tests s k e) (constant_tests s k (plain e))
constant_plain s k e = let f = expr_plain s k e in let g = known_plain s e in cc

pub type_plain : (p : ℕ) (s : Scope) (t : PTy) → Same (type_tests p s t) (type_tests 0 s t)
type_plain p s (type.Bit w) = refl
type_plain p s type.Bool = refl
type_plain p s (type.Named t) = refl

pub scalar_plain : (p : ℕ) (s : Scope) (t : PTy) → Same (scalar_tests p s t) (scalar_tests 0 s t)
scalar_plain p s t = let e = type_plain p s t in cc

-- ---- arguments

-- the path with the place 0
abbrev pub at_none : ℕ × List (List ℕ) → ℕ × List (List ℕ)
at_none x = (0, x.1)

pub path_in_plain : (e : Expr) → path_in (plain e) ≡ option_map at_none (path_in e)
path_in_plain (num p n) = refl
path_in_plain (flag p b) = refl
path_in_plain (path p x) = refl
path_in_plain (valid p x) = refl
path_in_plain (applied p t h) = refl
path_in_plain (error_name p x) = refl
path_in_plain (negation p a) = refl
path_in_plain (inversion p a) = refl
path_in_plain (opposite p a) = refl
path_in_plain (binary p op a b) = refl
path_in_plain (conditional p c a b) = refl
path_in_plain (slice p a h l) = refl
path_in_plain (cast p t a) = refl

arg_plain : (s : Scope) (k : Kind) (b : Arg) → Same (arg_tests s k b) (arg_tests s k (plain_arg b))
arg_plain s k (one p e) = expr_plain s k e
arg_plain s k (many p es) = refl

args_plain : (s : Scope) (ks : List Kind) (bs : List Arg) → Same (args_tests s ks bs) (args_tests s ks (map plain_arg bs))
args_plain s [] bs = refl
args_plain s (k ∷ ks) [] = refl
args_plain s (k ∷ ks) (b ∷ bs) = let f = arg_plain s k b in let g = args_plain s ks bs in cc

pub many_plain : {A B : Type 0} (f : B → B) (ks : List A) (bs : List B) → as_many ks bs ≡ as_many ks (map f bs)
many_plain f [] [] = refl
many_plain f [] (b ∷ bs) = refl
many_plain f (k ∷ ks) [] = refl
many_plain f (k ∷ ks) (b ∷ bs) = many_plain f ks bs

path_tests_plain : (p : ℕ) (fits : Stands → Bool) (s : Scope) (x : Option (ℕ × List (List ℕ))) → Same (path_tests p fits s x) (path_tests 0 fits s (option_map at_none x))
path_tests_plain p fits s None = refl
path_tests_plain p fits s (Some x) = refl

path_arg_plain : (fits : Stands → Bool) (s : Scope) (b : Arg) → Same (path_arg fits s b) (path_arg fits s (plain_arg b))
path_arg_plain fits s (one p e) = path_tests_plain p fits s (path_in e) ∙ ap (λ x. unplaced (path_tests 0 fits s x)) (sym (path_in_plain e))
path_arg_plain fits s (many p es) = refl

single_plain : (p : ℕ) (fits : Stands → Bool) (s : Scope) (bs : List Arg) → Same (single_tests p fits s bs) (single_tests 0 fits s (map plain_arg bs))
single_plain p fits s [] = refl
single_plain p fits s (b ∷ []) = path_arg_plain fits s b
single_plain p fits s (b ∷ c ∷ r) = refl

none_plain : (p : ℕ) (bs : List Arg) → Same (none_tests p bs) (none_tests 0 (map plain_arg bs))
none_plain p [] = refl
none_plain p (b ∷ bs) = refl

receiver_plain : (p : ℕ) (e : Expr) → Same (receiver_tests p e) (receiver_tests 0 (plain e))
receiver_plain q (num p n) = refl
receiver_plain q (flag p b) = refl
receiver_plain q (path p x) = refl
receiver_plain q (valid p x) = refl
receiver_plain q (applied p t h) = refl
receiver_plain q (error_name p x) = refl
receiver_plain q (negation p a) = refl
receiver_plain q (inversion p a) = refl
receiver_plain q (opposite p a) = refl
receiver_plain q (binary p op a b) = refl
receiver_plain q (conditional p c a b) = refl
receiver_plain q (slice p a h l) = refl
receiver_plain q (cast p t a) = refl

receiver_arg_plain : (b : Arg) → Same (receiver_arg b) (receiver_arg (plain_arg b))
receiver_arg_plain (one p e) = receiver_plain p e
receiver_arg_plain (many p es) = refl

pub as_long : (es : List Expr) → length es ≡ length (map plain es)
as_long [] = refl
as_long (e ∷ es) = ap (λ (n : ℕ). suc n) (as_long es)

values_plain : (s : Scope) (b : Arg) → Same (digest_values s b) (digest_values s (plain_arg b))
values_plain s (one p e) = refl
values_plain s (many p es) = let f = as_long es in let g = all_free_plain s es in cc

digest_plain : (p : ℕ) (s : Scope) (bs : List Arg) → Same (digest_tests p s bs) (digest_tests 0 s (map plain_arg bs))
digest_plain p s [] = refl
digest_plain p s (b ∷ []) = refl
digest_plain p s (b ∷ c ∷ []) = let f = receiver_arg_plain b in let g = values_plain s c in cc
digest_plain p s (b ∷ c ∷ d ∷ r) = refl

cell_target_plain : (p : ℕ) (s : Scope) (k : Kind) (x : Option (ℕ × List (List ℕ))) → Same (cell_target p s k x) (cell_target 0 s k (option_map at_none x))
cell_target_plain p s k None = refl
cell_target_plain p s k (Some x) = refl

target_plain : (s : Scope) (k : Kind) (b : Arg) → Same (target_arg s k b) (target_arg s k (plain_arg b))
target_plain s k (one p e) = cell_target_plain p s k (path_in e) ∙ ap (λ x. unplaced (cell_target 0 s k x)) (sym (path_in_plain e))
target_plain s k (many p es) = refl

index_arg_plain : (s : Scope) (b : Arg) → Same (index_arg s b) (index_arg s (plain_arg b))
index_arg_plain s (one p e) = index_plain s e
index_arg_plain s (many p es) = refl

read_plain : (p : ℕ) (s : Scope) (k : Kind) (bs : List Arg) → Same (cell_read p s k bs) (cell_read 0 s k (map plain_arg bs))
read_plain p s k [] = refl
read_plain p s k (b ∷ []) = refl
read_plain p s k (b ∷ c ∷ []) = let f = target_plain s k b in let g = index_arg_plain s c in cc
read_plain p s k (b ∷ c ∷ d ∷ r) = refl

write_plain : (p : ℕ) (s : Scope) (k : Kind) (bs : List Arg) → Same (cell_write p s k bs) (cell_write 0 s k (map plain_arg bs))
write_plain p s k [] = refl
write_plain p s k (b ∷ []) = refl
write_plain p s k (b ∷ c ∷ []) = let f = index_arg_plain s b in let g = arg_plain s k c in cc
write_plain p s k (b ∷ c ∷ d ∷ r) = refl

bits_plain : (s : Scope) (es : List Expr) → bits_over s es ≡ bits_over s (map plain es)
bits_plain s [] = refl
bits_plain s (e ∷ es) = let f = own_plain s e in let g = bits_plain s es in cc

have_plain : (s : Scope) (es : List Expr) → have_bits s es ≡ have_bits s (map plain es)
have_plain s [] = refl
have_plain s (e ∷ es) = let f = own_plain s e in let g = have_plain s es in cc

summed_plain : (s : Scope) (b : Arg) → Same (summed_arg s b) (summed_arg s (plain_arg b))
summed_plain s (one p e) = refl
summed_plain s (many p es) = let f = bits_plain s es in let h = have_plain s es in let g = all_free_plain s es in cc

summed_path_plain : (p : ℕ) (v : Bool) (st : Stands) → Same (summed_path p v st) (summed_path 0 v st)
summed_path_plain p true st = refl
summed_path_plain p false st = refl

summed_field_plain : (p : ℕ) (v : Bool) (s : Scope) (x : Option (ℕ × List (List ℕ))) → Same (summed_field p v s x) (summed_field 0 v s (option_map at_none x))
summed_field_plain p v s None = refl
summed_field_plain p v s (Some x) = let e = summed_path_plain x.0 v (s x.1) in cc

field_plain : (v : Bool) (s : Scope) (b : Arg) → Same (field_arg v s b) (field_arg v s (plain_arg b))
field_plain v s (one p e) = summed_field_plain p v s (path_in e) ∙ ap (λ x. unplaced (summed_field 0 v s x)) (sym (path_in_plain e))
field_plain v s (many p es) = refl

sum_plain : (p : ℕ) (v : Bool) (s : Scope) (bs : List Arg) → Same (sum_tests p v s bs) (sum_tests 0 v s (map plain_arg bs))
sum_plain p v s [] = refl
sum_plain p v s (b ∷ []) = refl
sum_plain p v s (b ∷ c ∷ []) = refl
sum_plain p v s (b ∷ c ∷ d ∷ []) = refl
sum_plain p v s (b ∷ c ∷ d ∷ e ∷ []) =
    let f = arg_plain s Truth b in
    let g = summed_plain s c in
    let h = field_plain v s d in
    let i = path_arg_plain is_algorithm s e in
    cc
sum_plain p v s (b ∷ c ∷ d ∷ e ∷ f ∷ r) = refl

form_plain : (p : ℕ) (s : Scope) (f : Form) (bs : List Arg) → Same (form_tests p s f bs) (form_tests 0 s f (map plain_arg bs))
form_plain p s unknown bs = refl
form_plain p s ill bs = refl
form_plain p s drops bs = single_plain p holds_standard s bs
form_plain p s digests bs = digest_plain p s bs
form_plain p s (sums v) bs = sum_plain p v s bs
form_plain p s extracts bs = single_plain p holds_header s bs
form_plain p s emits bs = single_plain p holds_header s bs
form_plain p s applies bs = none_plain p bs
form_plain p s (reads_cell k) bs = read_plain p s k bs
form_plain p s (writes_cell k) bs = write_plain p s k bs
form_plain p s makes_valid bs = none_plain p bs
form_plain p s (acts ks) bs = let e = many_plain plain_arg ks bs in let f = args_plain s ks bs in cc

-- ---- statements

negated_plain : (h : Part) (s : Scope) (q : ℕ) (e : Expr) → Same (negated_tests h s q e) (negated_tests h s 0 (plain e))
negated_plain m s q (num p n) = expr_plain s Truth (negation q (num p n))
negated_plain m s q (flag p b) = expr_plain s Truth (negation q (flag p b))
negated_plain m s q (path p x) = expr_plain s Truth (negation q (path p x))
negated_plain m s q (valid p x) = expr_plain s Truth (negation q (valid p x))
negated_plain m s q (applied p t h) = refl
negated_plain m s q (error_name p x) = expr_plain s Truth (negation q (error_name p x))
negated_plain m s q (negation p a) = expr_plain s Truth (negation q (negation p a))
negated_plain m s q (inversion p a) = expr_plain s Truth (negation q (inversion p a))
negated_plain m s q (opposite p a) = expr_plain s Truth (negation q (opposite p a))
negated_plain m s q (binary p op a b) = expr_plain s Truth (negation q (binary p op a b))
negated_plain m s q (conditional p c a b) = expr_plain s Truth (negation q (conditional p c a b))
negated_plain m s q (slice p a h l) = expr_plain s Truth (negation q (slice p a h l))
negated_plain m s q (cast p t a) = expr_plain s Truth (negation q (cast p t a))

if_plain : (h : Part) (s : Scope) (e : Expr) → Same (if_tests h s e) (if_tests h s (plain e))
if_plain m s (num p n) = expr_plain s Truth (num p n)
if_plain m s (flag p b) = expr_plain s Truth (flag p b)
if_plain m s (path p x) = expr_plain s Truth (path p x)
if_plain m s (valid p x) = expr_plain s Truth (valid p x)
if_plain m s (applied p t h) = refl
if_plain m s (error_name p x) = expr_plain s Truth (error_name p x)
if_plain m s (negation p a) = negated_plain m s p a
if_plain m s (inversion p a) = expr_plain s Truth (inversion p a)
if_plain m s (opposite p a) = expr_plain s Truth (opposite p a)
if_plain m s (binary p op a b) = expr_plain s Truth (binary p op a b)
if_plain m s (conditional p c a b) = expr_plain s Truth (conditional p c a b)
if_plain m s (slice p a h l) = expr_plain s Truth (slice p a h l)
if_plain m s (cast p t a) = expr_plain s Truth (cast p t a)

start_plain : (s : Scope) (k : Kind) (e : Option Expr) → Same (start_tests s k e) (start_tests s k (option_map plain e))
start_plain s k None = refl
start_plain s k (Some e) = expr_plain s k e

pub var_plain : (p : ℕ) (s : Scope) (t : PTy) (x : List ℕ) (e : Option Expr) → Same (var_tests p s t x e) (var_tests 0 s t x (option_map plain e))
var_plain p s t x e = let f = scalar_plain p s t in let g = start_plain s (kind_in s t) e in cc

after_plain : (s : Scope) (c : Stmt) → after s c ≡ after s (plain_stmt c)
after_plain s (var p t x e) = refl
after_plain s (nothing p) = refl
after_plain s (block p b) = refl
after_plain s (assign p x e) = refl
after_plain s (choice p e a b) = refl
after_plain s (return_ p) = refl
after_plain s (exit_ p) = refl
after_plain s (call p x bs) = refl

mutual
  stmt_plain : (h : Part) (s : Scope) (c : Stmt) → Same (stmt_tests h s c) (stmt_tests h s (plain_stmt c))
  stmt_plain h s (nothing p) = refl
  stmt_plain h s (block p b) = let f = block_plain h s b in cc
  stmt_plain h s (var p t x e) = let f = var_plain p s t x e in cc
  stmt_plain h s (assign p x e) = let f = expr_plain s (value_kind (s x)) e in cc
  stmt_plain h s (choice p e a b) =
      let f = if_plain h s e in
      let g = stmt_plain h s a in
      let i = else_plain h s b in
      cc
  stmt_plain h s (return_ p) = refl
  stmt_plain h s (exit_ p) = refl
  stmt_plain h s (call p x bs) = let f = form_plain p s (form_of s x) bs in cc

  pub block_plain : (h : Part) (s : Scope) (b : Stmts) → Same (block_tests h s b) (block_tests h s (plain_stmts b))
  block_plain h s done = refl
  block_plain h s (next c b) =
      let f = stmt_plain h s c in
      let g = block_plain h (after s c) b in
      let i = ap (λ u. unplaced (block_tests h u (plain_stmts b))) (after_plain s c) in
      cc

  else_plain : (h : Part) (s : Scope) (c : MaybeStmt) → Same (else_tests h s c) (else_tests h s (plain_else c))
  else_plain h s without = refl
  else_plain h s (otherwise c) = stmt_plain h s c

-- ---- digests

most_negated_plain : (s : Scope) (q : ℕ) (e : Expr) → most_of_test s (negation q e) ≡ most_of_test s (negation 0 (plain e))
most_negated_plain s q (num p n) = refl
most_negated_plain s q (flag p b) = refl
most_negated_plain s q (path p x) = refl
most_negated_plain s q (valid p x) = refl
most_negated_plain s q (applied p t h) = refl
most_negated_plain s q (error_name p x) = refl
most_negated_plain s q (negation p a) = refl
most_negated_plain s q (inversion p a) = refl
most_negated_plain s q (opposite p a) = refl
most_negated_plain s q (binary p op a b) = refl
most_negated_plain s q (conditional p c a b) = refl
most_negated_plain s q (slice p a h l) = refl
most_negated_plain s q (cast p t a) = refl

most_test_plain : (s : Scope) (e : Expr) → most_of_test s e ≡ most_of_test s (plain e)
most_test_plain s (num p n) = refl
most_test_plain s (flag p b) = refl
most_test_plain s (path p x) = refl
most_test_plain s (valid p x) = refl
most_test_plain s (applied p t h) = refl
most_test_plain s (error_name p x) = refl
most_test_plain s (negation p a) = most_negated_plain s p a
most_test_plain s (inversion p a) = refl
most_test_plain s (opposite p a) = refl
most_test_plain s (binary p op a b) = refl
most_test_plain s (conditional p c a b) = refl
most_test_plain s (slice p a h l) = refl
most_test_plain s (cast p t a) = refl

mutual
  most_stmt_plain : (s : Scope) (c : Stmt) → most_of_stmt s c ≡ most_of_stmt s (plain_stmt c)
  most_stmt_plain s (nothing p) = refl
  most_stmt_plain s (block p b) = most_plain s b
  most_stmt_plain s (var p t x e) = refl
  most_stmt_plain s (assign p x e) = refl
  most_stmt_plain s (choice p e a b) =
      let f = most_test_plain s e in
      let g = most_stmt_plain s a in
      let i = most_else_plain s b in
      cc
  most_stmt_plain s (return_ p) = refl
  most_stmt_plain s (exit_ p) = refl
  most_stmt_plain s (call p x bs) = refl

  pub most_plain : (s : Scope) (b : Stmts) → most_of s b ≡ most_of s (plain_stmts b)
  most_plain s done = refl
  most_plain s (next c b) = let f = most_stmt_plain s c in let g = most_plain s b in cc

  most_else_plain : (s : Scope) (c : MaybeStmt) → most_of_else s c ≡ most_of_else s (plain_else c)
  most_else_plain s without = refl
  most_else_plain s (otherwise c) = most_stmt_plain s c

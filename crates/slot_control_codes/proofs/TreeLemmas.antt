-- Calls as the code has them, and statements with steps one after the other.
use Rattle.std.proofs.Common.{◌≡◌, ℕ, ◌+◌, ◌-◌, ◌<◌, ◌≤◌, length, take, drop, map, get_or, List, [], ◌∷◌, Bool, true, ◌&&◌, is_some, Option, Some, refl, sym, ap, ◌∙◌, subst, arith}
use Rattle.std.proofs.lemmas.Bool.{and_from}
use Rattle.std.proofs.lemmas.List.{take_rest}
use Rattle.std.specs.Option.{option_and_then}
use Rattle.std.specs.Global.{Vec}
use Rattle.p4_tree.specs.Tree.{Stmt, MaybeStmt, choice, Expr, num, flag, path, valid, applied, error_name, negation, inversion, opposite, binary, conditional, slice, cast, Arg, one, many}
use Rattle.p4_meaning.specs.Statements.{application, idle, sum_of}
use Rattle.slot_statements.specs.Known.{only_if}
use Rattle.p4_tree.specs.View.{arg_of, expr_of, stmt_of, stmts_of}
use Rattle.p4_tree.specs.declared.statement.Arg as code_arg
use Rattle.p4_tree.specs.declared.statement.Arg.TheVariants as arg
use Rattle.p4_tree.specs.declared.statement.Expr as code_expr
use Rattle.p4_tree.specs.declared.statement.Stmt as code_stmt
use Rattle.slot_terms.specs.Places.{Places}
use Rattle.slot_statements.proofs.TreeLemmas.{drop_one, two}
use Rattle.slot_control_codes.specs.Acts.{sum_at, sum_behind}
use Rattle.slot_control_codes.specs.Known.{KnownCalls, can_test, has_step_else, steps_behind, steps_behind_all}

-- one statement more has a step
pub known_more :
    (k : KnownCalls) (m n : Places) (o : Option Places) (list : List code_stmt.Stmt) (i : ℕ) (x : code_stmt.Stmt) → i < length list → x ≡ get_or list i x → steps_behind k (stmt_of x) m ≡ Some n → steps_behind_all k (stmts_of (drop i list)) m ≡ o
    → steps_behind_all k (stmts_of (drop (i + 1) list)) n ≡ o
known_more k m n o list i x lt is known all =
    let e : steps_behind_all k (stmts_of (x ∷ drop (i + 1) list)) m ≡ o = subst (λ xs. steps_behind_all k (stmts_of xs) m ≡ o) (drop_one list i x lt is) all in
    sym (ap (option_and_then (steps_behind_all k (stmts_of (drop (i + 1) list)))) known) ∙ e

-- an `if` has a step where its test and its branches have; the places behind each are those before
pub choice_known :
    (k : KnownCalls) (at : ℕ) (e : Expr) (st : Stmt) (other : MaybeStmt) (m n q z : Places) → can_test k (application e) e m ≡ true → n ≡ m → is_some (steps_behind k st n) ≡ true → q ≡ n → has_step_else k other q ≡ true → z ≡ q
    → steps_behind k (choice at e st other) m ≡ Some z
choice_known k at e st other m n q z test first this second that third =
    let a : is_some (steps_behind k st m) ≡ true = subst (λ p. is_some (steps_behind k st p) ≡ true) first this in
    let b : has_step_else k other m ≡ true = subst (λ p. has_step_else k other p ≡ true) (second ∙ first) that in
    ap (λ t. only_if t m) (and_from (can_test k (application e) e m) (is_some (steps_behind k st m) && has_step_else k other m) test (and_from (is_some (steps_behind k st m)) (has_step_else k other m) a b))
    ∙ ap Some (sym (third ∙ second ∙ first))

-- ---- checksum calls, argument by argument

-- a field that is no path makes the call one that does nothing
record IsNoPath (b : Bool) (p : ℕ) (c : Expr) (q : ℕ) (es : List Expr) (r : ℕ) (f : Expr) : Type 0 where
  at : sum_at b c es f ≡ idle
  whole : (rest : List Arg) → sum_of b (one p c ∷ many q es ∷ one r f ∷ rest) ≡ idle

no_path : (b : Bool) (p : ℕ) (c : Expr) (q : ℕ) (es : List Expr) (r : ℕ) (f : Expr) → IsNoPath b p c q es r f → (rest : List Arg) → sum_behind b c es (one r f ∷ rest) ≡ sum_of b (one p c ∷ many q es ∷ one r f ∷ rest)
no_path b p c q es r f is [] = sym (is.whole [])
no_path b p c q es r f is (many u hs ∷ rest) = sym (is.whole (many u hs ∷ rest))
no_path b p c q es r f is (one u h ∷ []) = is.at ∙ sym (is.whole (one u h ∷ []))
no_path b p c q es r f is (one u h ∷ x ∷ rest) = sym (is.whole (one u h ∷ x ∷ rest))

a_path : (b : Bool) (p : ℕ) (c : Expr) (q : ℕ) (es : List Expr) (r t : ℕ) (field : List (List ℕ)) (rest : List Arg) → sum_behind b c es (one r (path t field) ∷ rest) ≡ sum_of b (one p c ∷ many q es ∷ one r (path t field) ∷ rest)
a_path b p c q es r t field [] = refl
a_path b p c q es r t field (many u hs ∷ rest) = refl
a_path b p c q es r t field (one u h ∷ []) = refl
a_path b p c q es r t field (one u h ∷ x ∷ rest) = refl

-- a checksum call from the field on is the whole call
pub sum_whole : (b : Bool) (p : ℕ) (c : Expr) (q : ℕ) (es : List Expr) (rest : List Arg) → sum_behind b c es rest ≡ sum_of b (one p c ∷ many q es ∷ rest)
sum_whole b p c q es [] = refl
sum_whole b p c q es (many r fs ∷ rest) = refl
sum_whole b p c q es (one r (path t field) ∷ rest) = a_path b p c q es r t field rest
sum_whole b p c q es (one r (num x n) ∷ rest) = no_path b p c q es r (num x n) (record { at = refl; whole = λ rest. refl }) rest
sum_whole b p c q es (one r (flag x n) ∷ rest) = no_path b p c q es r (flag x n) (record { at = refl; whole = λ rest. refl }) rest
sum_whole b p c q es (one r (valid x h) ∷ rest) = no_path b p c q es r (valid x h) (record { at = refl; whole = λ rest. refl }) rest
sum_whole b p c q es (one r (applied x t h) ∷ rest) = no_path b p c q es r (applied x t h) (record { at = refl; whole = λ rest. refl }) rest
sum_whole b p c q es (one r (error_name x n) ∷ rest) = no_path b p c q es r (error_name x n) (record { at = refl; whole = λ rest. refl }) rest
sum_whole b p c q es (one r (negation x a) ∷ rest) = no_path b p c q es r (negation x a) (record { at = refl; whole = λ rest. refl }) rest
sum_whole b p c q es (one r (inversion x a) ∷ rest) = no_path b p c q es r (inversion x a) (record { at = refl; whole = λ rest. refl }) rest
sum_whole b p c q es (one r (opposite x a) ∷ rest) = no_path b p c q es r (opposite x a) (record { at = refl; whole = λ rest. refl }) rest
sum_whole b p c q es (one r (binary x op a d) ∷ rest) = no_path b p c q es r (binary x op a d) (record { at = refl; whole = λ rest. refl }) rest
sum_whole b p c q es (one r (conditional x t a d) ∷ rest) = no_path b p c q es r (conditional x t a d) (record { at = refl; whole = λ rest. refl }) rest
sum_whole b p c q es (one r (slice x a h l) ∷ rest) = no_path b p c q es r (slice x a h l) (record { at = refl; whole = λ rest. refl }) rest
sum_whole b p c q es (one r (cast x ty a) ∷ rest) = no_path b p c q es r (cast x ty a) (record { at = refl; whole = λ rest. refl }) rest

-- a list is its first item and what is behind it
first_and_rest : {A : Type 0} (xs rest : List A) (x : A) → 1 ≤ length xs → x ≡ get_or xs 0 x → rest ≡ take (length xs - 1) (drop 1 xs) → xs ≡ x ∷ rest
first_and_rest xs rest x le is behind = drop_one xs 0 x (omega arith) is ∙ ap (λ r. x ∷ r) (sym (behind ∙ take_rest xs 1))

-- the same of arguments, of which the first is a condition and the second a list
pub sum_args :
    (b : Bool) (args rest behind : List code_arg.Arg) (x y : code_arg.Arg) (p q : ℕ) (c : code_expr.Expr) (list : Vec code_expr.Expr) → 1 ≤ length args → x ≡ get_or args 0 x → x ≡ arg.One p c → rest ≡ take (length args - 1) (drop 1 args) → 1 ≤ length rest → y ≡ get_or rest 0 y
    → y ≡ arg.Many q list → behind ≡ take (length rest - 1) (drop 1 rest) → sum_behind b (expr_of c) (map expr_of list.items) (map arg_of behind) ≡ sum_of b (map arg_of args)
sum_args b args rest behind x y p q c list some first condition left more second values last =
    let e : args ≡ arg.One p c ∷ arg.Many q list ∷ behind = first_and_rest args rest x some first left ∙ two (λ a d. a ∷ d) condition (first_and_rest rest behind y more second last ∙ ap (λ a. a ∷ behind) values) in
    sum_whole b p (expr_of c) q (map expr_of list.items) (map arg_of behind) ∙ sym (ap (λ as'. sum_of b (map arg_of as')) e)

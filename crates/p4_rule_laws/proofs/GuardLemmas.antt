-- Statements behind the test of an `if`, and a flag.
use Rattle.std.proofs.Common.{◌≡◌, ℕ, max, List, [], ◌∷◌, Bool, true, false, not, refl, sym, ap, ◌∙◌, subst, arith}
use Rattle.rule_tests.specs.Tests.{IsFine}
use Rattle.p4_tree.specs.Tree.{Expr, num, flag, path, valid, applied, error_name, negation, inversion, opposite, binary, conditional, slice, cast, Stmts, assign}
use Rattle.p4_tree.specs.declared.statement.PTy.TheVariants as type
use Rattle.p4_scopes.specs.Scopes.{Stands, held, is_missing, value_kind, Scope, value, declare, add_up}
use Rattle.p4_scopes.specs.declared.kind.Kind.{Kind}
use Rattle.p4_scopes.specs.declared.kind.Kind.TheVariants.{Truth}
use Rattle.p4_scopes.specs.declared.thing.Thing.TheVariants.{Scalar}
use Rattle.p4_scopes.specs.declared.thing.Access.TheVariants.{Writable}
use Rattle.p4_statement_rules.specs.Expressions.{read_tests, expr_tests}
use Rattle.p4_statement_rules.specs.Forms.{takes_any, takes_assignments}
use Rattle.p4_statement_rules.specs.Calls.{target_tests}
use Rattle.p4_statement_rules.specs.Statements.{negated_tests, if_tests, stmt_tests, block_tests}
use Rattle.p4_statement_rules.specs.declared.rule.Part.{Part}
use Rattle.p4_declaration_rules.specs.Digests.{most_of_test, most_of_stmt, most_of}
use Rattle.p4_rule_laws.specs.Old.{Names, OldStmts}
use Rattle.p4_rule_laws.specs.Guards.{IsFlag, guarded, flagged}
use Rattle.p4_rule_laws.specs.Replaced.{is_outcome}
use Rattle.p4_rule_laws.proofs.AlikeScopes.{alike_self, skip_alike}
use Rattle.p4_rule_laws.proofs.AlikeStmts.{block_alike}
use Rattle.p4_rule_laws.proofs.KeepsLemmas.{declared}
use Rattle.p4_rule_laws.proofs.JoinedLemmas.{most_within}

never : (c : Bool) → c ≡ true → c ≡ false → ⊥
never true e h = let d : true ≡ false = h in cc
never false e h = let d : false ≡ true = e in cc

pub not_true : (b : Bool) → b ≡ true → not b ≡ false
not_true true e = refl
not_true false e = let c : false ≡ true = e in absurd (cc)

-- a value may stand as a test, behind `!` too
negated_value : (h : Part) (s : Scope) (q : ℕ) (e : Expr) → IsFine (expr_tests s Truth (negation q e)) → IsFine (negated_tests h s q e)
negated_value h s q (applied p t b) f = absurd (never true refl f.1.1.1)
negated_value h s q (num p n) f = f
negated_value h s q (flag p b) f = f
negated_value h s q (path p x) f = f
negated_value h s q (valid p x) f = f
negated_value h s q (error_name p x) f = f
negated_value h s q (negation p a) f = f
negated_value h s q (inversion p a) f = f
negated_value h s q (opposite p a) f = f
negated_value h s q (binary p op a b) f = f
negated_value h s q (conditional p c a b) f = f
negated_value h s q (slice p a m l) f = f
negated_value h s q (cast p t a) f = f

pub test_value : (h : Part) (s : Scope) (e : Expr) → IsFine (expr_tests s Truth e) → IsFine (if_tests h s e)
test_value h s (applied p t b) f = absurd (never true refl f.1.1)
test_value h s (negation p a) f = negated_value h s p a f
test_value h s (num p n) f = f
test_value h s (flag p b) f = f
test_value h s (path p x) f = f
test_value h s (valid p x) f = f
test_value h s (error_name p x) f = f
test_value h s (inversion p a) f = f
test_value h s (opposite p a) f = f
test_value h s (binary p op a b) f = f
test_value h s (conditional p c a b) f = f
test_value h s (slice p a m l) f = f
test_value h s (cast p t a) f = f

-- a value is no table's outcome
negated_no_outcome : (s : Scope) (q : ℕ) (e : Expr) → IsFine (expr_tests s Truth (negation q e)) → is_outcome (negation q e) ≡ false
negated_no_outcome s q (applied p t b) f = absurd (never true refl f.1.1.1)
negated_no_outcome s q (num p n) f = refl
negated_no_outcome s q (flag p b) f = refl
negated_no_outcome s q (path p x) f = refl
negated_no_outcome s q (valid p x) f = refl
negated_no_outcome s q (error_name p x) f = refl
negated_no_outcome s q (negation p a) f = refl
negated_no_outcome s q (inversion p a) f = refl
negated_no_outcome s q (opposite p a) f = refl
negated_no_outcome s q (binary p op a b) f = refl
negated_no_outcome s q (conditional p c a b) f = refl
negated_no_outcome s q (slice p a m l) f = refl
negated_no_outcome s q (cast p t a) f = refl

pub value_no_outcome : (s : Scope) (e : Expr) → IsFine (expr_tests s Truth e) → is_outcome e ≡ false
value_no_outcome s (applied p t b) f = absurd (never true refl f.1.1)
value_no_outcome s (num p n) f = refl
value_no_outcome s (flag p b) f = refl
value_no_outcome s (path p x) f = refl
value_no_outcome s (valid p x) f = refl
value_no_outcome s (error_name p x) f = refl
value_no_outcome s (negation p a) f = negated_no_outcome s p a f
value_no_outcome s (inversion p a) f = refl
value_no_outcome s (opposite p a) f = refl
value_no_outcome s (binary p op a b) f = refl
value_no_outcome s (conditional p c a b) f = refl
value_no_outcome s (slice p a m l) f = refl
value_no_outcome s (cast p t a) f = refl

-- what is no outcome applies no table
negated_gives_none : (s : Scope) (q : ℕ) (e : Expr) → is_outcome (negation q e) ≡ false → most_of_test s (negation q e) ≡ 0
negated_gives_none s q (applied p t b) f = absurd (never true refl f)
negated_gives_none s q (num p n) f = refl
negated_gives_none s q (flag p b) f = refl
negated_gives_none s q (path p x) f = refl
negated_gives_none s q (valid p x) f = refl
negated_gives_none s q (error_name p x) f = refl
negated_gives_none s q (negation p a) f = refl
negated_gives_none s q (inversion p a) f = refl
negated_gives_none s q (opposite p a) f = refl
negated_gives_none s q (binary p op a b) f = refl
negated_gives_none s q (conditional p c a b) f = refl
negated_gives_none s q (slice p a m l) f = refl
negated_gives_none s q (cast p t a) f = refl

pub no_outcome_gives_none : (s : Scope) (e : Expr) → is_outcome e ≡ false → most_of_test s e ≡ 0
no_outcome_gives_none s (applied p t b) f = absurd (never true refl f)
no_outcome_gives_none s (num p n) f = refl
no_outcome_gives_none s (flag p b) f = refl
no_outcome_gives_none s (path p x) f = refl
no_outcome_gives_none s (valid p x) f = refl
no_outcome_gives_none s (error_name p x) f = refl
no_outcome_gives_none s (negation p a) f = negated_gives_none s p a f
no_outcome_gives_none s (inversion p a) f = refl
no_outcome_gives_none s (opposite p a) f = refl
no_outcome_gives_none s (binary p op a b) f = refl
no_outcome_gives_none s (conditional p c a b) f = refl
no_outcome_gives_none s (slice p a m l) f = refl
no_outcome_gives_none s (cast p t a) f = refl

pub value_gives_none : (s : Scope) (e : Expr) → IsFine (expr_tests s Truth e) → most_of_test s e ≡ 0
value_gives_none s e f = no_outcome_gives_none s e (value_no_outcome s e f)

pub guard_fine : (h : Part) (s : Scope) (p : ℕ) (e : Expr) (b : Stmts) → takes_any h ≡ true → IsFine (expr_tests s Truth e) → IsFine (block_tests h s b) → IsFine (stmt_tests h s (guarded p e b))
guard_fine h s p e b m f g = (not_true (takes_any h) m, (test_value h s e f, ((not_true (takes_any h) m, g), tt)))

pub guard_parts : (h : Part) (s : Scope) (p : ℕ) (e : Expr) (b : Stmts) → IsFine (stmt_tests h s (guarded p e b)) → IsFine (if_tests h s e) × IsFine (block_tests h s b)
guard_parts h s p e b f = (f.1.0, f.1.1.0.1)

max_none : (n : ℕ) → max n 0 ≡ n
max_none n = omega arith

pub guard_most : (s : Scope) (p : ℕ) (e : Expr) (b : Stmts) → IsFine (expr_tests s Truth e) → most_of_stmt s (guarded p e b) ≡ most_of s b
guard_most s p e b f =
    let none = value_gives_none s e f in
    let same = max_none (most_of s b) in
    ap (λ n. add_up n (max (most_of s b) 0)) none ∙ (ap (add_up 0) same ∙ most_within s b)

-- ---- a flag

read_flag : (p : ℕ) (st : Stands) → st ≡ held Writable (Scalar Truth) → IsFine (read_tests p st Truth)
read_flag p st e = let P : Stands → Type 0 = λ u. IsFine (read_tests p u Truth) in subst P (sym e) (refl, (refl, (refl, refl)))

set_flag : (p : ℕ) (st : Stands) → st ≡ held Writable (Scalar Truth) → IsFine (target_tests p st) × (value_kind st ≡ Truth)
set_flag p st e = let P : Stands → Type 0 = λ u. IsFine (target_tests p u) × (value_kind u ≡ Truth) in subst P (sym e) ((refl, (refl, refl)), refl)

pub flag_read : (s : Scope) (x : List ℕ) (p : ℕ) → IsFlag s x → IsFine (expr_tests s Truth (path p (x ∷ [])))
flag_read s x p e = read_flag p (s (x ∷ [])) e

pub flag_set : (h : Part) (s : Scope) (x : List ℕ) (p q : ℕ) (v : Bool) → takes_assignments h ≡ true → IsFlag s x → IsFine (stmt_tests h s (assign p (x ∷ []) (flag q v)))
flag_set h s x p q v m e =
    let r = set_flag p (s (x ∷ [])) e in
    let P : Kind → Type 0 = λ k. IsFine (expr_tests s k (flag q v)) in
    (not_true (takes_assignments h) m, (r.0, subst P (sym r.1) (refl, refl)))

pub flag_declared : (s : Scope) (x : List ℕ) → IsFlag (declare s x (value Writable type.Bool)) x
flag_declared s x = declared s x (value Writable type.Bool) []

pub flagged_fine : (old : Names) (h : Part) (s : Scope) (x : List ℕ) (p : ℕ) (b : Stmts) → takes_any h ≡ true → OldStmts old b → old x ≡ false → is_missing (s (x ∷ [])) ≡ true → IsFine (block_tests h s b) → IsFine (block_tests h s (flagged p x b))
flagged_fine old h s x p b k o n m f =
    let t = declare s x (value Writable type.Bool) in
    let a = skip_alike old s s (alike_self old s) x (value Writable type.Bool) n in
    let g = subst IsFine (block_alike old s t a h b o) f in
    let e = flag_read t x p (flag_declared s x) in
    ((not_true (takes_any h) k, (not_true (is_missing (s (x ∷ []))) m, ((tt, refl), tt))), (guard_fine h t p (negation p (path p (x ∷ []))) b k ((refl, refl), e) g, tt))

pub flagged_most : (s : Scope) (x : List ℕ) (p : ℕ) (b : Stmts) → most_of s (flagged p x b) ≡ most_of s b
flagged_most s x p b =
    let same = max_none (most_of s b) in
    let within = most_within s b in
    ap (λ n. add_up 0 (add_up (add_up 0 n) 0)) same ∙ (ap (λ n. add_up 0 (add_up n 0)) within ∙ once (most_of s b) within)
  where
    once : (n : ℕ) → add_up 0 n ≡ n → add_up 0 (add_up n 0) ≡ n
    once n e = omega arith

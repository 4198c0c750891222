-- Statements are fine with other expressions, each of which may stand in the place of the given one, and give as many
-- digests.
use Rattle.std.proofs.Common.{◌≡◌, ℕ, suc, List, [], ◌∷◌, Bool, true, false, not, ◌||◌, nat_eq, nat_lt, length, refl, sym, ap, ◌∙◌, subst, ◌&&◌}
use Rattle.rule_tests.specs.Tests.{IsFine}
use Rattle.p4_tree.specs.Tree.{Expr, num, flag, path, valid, applied, error_name, negation, inversion, opposite, binary, conditional, slice, cast, Arg, one, many, Stmt, Stmts, MaybeStmt}
use Rattle.p4_scopes.specs.Kinds.{as_value, index_want}
use Rattle.p4_scopes.specs.Scopes.{Scope, value_kind, kind_in, own}
use Rattle.p4_scopes.specs.declared.kind.Kind.{Kind}
use Rattle.p4_scopes.specs.declared.kind.Kind.TheVariants.{Truth}
use Rattle.p4_statement_rules.specs.Expressions.{expr_tests, free_tests, all_free, index_tests}
use Rattle.p4_statement_rules.specs.Forms.{Form, unknown, ill, drops, digests, sums, extracts, emits, applies, reads_cell, writes_cell, makes_valid, acts, form_of}
use Rattle.p4_statement_rules.specs.Calls.{as_many, arg_tests, args_tests, digest_values, digest_tests, index_arg, cell_read, cell_write, bits_over, have_bits, summed_arg, sum_tests, form_tests}
use Rattle.p4_statement_rules.specs.Statements.{negated_tests, if_tests, after, after_all, stmt_tests, block_tests, else_tests}
use Rattle.p4_statement_rules.specs.declared.rule.Part.{Part}
use Rattle.p4_declaration_rules.specs.Digests.{most_of_test, most_of_stmt, most_of_else, most_of}
use Rattle.p4_rule_laws.specs.Replaced.{Replaces, ExprsReplaced, ArgReplaced, ArgsReplaced, CallReplaced, is_outcome, StmtReplaced, same, in_block, in_start, in_value, in_test, in_branches, in_args, ElseReplaced, no_else, in_else, BlockReplaced, none_left, first_then}
use Rattle.p4_rule_laws.proofs.GuardLemmas.{test_value, value_no_outcome, no_outcome_gives_none}

module _ (s : Scope) where
  -- ---- arguments

  pub free_replaced : (e f : Expr) → Replaces s e f → IsFine (free_tests s e) → IsFine (free_tests s f)
  free_replaced e f r g = let x = r.wherever (as_value (own s e)) g in let P : Kind → Type 0 = λ k. IsFine (expr_tests s (as_value k) f) in subst P (sym x.kind) x.fine

  pub all_replaced : (es fs : List Expr) → ExprsReplaced s es fs → IsFine (all_free s es) → IsFine (all_free s fs)
  all_replaced [] [] r g = tt
  all_replaced [] (f ∷ fs) r g = absurd r
  all_replaced (e ∷ es) [] r g = absurd r
  all_replaced (e ∷ es) (f ∷ fs) r g = (free_replaced e f r.0 g.0, all_replaced es fs r.1 g.1)

  as_long : (es fs : List Expr) → ExprsReplaced s es fs → length es ≡ length fs
  as_long [] [] r = refl
  as_long [] (f ∷ fs) r = absurd r
  as_long (e ∷ es) [] r = absurd r
  as_long (e ∷ es) (f ∷ fs) r = ap (λ (n : ℕ). suc n) (as_long es fs r.1)

  bits_replaced : (es fs : List Expr) → ExprsReplaced s es fs → IsFine (all_free s es) → bits_over s fs ≡ bits_over s es
  bits_replaced [] [] r g = refl
  bits_replaced [] (f ∷ fs) r g = absurd r
  bits_replaced (e ∷ es) [] r g = absurd r
  bits_replaced (e ∷ es) (f ∷ fs) r g =
      let x = (r.0.wherever (as_value (own s e)) g.0).kind in
      let y = bits_replaced es fs r.1 g.1 in
      cc

  index_replaced : (e f : Expr) → Replaces s e f → IsFine (index_tests s e) → IsFine (index_tests s f)
  index_replaced e f r g = let x = r.wherever (index_want (own s e)) g in let P : Kind → Type 0 = λ k. IsFine (expr_tests s (index_want k) f) in subst P (sym x.kind) x.fine

  arg_replaced : (k : Kind) (a b : Arg) → ArgReplaced s a b → IsFine (arg_tests s k a) → IsFine (arg_tests s k b)
  arg_replaced k (one p e) (one q f) r g = (r.1.wherever k g).fine
  arg_replaced k (one p e) (many q fs) r g = absurd r
  arg_replaced k (many p es) (one q f) r g = absurd r
  arg_replaced k (many p es) (many q fs) r g = g

  args_replaced : (ks : List Kind) (xs ys : List Arg) → ArgsReplaced s xs ys → IsFine (args_tests s ks xs) → IsFine (args_tests s ks ys)
  args_replaced [] xs ys r g = tt
  args_replaced (k ∷ ks) [] [] r g = g
  args_replaced (k ∷ ks) [] (b ∷ ys) r g = absurd r
  args_replaced (k ∷ ks) (a ∷ xs) [] r g = absurd r
  args_replaced (k ∷ ks) (a ∷ xs) (b ∷ ys) r g = (arg_replaced k a b r.0 g.0, args_replaced ks xs ys r.1 g.1)

  many_replaced : (ks : List Kind) (xs ys : List Arg) → ArgsReplaced s xs ys → as_many ks ys ≡ as_many ks xs
  many_replaced [] [] [] r = refl
  many_replaced [] [] (b ∷ ys) r = absurd r
  many_replaced [] (a ∷ xs) [] r = absurd r
  many_replaced [] (a ∷ xs) (b ∷ ys) r = refl
  many_replaced (k ∷ ks) [] [] r = refl
  many_replaced (k ∷ ks) [] (b ∷ ys) r = absurd r
  many_replaced (k ∷ ks) (a ∷ xs) [] r = absurd r
  many_replaced (k ∷ ks) (a ∷ xs) (b ∷ ys) r = many_replaced ks xs ys r.1

  index_arg_replaced : (a b : Arg) → ArgReplaced s a b → IsFine (index_arg s a) → IsFine (index_arg s b)
  index_arg_replaced (one p e) (one q f) r g = index_replaced e f r.1 g
  index_arg_replaced (one p e) (many q fs) r g = absurd r
  index_arg_replaced (many p es) (one q f) r g = absurd r
  index_arg_replaced (many p es) (many q fs) r g = g

  values_replaced : (a b : Arg) → ArgReplaced s a b → IsFine (digest_values s a) → IsFine (digest_values s b)
  values_replaced (one p e) (one q f) r g = g
  values_replaced (one p e) (many q fs) r g = absurd r
  values_replaced (many p es) (one q f) r g = absurd r
  values_replaced (many p es) (many q fs) r g =
      let P : ℕ → Type 0 = λ n. (nat_eq n 0 || nat_lt 9 n) ≡ false in
      (subst P (as_long es fs r.1) g.0, all_replaced es fs r.1 g.1)

  have_replaced : (es fs : List Expr) → ExprsReplaced s es fs → IsFine (all_free s es) → have_bits s fs ≡ have_bits s es
  have_replaced [] [] r g = refl
  have_replaced [] (f ∷ fs) r g = absurd r
  have_replaced (e ∷ es) [] r g = absurd r
  have_replaced (e ∷ es) (f ∷ fs) r g =
      let x = (r.0.wherever (as_value (own s e)) g.0).kind in
      let y = have_replaced es fs r.1 g.1 in
      cc

  summed_replaced : (a b : Arg) → ArgReplaced s a b → IsFine (summed_arg s a) → IsFine (summed_arg s b)
  summed_replaced (one p e) (one q f) r g = g
  summed_replaced (one p e) (many q fs) r g = absurd r
  summed_replaced (many p es) (one q f) r g = absurd r
  summed_replaced (many p es) (many q fs) r g =
      let P : ℕ → Type 0 = λ n. (have_bits s es && not (nat_eq n 0)) ≡ false in
      let Q : Bool → Type 0 = λ b. (b && not (nat_eq (bits_over s fs) 0)) ≡ false in
      (subst Q (sym (have_replaced es fs r.1 g.1)) (subst P (sym (bits_replaced es fs r.1 g.1)) g.0), all_replaced es fs r.1 g.1)

  -- ---- calls: of lists of another length than is wanted nothing is fine

  no_misfit : {A : Type 0} → true ≡ false → A
  no_misfit e = absurd (cc)

  digest_replaced : (p : ℕ) (xs ys : List Arg) → CallReplaced s digests xs ys → IsFine (digest_tests p s xs) → IsFine (digest_tests p s ys)
  digest_replaced p [] ys r g = no_misfit g
  digest_replaced p (a ∷ []) ys r g = no_misfit g
  digest_replaced p (a ∷ c ∷ []) [] r g = let e : a ∷ c ∷ [] ≡ [] = r in absurd (cc)
  digest_replaced p (a ∷ c ∷ []) (b ∷ []) r g = absurd r.1
  digest_replaced p (a ∷ c ∷ []) (b ∷ d ∷ []) r g =
      let P : Arg → Type 0 = λ x. IsFine (digest_tests p s (x ∷ d ∷ [])) in
      subst P r.0 (g.0, values_replaced c d r.1.0 g.1)
  digest_replaced p (a ∷ c ∷ []) (b ∷ d ∷ u ∷ ys) r g = absurd r.1.1
  digest_replaced p (a ∷ c ∷ u ∷ xs) ys r g = no_misfit g

  read_replaced : (p : ℕ) (k : Kind) (xs ys : List Arg) → CallReplaced s (reads_cell k) xs ys → IsFine (cell_read p s k xs) → IsFine (cell_read p s k ys)
  read_replaced p k [] ys r g = no_misfit g
  read_replaced p k (a ∷ []) ys r g = no_misfit g
  read_replaced p k (a ∷ c ∷ []) [] r g = let e : a ∷ c ∷ [] ≡ [] = r in absurd (cc)
  read_replaced p k (a ∷ c ∷ []) (b ∷ []) r g = absurd r.1
  read_replaced p k (a ∷ c ∷ []) (b ∷ d ∷ []) r g =
      let P : Arg → Type 0 = λ x. IsFine (cell_read p s k (x ∷ d ∷ [])) in
      subst P r.0 (g.0, index_arg_replaced c d r.1.0 g.1)
  read_replaced p k (a ∷ c ∷ []) (b ∷ d ∷ u ∷ ys) r g = absurd r.1.1
  read_replaced p k (a ∷ c ∷ u ∷ xs) ys r g = no_misfit g

  write_replaced : (p : ℕ) (k : Kind) (xs ys : List Arg) → ArgsReplaced s xs ys → IsFine (cell_write p s k xs) → IsFine (cell_write p s k ys)
  write_replaced p k [] ys r g = no_misfit g
  write_replaced p k (a ∷ []) ys r g = no_misfit g
  write_replaced p k (a ∷ c ∷ []) [] r g = absurd r
  write_replaced p k (a ∷ c ∷ []) (b ∷ []) r g = absurd r.1
  write_replaced p k (a ∷ c ∷ []) (b ∷ d ∷ []) r g = (index_arg_replaced a b r.0 g.0, arg_replaced k c d r.1.0 g.1)
  write_replaced p k (a ∷ c ∷ []) (b ∷ d ∷ u ∷ ys) r g = absurd r.1.1
  write_replaced p k (a ∷ c ∷ u ∷ xs) ys r g = no_misfit g

  same_fine : (p : ℕ) (f : Form) (xs ys : List Arg) → xs ≡ ys → IsFine (form_tests p s f xs) → IsFine (form_tests p s f ys)
  same_fine p f xs ys e g = let P : List Arg → Type 0 = λ zs. IsFine (form_tests p s f zs) in subst P e g

  sum_replaced : (p : ℕ) (v : Bool) (xs ys : List Arg) → CallReplaced s (sums v) xs ys → IsFine (sum_tests p v s xs) → IsFine (sum_tests p v s ys)
  sum_replaced p v [] ys r g = no_misfit g
  sum_replaced p v (a ∷ []) ys r g = no_misfit g
  sum_replaced p v (a ∷ c ∷ xs) [] r g = same_fine p (sums v) (a ∷ c ∷ xs) [] r g
  sum_replaced p v (a ∷ c ∷ xs) (b ∷ []) r g = same_fine p (sums v) (a ∷ c ∷ xs) (b ∷ []) r g
  sum_replaced p v (a ∷ c ∷ xs) (b ∷ d ∷ ys) r g =
      let P : List Arg → Type 0 = λ zs. IsFine (sum_tests p v s (b ∷ d ∷ zs)) in
      subst P r.2 (both_summed p v a c b d xs r.0 r.1 g)
    where
      both_summed : (p : ℕ) (v : Bool) (a c b d : Arg) (xs : List Arg) → ArgReplaced s a b → ArgReplaced s c d → IsFine (sum_tests p v s (a ∷ c ∷ xs)) → IsFine (sum_tests p v s (b ∷ d ∷ xs))
      both_summed p v a c b d [] r q g = no_misfit g
      both_summed p v a c b d (x ∷ []) r q g = no_misfit g
      both_summed p v a c b d (x ∷ y ∷ []) r q g = (arg_replaced Truth a b r g.0, (summed_replaced c d q g.1.0, g.1.1))
      both_summed p v a c b d (x ∷ y ∷ z ∷ xs) r q g = no_misfit g

  form_replaced : (p : ℕ) (f : Form) (xs ys : List Arg) → CallReplaced s f xs ys → IsFine (form_tests p s f xs) → IsFine (form_tests p s f ys)
  form_replaced p (acts ks) xs ys r g =
      let P : Bool → Type 0 = λ b. not b ≡ false in
      (subst P (sym (many_replaced ks xs ys r)) g.0, args_replaced ks xs ys r g.1)
  form_replaced p (writes_cell k) xs ys r g = write_replaced p k xs ys r g
  form_replaced p (reads_cell k) xs ys r g = read_replaced p k xs ys r g
  form_replaced p digests xs ys r g = digest_replaced p xs ys r g
  form_replaced p (sums v) xs ys r g = sum_replaced p v xs ys r g
  form_replaced p unknown xs ys r g = same_fine p unknown xs ys r g
  form_replaced p ill xs ys r g = same_fine p ill xs ys r g
  form_replaced p drops xs ys r g = same_fine p drops xs ys r g
  form_replaced p extracts xs ys r g = same_fine p extracts xs ys r g
  form_replaced p emits xs ys r g = same_fine p emits xs ys r g
  form_replaced p applies xs ys r g = same_fine p applies xs ys r g
  form_replaced p makes_valid xs ys r g = same_fine p makes_valid xs ys r g

  -- ---- tests of an `if`

  negated_is_value : (h : Part) (q : ℕ) (e : Expr) → is_outcome (negation q e) ≡ false → IsFine (negated_tests h s q e) → IsFine (expr_tests s Truth (negation q e))
  negated_is_value h q (applied p t b) n g = no_misfit n
  negated_is_value h q (num p m) n g = g
  negated_is_value h q (flag p b) n g = g
  negated_is_value h q (path p x) n g = g
  negated_is_value h q (valid p x) n g = g
  negated_is_value h q (error_name p x) n g = g
  negated_is_value h q (negation p a) n g = g
  negated_is_value h q (inversion p a) n g = g
  negated_is_value h q (opposite p a) n g = g
  negated_is_value h q (binary p op a b) n g = g
  negated_is_value h q (conditional p c a b) n g = g
  negated_is_value h q (slice p a m l) n g = g
  negated_is_value h q (cast p t a) n g = g

  pub test_is_value : (h : Part) (e : Expr) → is_outcome e ≡ false → IsFine (if_tests h s e) → IsFine (expr_tests s Truth e)
  test_is_value h (applied p t b) n g = no_misfit n
  test_is_value h (negation p a) n g = negated_is_value h p a n g
  test_is_value h (num p m) n g = g
  test_is_value h (flag p b) n g = g
  test_is_value h (path p x) n g = g
  test_is_value h (valid p x) n g = g
  test_is_value h (error_name p x) n g = g
  test_is_value h (inversion p a) n g = g
  test_is_value h (opposite p a) n g = g
  test_is_value h (binary p op a b) n g = g
  test_is_value h (conditional p c a b) n g = g
  test_is_value h (slice p a m l) n g = g
  test_is_value h (cast p t a) n g = g

  pub test_replaced : (h : Part) (e f : Expr) → is_outcome e ≡ false → Replaces s e f → IsFine (if_tests h s e) → IsFine (if_tests h s f)
  test_replaced h e f n r g = test_value h s f (r.wherever Truth (test_is_value h e n g)).fine

-- ---- statements

after_replaced : {s : Scope} {c d : Stmt} → StmtReplaced s c d → after s d ≡ after s c
after_replaced same = refl
after_replaced (in_block p r) = refl
after_replaced (in_start p t x r) = refl
after_replaced (in_value p x r) = refl
after_replaced (in_test p n r a b) = refl
after_replaced (in_branches p a b) = refl
after_replaced (in_args p x r) = refl

pub after_all_replaced : {s : Scope} {a b : Stmts} → BlockReplaced s a b → after_all s b ≡ after_all s a
after_all_replaced none_left = refl
after_all_replaced (first_then {s = s} {c = c} {d = d} {a = a} {b = b} r q) = ap (λ u. after_all u b) (after_replaced r) ∙ after_all_replaced q

mutual
  pub stmt_replaced : {s : Scope} {c d : Stmt} → StmtReplaced s c d → (h : Part) → IsFine (stmt_tests h s c) → IsFine (stmt_tests h s d)
  stmt_replaced same h g = g
  stmt_replaced (in_block p r) h g = (g.0, block_replaced r h g.1)
  stmt_replaced (in_start {s = s} p t x r) h g = (g.0, (g.1.0, (g.1.1.0, (r.wherever (kind_in s t) g.1.1.1).fine)))
  stmt_replaced (in_value {s = s} p x r) h g = (g.0, (g.1.0, (r.wherever (value_kind (s x)) g.1.1).fine))
  stmt_replaced (in_test {s = s} {e = e} {f = f} p n r a b) h g = (g.0, (test_replaced s h e f n r g.1.0, (stmt_replaced a h g.1.1.0, else_replaced b h g.1.1.1)))
  stmt_replaced (in_branches p a b) h g = (g.0, (g.1.0, (stmt_replaced a h g.1.1.0, else_replaced b h g.1.1.1)))
  stmt_replaced (in_args {s = s} {xs = xs} {ys = ys} p x r) h g = (g.0, form_replaced s p (form_of s x) xs ys r g.1)

  pub else_replaced : {s : Scope} {a b : MaybeStmt} → ElseReplaced s a b → (h : Part) → IsFine (else_tests h s a) → IsFine (else_tests h s b)
  else_replaced no_else h g = g
  else_replaced (in_else r) h g = stmt_replaced r h g

  pub block_replaced : {s : Scope} {a b : Stmts} → BlockReplaced s a b → (h : Part) → IsFine (block_tests h s a) → IsFine (block_tests h s b)
  block_replaced none_left h g = g
  block_replaced (first_then {s = s} {a = a} {b = b} r q) h g =
      let P : Scope → Type 0 = λ u. IsFine (block_tests h u b) in
      (stmt_replaced r h g.0, subst P (sym (after_replaced r)) (block_replaced q h g.1))

-- ---- digests: what a call or an outcome gives is the same with other arguments

most_test_replaced : (s u : Scope) (h : Part) (e f : Expr) → is_outcome e ≡ false → Replaces u e f → IsFine (if_tests h u e) → most_of_test s f ≡ most_of_test s e
most_test_replaced s u h e f n r g =
    let x = r.wherever Truth (test_is_value u h e n g) in
    no_outcome_gives_none s f (value_no_outcome u f x.fine) ∙ sym (no_outcome_gives_none s e n)

mutual
  most_stmt_replaced : {u : Scope} {c d : Stmt} → StmtReplaced u c d → (h : Part) (s : Scope) → IsFine (stmt_tests h u c) → most_of_stmt s d ≡ most_of_stmt s c
  most_stmt_replaced same h s g = refl
  most_stmt_replaced (in_block p r) h s g = most_replaced r h s g.1
  most_stmt_replaced (in_start p t x r) h s g = refl
  most_stmt_replaced (in_value p x r) h s g = refl
  most_stmt_replaced (in_test {s = u} {e = e} {f = f} p n r a b) h s g =
      let x = most_test_replaced s u h e f n r g.1.0 in
      let y = most_stmt_replaced a h s g.1.1.0 in
      let z = most_else_replaced b h s g.1.1.1 in
      cc
  most_stmt_replaced (in_branches p a b) h s g =
      let y = most_stmt_replaced a h s g.1.1.0 in
      let z = most_else_replaced b h s g.1.1.1 in
      cc
  most_stmt_replaced (in_args p x r) h s g = refl

  most_else_replaced : {u : Scope} {a b : MaybeStmt} → ElseReplaced u a b → (h : Part) (s : Scope) → IsFine (else_tests h u a) → most_of_else s b ≡ most_of_else s a
  most_else_replaced no_else h s g = refl
  most_else_replaced (in_else r) h s g = most_stmt_replaced r h s g

  pub most_replaced : {u : Scope} {a b : Stmts} → BlockReplaced u a b → (h : Part) (s : Scope) → IsFine (block_tests h u a) → most_of s b ≡ most_of s a
  most_replaced none_left h s g = refl
  most_replaced (first_then r q) h s g =
      let y = most_stmt_replaced r h s g.0 in
      let z = most_replaced q h s g.1 in
      cc

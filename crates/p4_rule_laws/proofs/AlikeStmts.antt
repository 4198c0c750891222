-- The tests of a statement, and the most digests that it gives, rest on the scope at the statement's names alone.
use Rattle.std.proofs.Common.{◌≡◌, ℕ, List, [], ◌∷◌, Bool, true, refl, ap, ◌∙◌, Option, Some, None}
use Rattle.lex_text.specs.Names.{parent, last_name}
use Rattle.rule_tests.specs.Tests.{both}
use Rattle.p4_tree.specs.Tree.{Expr, num, flag, path, valid, applied, error_name, negation, inversion, opposite, binary, conditional, slice, cast, Arg, one, many, Stmt, Stmts, MaybeStmt, nothing, block, var, assign, choice, return_, exit_, call, done, next, without, otherwise}
use Rattle.p4_tree.specs.declared.statement.PTy.{PTy}
use Rattle.p4_scopes.specs.Scopes.{Stands, value_kind, Scope, value, kind_in}
use Rattle.p4_scopes.specs.Uses.{is_algorithm, holds_header, holds_standard, most_in}
use Rattle.p4_scopes.specs.declared.kind.Kind.{Kind}
use Rattle.p4_scopes.specs.declared.kind.Kind.TheVariants.{Number, Truth}
use Rattle.p4_scopes.specs.declared.thing.Access.TheVariants.{Writable}
use Rattle.p4_statement_rules.specs.Expressions.{fit_tests, applied_tests, expr_tests}
use Rattle.p4_statement_rules.specs.Forms.{Form, unknown, ill, drops, digests, sums, extracts, emits, applies, reads_cell, writes_cell, makes_valid, acts, plain_form, verb_form, form_of, path_in, takes_runs}
use Rattle.p4_statement_rules.specs.Calls.{arg_tests, args_tests, target_tests, path_tests, path_arg, single_tests, receiver_arg, digest_values, digest_tests, cell_target, target_arg, index_arg, cell_read, cell_write, bits_over, have_bits, summed_arg, summed_path, summed_field, field_arg, sum_tests, form_tests}
use Rattle.p4_statement_rules.specs.Statements.{negated_tests, if_tests, start_tests, var_tests, after, after_all, stmt_tests, block_tests, else_tests}
use Rattle.p4_statement_rules.specs.declared.rule.Part.{Part}
use Rattle.p4_declaration_rules.specs.Digests.{most_of_form, most_of_test, most_of_stmt, most_of_else, most_of}
use Rattle.p4_rule_laws.specs.Old.{Names, OldPath, Alike, OldType, OldExpr, OldExprs, OldStart, OldArg, OldArgs, OldStmt, OldStmts, OldElse}
use Rattle.p4_rule_laws.proofs.AlikeScopes.{kind_alike, declare_alike}
use Rattle.p4_rule_laws.proofs.AlikeExprs.{own_alike, expr_alike, new_alike, scalar_alike, all_free_alike, index_alike}

-- the path that an argument may be
abbrev OldSome : Names → Option (ℕ × List (List ℕ)) → Type 0
OldSome old None = Unit {0}
OldSome old (Some x) = OldPath old x.1

old_path_in : (old : Names) (e : Expr) → OldExpr old e → OldSome old (path_in e)
old_path_in old (path p x) o = o
old_path_in old (num p n) o = tt
old_path_in old (flag p b) o = tt
old_path_in old (valid p x) o = tt
old_path_in old (applied p y h) o = tt
old_path_in old (error_name p x) o = tt
old_path_in old (negation p b) o = tt
old_path_in old (inversion p b) o = tt
old_path_in old (opposite p b) o = tt
old_path_in old (binary p op b c) o = tt
old_path_in old (conditional p b c d) o = tt
old_path_in old (slice p b h l) o = tt
old_path_in old (cast p y b) o = tt

old_parent : (old : Names) (x : List (List ℕ)) → OldPath old x → OldPath old (parent x)
old_parent old [] o = tt
old_parent old (x ∷ []) o = tt
old_parent old (x ∷ y ∷ rest) o = (o.0, old_parent old (y ∷ rest) o.1)

module _ (old : Names) (s t : Scope) (a : Alike old s t) where
  -- ---- arguments

  arg_alike : (k : Kind) (b : Arg) → OldArg old b → arg_tests s k b ≡ arg_tests t k b
  arg_alike k (one p e) o = expr_alike old s t a k e o
  arg_alike k (many p es) o = refl

  args_alike : (ks : List Kind) (bs : List Arg) → OldArgs old bs → args_tests s ks bs ≡ args_tests t ks bs
  args_alike [] bs o = refl
  args_alike (k ∷ ks) [] o = refl
  args_alike (k ∷ ks) (b ∷ bs) o = let f = arg_alike k b o.0 in let g = args_alike ks bs o.1 in cc

  path_tests_alike : (p : ℕ) (fits : Stands → Bool) (x : Option (ℕ × List (List ℕ))) → OldSome old x → path_tests p fits s x ≡ path_tests p fits t x
  path_tests_alike p fits None o = refl
  path_tests_alike p fits (Some x) o = let e = a.same x.1 o in cc

  path_arg_alike : (fits : Stands → Bool) (b : Arg) → OldArg old b → path_arg fits s b ≡ path_arg fits t b
  path_arg_alike fits (one p e) o = path_tests_alike p fits (path_in e) (old_path_in old e o)
  path_arg_alike fits (many p es) o = refl

  single_alike : (p : ℕ) (fits : Stands → Bool) (bs : List Arg) → OldArgs old bs → single_tests p fits s bs ≡ single_tests p fits t bs
  single_alike p fits [] o = refl
  single_alike p fits (b ∷ []) o = path_arg_alike fits b o.0
  single_alike p fits (b ∷ c ∷ r) o = refl

  values_alike : (b : Arg) → OldArg old b → digest_values s b ≡ digest_values t b
  values_alike (one p e) o = refl
  values_alike (many p es) o = let f = all_free_alike old s t a es o in cc

  digest_alike : (p : ℕ) (bs : List Arg) → OldArgs old bs → digest_tests p s bs ≡ digest_tests p t bs
  digest_alike p [] o = refl
  digest_alike p (b ∷ []) o = refl
  digest_alike p (b ∷ c ∷ []) o = ap (λ q. both (receiver_arg b) q) (values_alike c o.1.0)
  digest_alike p (b ∷ c ∷ d ∷ r) o = refl

  cell_target_alike : (p : ℕ) (k : Kind) (x : Option (ℕ × List (List ℕ))) → OldSome old x → cell_target p s k x ≡ cell_target p t k x
  cell_target_alike p k None o = refl
  cell_target_alike p k (Some x) o = ap (λ st. both (target_tests x.0 st) (fit_tests x.0 (value_kind st) k)) (a.same x.1 o)

  target_arg_alike : (k : Kind) (b : Arg) → OldArg old b → target_arg s k b ≡ target_arg t k b
  target_arg_alike k (one p e) o = cell_target_alike p k (path_in e) (old_path_in old e o)
  target_arg_alike k (many p es) o = refl

  index_arg_alike : (b : Arg) → OldArg old b → index_arg s b ≡ index_arg t b
  index_arg_alike (one p e) o = index_alike old s t a e o
  index_arg_alike (many p es) o = refl

  read_alike : (p : ℕ) (k : Kind) (bs : List Arg) → OldArgs old bs → cell_read p s k bs ≡ cell_read p t k bs
  read_alike p k [] o = refl
  read_alike p k (b ∷ []) o = refl
  read_alike p k (b ∷ c ∷ []) o = let f = target_arg_alike k b o.0 in let g = index_arg_alike c o.1.0 in cc
  read_alike p k (b ∷ c ∷ d ∷ r) o = refl

  write_alike : (p : ℕ) (k : Kind) (bs : List Arg) → OldArgs old bs → cell_write p s k bs ≡ cell_write p t k bs
  write_alike p k [] o = refl
  write_alike p k (b ∷ []) o = refl
  write_alike p k (b ∷ c ∷ []) o = let f = index_arg_alike b o.0 in let g = arg_alike k c o.1.0 in cc
  write_alike p k (b ∷ c ∷ d ∷ r) o = refl

  bits_over_alike : (es : List Expr) → OldExprs old es → bits_over s es ≡ bits_over t es
  bits_over_alike [] o = refl
  bits_over_alike (e ∷ es) o = let f = own_alike old s t a e o.0 in let g = bits_over_alike es o.1 in cc

  have_bits_alike : (es : List Expr) → OldExprs old es → have_bits s es ≡ have_bits t es
  have_bits_alike [] o = refl
  have_bits_alike (e ∷ es) o = let f = own_alike old s t a e o.0 in let g = have_bits_alike es o.1 in cc

  summed_arg_alike : (b : Arg) → OldArg old b → summed_arg s b ≡ summed_arg t b
  summed_arg_alike (one p e) o = refl
  summed_arg_alike (many p es) o = let f = bits_over_alike es o in let h = have_bits_alike es o in let g = all_free_alike old s t a es o in cc

  summed_field_alike : (p : ℕ) (v : Bool) (x : Option (ℕ × List (List ℕ))) → OldSome old x → summed_field p v s x ≡ summed_field p v t x
  summed_field_alike p v None o = refl
  summed_field_alike p v (Some x) o = ap (λ st. both (summed_path x.0 v st) (fit_tests x.0 (value_kind st) (Number 16))) (a.same x.1 o)

  field_arg_alike : (v : Bool) (b : Arg) → OldArg old b → field_arg v s b ≡ field_arg v t b
  field_arg_alike v (one p e) o = summed_field_alike p v (path_in e) (old_path_in old e o)
  field_arg_alike v (many p es) o = refl

  sum_alike : (p : ℕ) (v : Bool) (bs : List Arg) → OldArgs old bs → sum_tests p v s bs ≡ sum_tests p v t bs
  sum_alike p v [] o = refl
  sum_alike p v (b ∷ []) o = refl
  sum_alike p v (b ∷ c ∷ []) o = refl
  sum_alike p v (b ∷ c ∷ d ∷ []) o = refl
  sum_alike p v (b ∷ c ∷ d ∷ e ∷ []) o =
      let f = arg_alike Truth b o.0 in
      let g = summed_arg_alike c o.1.0 in
      let h = field_arg_alike v d o.1.1.0 in
      let i = path_arg_alike is_algorithm e o.1.1.1.0 in
      cc
  sum_alike p v (b ∷ c ∷ d ∷ e ∷ f ∷ r) o = refl

  -- ---- calls

  pub form_alike : (x : List (List ℕ)) → OldPath old x → form_of s x ≡ form_of t x
  form_alike [] o = refl
  form_alike (x ∷ []) o = ap plain_form (a.same (x ∷ []) o)
  form_alike (x ∷ y ∷ rest) o = ap (λ st. verb_form st (last_name (x ∷ y ∷ rest))) (a.same (parent (x ∷ y ∷ rest)) (old_parent old (x ∷ y ∷ rest) o))

  form_tests_alike : (p : ℕ) (f : Form) (bs : List Arg) → OldArgs old bs → form_tests p s f bs ≡ form_tests p t f bs
  form_tests_alike p unknown bs o = refl
  form_tests_alike p ill bs o = refl
  form_tests_alike p drops bs o = single_alike p holds_standard bs o
  form_tests_alike p digests bs o = digest_alike p bs o
  form_tests_alike p (sums v) bs o = sum_alike p v bs o
  form_tests_alike p extracts bs o = single_alike p holds_header bs o
  form_tests_alike p emits bs o = single_alike p holds_header bs o
  form_tests_alike p applies bs o = refl
  form_tests_alike p (reads_cell k) bs o = read_alike p k bs o
  form_tests_alike p (writes_cell k) bs o = write_alike p k bs o
  form_tests_alike p makes_valid bs o = refl
  form_tests_alike p (acts ks) bs o = let e = args_alike ks bs o in cc

  call_alike : (p : ℕ) (h : Part) (x : List (List ℕ)) (bs : List Arg) → OldPath old x → OldArgs old bs → stmt_tests h s (call p x bs) ≡ stmt_tests h t (call p x bs)
  call_alike p h x bs o u = let e = form_alike x o in let f = form_tests_alike p (form_of s x) bs u in cc

  -- ---- statements

  negated_alike : (h : Part) (q : ℕ) (e : Expr) → OldExpr old e → negated_tests h s q e ≡ negated_tests h t q e
  negated_alike h q (applied p y b) o = ap (applied_tests p (takes_runs h)) (a.same (y ∷ []) (o, tt))
  negated_alike h q (num p n) o = expr_alike old s t a Truth (negation q (num p n)) o
  negated_alike h q (flag p b) o = expr_alike old s t a Truth (negation q (flag p b)) o
  negated_alike h q (path p x) o = expr_alike old s t a Truth (negation q (path p x)) o
  negated_alike h q (valid p x) o = expr_alike old s t a Truth (negation q (valid p x)) o
  negated_alike h q (error_name p x) o = expr_alike old s t a Truth (negation q (error_name p x)) o
  negated_alike h q (negation p b) o = expr_alike old s t a Truth (negation q (negation p b)) o
  negated_alike h q (inversion p b) o = expr_alike old s t a Truth (negation q (inversion p b)) o
  negated_alike h q (opposite p b) o = expr_alike old s t a Truth (negation q (opposite p b)) o
  negated_alike h q (binary p op b c) o = expr_alike old s t a Truth (negation q (binary p op b c)) o
  negated_alike h q (conditional p b c d) o = expr_alike old s t a Truth (negation q (conditional p b c d)) o
  negated_alike h q (slice p b m l) o = expr_alike old s t a Truth (negation q (slice p b m l)) o
  negated_alike h q (cast p y b) o = expr_alike old s t a Truth (negation q (cast p y b)) o

  pub if_alike : (h : Part) (e : Expr) → OldExpr old e → if_tests h s e ≡ if_tests h t e
  if_alike h (applied p y b) o = ap (applied_tests p (takes_runs h)) (a.same (y ∷ []) (o, tt))
  if_alike h (negation p b) o = negated_alike h p b o
  if_alike h (num p n) o = expr_alike old s t a Truth (num p n) o
  if_alike h (flag p b) o = expr_alike old s t a Truth (flag p b) o
  if_alike h (path p x) o = expr_alike old s t a Truth (path p x) o
  if_alike h (valid p x) o = expr_alike old s t a Truth (valid p x) o
  if_alike h (error_name p x) o = expr_alike old s t a Truth (error_name p x) o
  if_alike h (inversion p b) o = expr_alike old s t a Truth (inversion p b) o
  if_alike h (opposite p b) o = expr_alike old s t a Truth (opposite p b) o
  if_alike h (binary p op b c) o = expr_alike old s t a Truth (binary p op b c) o
  if_alike h (conditional p b c d) o = expr_alike old s t a Truth (conditional p b c d) o
  if_alike h (slice p b m l) o = expr_alike old s t a Truth (slice p b m l) o
  if_alike h (cast p y b) o = expr_alike old s t a Truth (cast p y b) o

  start_alike : (k : Kind) (e : Option Expr) → OldStart old e → start_tests s k e ≡ start_tests t k e
  start_alike k None o = refl
  start_alike k (Some e) o = expr_alike old s t a k e o

  pub var_alike : (p : ℕ) (y : PTy) (x : List ℕ) (e : Option Expr) → OldType old y → old x ≡ true → OldStart old e → var_tests p s y x e ≡ var_tests p t y x e
  var_alike p y x e o u v =
      let f = new_alike old s t a p x u in
      let g = scalar_alike old s t a p y o in
      let h = kind_alike old s t a y o in
      let i = start_alike (kind_in s y) e v in
      cc

  assign_alike : (p : ℕ) (x : List (List ℕ)) (e : Expr) → OldPath old x → OldExpr old e → both (target_tests p (s x)) (expr_tests s (value_kind (s x)) e) ≡ both (target_tests p (t x)) (expr_tests t (value_kind (t x)) e)
  assign_alike p x e o u = let f = a.same x o in let g = expr_alike old s t a (value_kind (s x)) e u in cc

  pub after_alike : (c : Stmt) → OldStmt old c → Alike old (after s c) (after t c)
  after_alike (var p y x e) o = declare_alike old s t a x (value Writable y) o.0
  after_alike (nothing p) o = a
  after_alike (block p b) o = a
  after_alike (assign p x e) o = a
  after_alike (choice p e b c) o = a
  after_alike (return_ p) o = a
  after_alike (exit_ p) o = a
  after_alike (call p x bs) o = a

pub after_all_alike : (old : Names) (s t : Scope) → Alike old s t → (b : Stmts) → OldStmts old b → Alike old (after_all s b) (after_all t b)
after_all_alike old s t a done o = a
after_all_alike old s t a (next c rest) o = after_all_alike old (after s c) (after t c) (after_alike old s t a c o.0) rest o.1

mutual
  pub stmt_alike : (old : Names) (s t : Scope) → Alike old s t → (h : Part) (c : Stmt) → OldStmt old c → stmt_tests h s c ≡ stmt_tests h t c
  stmt_alike old s t a h (nothing p) o = refl
  stmt_alike old s t a h (block p b) o = let f = block_alike old s t a h b o in cc
  stmt_alike old s t a h (var p y x e) o = let f = var_alike old s t a p y x e o.0 o.1 o.2 in cc
  stmt_alike old s t a h (assign p x e) o = let f = assign_alike old s t a p x e o.0 o.1 in cc
  stmt_alike old s t a h (choice p e b c) o =
      let f = if_alike old s t a h e o.0 in
      let g = stmt_alike old s t a h b o.1 in
      let i = else_alike old s t a h c o.2 in
      cc
  stmt_alike old s t a h (return_ p) o = refl
  stmt_alike old s t a h (exit_ p) o = refl
  stmt_alike old s t a h (call p x bs) o = call_alike old s t a p h x bs o.0 o.1

  pub block_alike : (old : Names) (s t : Scope) → Alike old s t → (h : Part) (b : Stmts) → OldStmts old b → block_tests h s b ≡ block_tests h t b
  block_alike old s t a h done o = refl
  block_alike old s t a h (next c rest) o =
      let f = stmt_alike old s t a h c o.0 in
      let g = block_alike old (after s c) (after t c) (after_alike old s t a c o.0) h rest o.1 in
      cc

  pub else_alike : (old : Names) (s t : Scope) → Alike old s t → (h : Part) (c : MaybeStmt) → OldElse old c → else_tests h s c ≡ else_tests h t c
  else_alike old s t a h without o = refl
  else_alike old s t a h (otherwise c) o = stmt_alike old s t a h c o

-- ---- digests

module _ (old : Names) (s t : Scope) (a : Alike old s t) where
  most_form_alike : (f : Form) (x : List (List ℕ)) → OldPath old x → most_of_form s f x ≡ most_of_form t f x
  most_form_alike unknown x o = refl
  most_form_alike ill x o = refl
  most_form_alike drops x o = refl
  most_form_alike digests x o = refl
  most_form_alike (sums v) x o = refl
  most_form_alike extracts x o = refl
  most_form_alike emits x o = refl
  most_form_alike applies x o = ap most_in (a.same (parent x) (old_parent old x o))
  most_form_alike (reads_cell k) x o = refl
  most_form_alike (writes_cell k) x o = refl
  most_form_alike makes_valid x o = refl
  most_form_alike (acts ks) x o = ap most_in (a.same x o)

  most_negated_alike : (q : ℕ) (e : Expr) → OldExpr old e → most_of_test s (negation q e) ≡ most_of_test t (negation q e)
  most_negated_alike q (applied p y b) o = ap most_in (a.same (y ∷ []) (o, tt))
  most_negated_alike q (num p n) o = refl
  most_negated_alike q (flag p b) o = refl
  most_negated_alike q (path p x) o = refl
  most_negated_alike q (valid p x) o = refl
  most_negated_alike q (error_name p x) o = refl
  most_negated_alike q (negation p b) o = refl
  most_negated_alike q (inversion p b) o = refl
  most_negated_alike q (opposite p b) o = refl
  most_negated_alike q (binary p op b c) o = refl
  most_negated_alike q (conditional p b c d) o = refl
  most_negated_alike q (slice p b m l) o = refl
  most_negated_alike q (cast p y b) o = refl

  most_test_alike : (e : Expr) → OldExpr old e → most_of_test s e ≡ most_of_test t e
  most_test_alike (applied p y b) o = ap most_in (a.same (y ∷ []) (o, tt))
  most_test_alike (negation p b) o = most_negated_alike p b o
  most_test_alike (num p n) o = refl
  most_test_alike (flag p b) o = refl
  most_test_alike (path p x) o = refl
  most_test_alike (valid p x) o = refl
  most_test_alike (error_name p x) o = refl
  most_test_alike (inversion p b) o = refl
  most_test_alike (opposite p b) o = refl
  most_test_alike (binary p op b c) o = refl
  most_test_alike (conditional p b c d) o = refl
  most_test_alike (slice p b m l) o = refl
  most_test_alike (cast p y b) o = refl

  mutual
    most_stmt_alike : (c : Stmt) → OldStmt old c → most_of_stmt s c ≡ most_of_stmt t c
    most_stmt_alike (nothing p) o = refl
    most_stmt_alike (block p b) o = most_alike b o
    most_stmt_alike (var p y x e) o = refl
    most_stmt_alike (assign p x e) o = refl
    most_stmt_alike (choice p e b c) o =
        let f = most_test_alike e o.0 in
        let g = most_stmt_alike b o.1 in
        let i = most_else_alike c o.2 in
        cc
    most_stmt_alike (return_ p) o = refl
    most_stmt_alike (exit_ p) o = refl
    most_stmt_alike (call p x bs) o = most_form_alike (form_of s x) x o.0 ∙ ap (λ f. most_of_form t f x) (form_alike old s t a x o.0)

    pub most_alike : (b : Stmts) → OldStmts old b → most_of s b ≡ most_of t b
    most_alike done o = refl
    most_alike (next c rest) o = let f = most_stmt_alike c o.0 in let g = most_alike rest o.1 in cc

    most_else_alike : (c : MaybeStmt) → OldElse old c → most_of_else s c ≡ most_of_else t c
    most_else_alike without o = refl
    most_else_alike (otherwise c) o = most_stmt_alike c o

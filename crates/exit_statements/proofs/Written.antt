-- Written statements without exits are, under a scope, those under the scope without exits.
use Rattle.std.proofs.Common.{codes, ◌≡◌, ℕ, List, [], ◌∷◌, map, Bool, true, false, not, ◌||◌, cond, Option, Some, None, refl, sym, ap, ap₂, ◌∙◌}
use Rattle.std.specs.Option.{option_map}
use Rattle.bit_values.specs.Bits.{Word}
use Rattle.lex_text.specs.Names.{same_text}
use Rattle.p4_tree.specs.Tree.{Expr, num, flag, path, valid, applied, error_name, negation, inversion, opposite, binary, conditional, slice, cast, Arg, one, many, Stmt, Stmts, MaybeStmt, nothing, block, var, assign, choice, return_, exit_, call, done, next, without, otherwise}
use Rattle.p4_meaning.specs.Statements.{makes, drops, runs, applies, idle, read_of, write_of, digest_of, sum_of, values_in, act_named, act_on, act_on_header, act_of, application}
use Rattle.p4_meaning.specs.Scope.{Scope, full_name, first_name, path_under, constant_at}
use Rattle.p4_meaning.specs.Under.{constant_or_path, callee_under, expr_under, arg_under, stmt_under, else_under, stmts_under}
use Rattle.exit_statements.specs.Without.{Body, in_action, in_control, Flags, flag_of, raised, guarded, exit_in, Exits, table_leaves, test_leaves, call_leaves, stmt_leaves, else_leaves, stmts_leave, is_var, in_list, in_branch, stmt_without, else_without, stmts_without}
use Rattle.exit_statements.specs.Written.{flags_under, exits_written, is_function, ShowsFlags, NamesAgree}

-- ---- calls

module _ (m : Exits) where
  reads_stay : (x : List ℕ) (args : List Arg) → call_leaves m (read_of x args) ≡ false
  reads_stay x (one p (path q target) ∷ one r i ∷ []) = refl
  reads_stay x _ = refl

  writes_stay : (x : List ℕ) (args : List Arg) → call_leaves m (write_of x args) ≡ false
  writes_stay x (one p i ∷ one q v ∷ []) = refl
  writes_stay x _ = refl

  digest_stays : (args : List Arg) → call_leaves m (digest_of args) ≡ false
  digest_stays (one p (num q n) ∷ many r es ∷ []) = refl
  digest_stays _ = refl

  sum_stays : (v : Bool) (args : List Arg) → call_leaves m (sum_of v args) ≡ false
  sum_stays v (one p c ∷ many q es ∷ one r (path t field) ∷ one u h ∷ []) = refl
  sum_stays v _ = refl

  -- a call by one name leaves where it runs an action that may exit
  named_leaves : (x : List ℕ) (args : List Arg) → call_leaves m (act_named x args) ≡ cond (is_function x) false (m.action x)
  named_leaves x args = go (same_text x (codes "mark_to_drop")) (same_text x (codes "digest")) (same_text x (codes "verify_checksum")) (same_text x (codes "update_checksum"))
    where
      go : (a b c d : Bool) → call_leaves m (cond a drops (cond b (digest_of args) (cond c (sum_of true args) (cond d (sum_of false args) (runs x (values_in args)))))) ≡ cond (a || (b || (c || d))) false (m.action x)
      go true b c d = refl
      go false true c d = digest_stays args
      go false false true d = sum_stays true args
      go false false false true = sum_stays false args
      go false false false false = refl

  -- a call by two names where it applies a table that may run such an action
  pub on_leaves : (x verb : List ℕ) (args : List Arg) → call_leaves m (act_on x verb args) ≡ cond (same_text verb (codes "read")) false (cond (same_text verb (codes "write")) false (cond (same_text verb (codes "apply")) (m.table x) false))
  on_leaves x verb args = go (same_text verb (codes "read")) (same_text verb (codes "write")) (same_text verb (codes "apply"))
    where
      go : (a b c : Bool) → call_leaves m (cond a (read_of x args) (cond b (write_of x args) (cond c (applies x) idle))) ≡ cond a false (cond b false (cond c (m.table x) false))
      go true b c = reads_stay x args
      go false true c = writes_stay x args
      go false false true = refl
      go false false false = refl

  header_stays : (h : List (List ℕ)) (verb : List ℕ) → call_leaves m (act_on_header h verb) ≡ false
  header_stays h verb = go (same_text verb (codes "setValid")) (same_text verb (codes "setInvalid"))
    where
      go : (a b : Bool) → call_leaves m (cond a (makes h true) (cond b (makes h false) idle)) ≡ false
      go true b = refl
      go false true = refl
      go false false = refl

-- ---- what may leave

module _ (sc : Scope) (n : Flags) (m : Exits) (shown : ShowsFlags sc n) where
  abbrev w : Exits
  w = exits_written sc m

  abbrev k : Flags
  k = flags_under sc n

  abbrev renamed : List ℕ × Bool → List ℕ × Bool
  renamed t = (full_name sc t.0, t.1)

  abbrev turned : List ℕ × Bool → List ℕ × Bool
  turned t = (t.0, not t.1)

  path_no_test : (p : ℕ) (o : Option Word) (names : List (List ℕ)) → application (constant_or_path p o names) ≡ None
  path_no_test p None names = refl
  path_no_test p (Some v) names = refl

  test_same : (e : Expr) → application (expr_under sc e) ≡ option_map renamed (application e)
  test_same (num p v) = refl
  test_same (flag p b) = refl
  test_same (path p names) = path_no_test p (constant_at sc names) (path_under sc names)
  test_same (valid p header) = refl
  test_same (applied p table hit) = refl
  test_same (error_name p x) = refl
  test_same (negation p a) = ap (option_map turned) (test_same a) ∙ go (application a)
    where
      go : (o : Option (List ℕ × Bool)) → option_map turned (option_map renamed o) ≡ option_map renamed (option_map turned o)
      go None = refl
      go (Some t) = refl
  test_same (inversion p a) = refl
  test_same (opposite p a) = refl
  test_same (binary p op a b) = refl
  test_same (conditional p t a b) = refl
  test_same (slice p a high low) = refl
  test_same (cast p ty a) = refl

  tests_leave : (e : Expr) → test_leaves m (expr_under sc e) ≡ test_leaves w e
  tests_leave e = ap (table_leaves m) (test_same e) ∙ go (application e)
    where
      go : (o : Option (List ℕ × Bool)) → table_leaves m (option_map renamed o) ≡ table_leaves w o
      go None = refl
      go (Some t) = refl

  calls_leave : (callee : List (List ℕ)) (args : List Arg) → call_leaves m (act_of (callee_under sc callee) (map (arg_under sc) args)) ≡ call_leaves w (act_of callee args)
  calls_leave [] args = refl
  calls_leave (x ∷ []) args =
      named_leaves m (full_name sc x) (map (arg_under sc) args)
      ∙ (ap (λ b. cond b false (m.action (full_name sc x))) (shown.functions x) ∙ sym (named_leaves w x args))
  calls_leave (x ∷ verb ∷ []) args = on_leaves m (full_name sc x) verb (map (arg_under sc) args) ∙ sym (on_leaves w x verb args)
  calls_leave (x ∷ y ∷ verb ∷ []) args = header_stays m (first_name sc x ∷ y ∷ []) verb ∙ sym (header_stays w (x ∷ y ∷ []) verb)
  calls_leave (x ∷ y ∷ z ∷ u ∷ rest) args = refl

  mutual
    leaves : (s : Stmt) → stmt_leaves m (stmt_under sc s) ≡ stmt_leaves w s
    leaves (nothing p) = refl
    leaves (block p ss) = leave ss
    leaves (var p ty x e) = refl
    leaves (assign p target e) = refl
    leaves (choice p e s t) = ap₂ (λ a b. a || b) (tests_leave e) (ap₂ (λ a b. a || b) (leaves s) (others_leave t))
    leaves (return_ p) = refl
    leaves (exit_ p) = refl
    leaves (call p callee args) = calls_leave callee args

    others_leave : (s : MaybeStmt) → else_leaves m (else_under sc s) ≡ else_leaves w s
    others_leave without = refl
    others_leave (otherwise s) = leaves s

    pub leave : (ss : Stmts) → stmts_leave m (stmts_under sc ss) ≡ stmts_leave w ss
    leave done = refl
    leave (next s ss) = ap₂ (λ a b. a || b) (leaves s) (leave ss)

  -- ---- the rewriting

  flag_same : (body : Body) → flag_of k body ≡ first_name sc (flag_of n body)
  flag_same in_action = refl
  flag_same in_control = refl

  plain_flag : (body : Body) → constant_at sc (flag_of n body ∷ []) ≡ None
  plain_flag in_action = shown.returned
  plain_flag in_control = shown.left

  module _ (body : Body) where
    guard_same : (s t : Stmt) → stmt_under sc s ≡ t → stmt_under sc (guarded (flag_of n body) s) ≡ guarded (flag_of k body) t
    guard_same s t e =
        ap₂ (λ (x : Expr) (y : Stmt). choice 0 (negation 0 x) y without) (ap (λ o. constant_or_path 0 o (first_name sc (flag_of n body) ∷ [])) (plain_flag body)) e
        ∙ ap (λ x. guarded x t) (sym (flag_same body))

    raised_same : stmt_under sc (raised (flag_of n body)) ≡ raised (flag_of k body)
    raised_same = ap raised (sym (flag_same body))

    exit_same : (body : Body) → stmt_under sc (exit_in n body) ≡ exit_in k body
    exit_same in_action = refl
    exit_same in_control = refl

    var_same : (s : Stmt) → is_var (stmt_under sc s) ≡ is_var s
    var_same (nothing p) = refl
    var_same (block p ss) = refl
    var_same (var p ty x e) = refl
    var_same (assign p target e) = refl
    var_same (choice p e s t) = refl
    var_same (return_ p) = refl
    var_same (exit_ p) = refl
    var_same (call p callee args) = refl

    list_same : (l v : Bool) (s t : Stmt) → stmt_under sc s ≡ t → stmt_under sc (in_list n w body l v s) ≡ in_list k m body l v t
    list_same true false s t e = guard_same s t e
    list_same true true s t e = e
    list_same false v s t e = e

    branch_same : (l : Bool) (s t : Stmt) → stmt_under sc s ≡ t → stmt_under sc (in_branch n w body l s) ≡ in_branch k m body l t
    branch_same true s t e = ap (λ x. block 0 (next x done)) (guard_same s t e)
    branch_same false s t e = e

    mutual
      same : (s : Stmt) → stmt_under sc (stmt_without n w body s) ≡ stmt_without k m body (stmt_under sc s)
      same (nothing p) = refl
      same (block p ss) = ap (block p) (sames false ss)
      same (var p ty x e) = refl
      same (assign p target e) = refl
      same (choice p e s t) =
          ap₂ (λ (a : Stmt) (b : MaybeStmt). choice p (expr_under sc e) a b)
          (branch_same (test_leaves w e) (stmt_without n w body s) (stmt_without k m body (stmt_under sc s)) (same s) ∙ ap (λ l. in_branch k m body l (stmt_without k m body (stmt_under sc s))) (sym (tests_leave e)))
          (same_else (test_leaves w e) t ∙ ap (λ l. else_without k m body l (else_under sc t)) (sym (tests_leave e)))
      same (return_ p) = raised_same
      same (exit_ p) = exit_same body
      same (call p callee args) = refl

      same_else : (l : Bool) (s : MaybeStmt) → else_under sc (else_without n w body l s) ≡ else_without k m body l (else_under sc s)
      same_else l without = refl
      same_else l (otherwise s) = ap otherwise (branch_same l (stmt_without n w body s) (stmt_without k m body (stmt_under sc s)) (same s))

      sames : (l : Bool) (ss : Stmts) → stmts_under sc (stmts_without n w body l ss) ≡ stmts_without k m body l (stmts_under sc ss)
      sames l done = refl
      sames l (next s ss) =
          ap₂ next
          (list_same l (is_var s) (stmt_without n w body s) (stmt_without k m body (stmt_under sc s)) (same s) ∙ ap (λ v. in_list k m body l v (stmt_without k m body (stmt_under sc s))) (sym (var_same s)))
          (sames (l || stmt_leaves w s) ss ∙ ap (λ l. stmts_without k m body l (stmts_under sc ss)) (ap (λ b. l || b) (sym (leaves s))))

pub names_agree : NamesAgree
names_agree sc n m body left ss shown = sames sc n m shown body left ss

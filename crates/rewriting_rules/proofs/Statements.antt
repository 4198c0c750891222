-- Statements with other values are statements with other expressions, as the laws of the rules know them.
use Rattle.std.proofs.Common.{◌≡◌, codes, ℕ, List, [], ◌∷◌, true, false, Option, refl, sym, ap, ◌∙◌, subst}
use Rattle.std.specs.List.{AllZip}
use Rattle.rule_tests.specs.Tests.{IsFine}
use Rattle.p4_tree.specs.Tree.{Expr, Arg, one, many, Stmt, Stmts, MaybeStmt, var, choice, call}
use Rattle.p4_tree.specs.declared.statement.PTy.{PTy}
use Rattle.p4_scopes.specs.Scopes.{Stands, missing, typed, held, cells, act, rows, state, function, algorithm, other, Scope}
use Rattle.p4_scopes.specs.declared.thing.Function.{Function}
use Rattle.p4_scopes.specs.declared.thing.Function.TheVariants.{MarkToDrop, Digest, VerifyChecksum, UpdateChecksum}
use Rattle.p4_statement_rules.specs.Forms.{plain_form, verb_form, form_of}
use Rattle.p4_statement_rules.specs.Calls.{form_tests}
use Rattle.p4_statement_rules.specs.Statements.{after, stmt_tests, else_tests, block_tests}
use Rattle.p4_statement_rules.specs.declared.rule.Part.{Part}
use Rattle.p4_rule_laws.specs.Replaced as replaced
use Rattle.p4_rule_laws.specs.Replaced.{Replaces, ExprsReplaced, ArgReplaced, ArgsReplaced, CallReplaced, StmtReplaced, same, ElseReplaced, BlockReplaced}
use Rattle.p4_typing_laws.proofs.CallCounts.{function_name, is_function_name}
use Rattle.rewriting_laws.specs.Standing.{MayStandFor}
use Rattle.rewritten_programs.specs.Rewritten.{StartRewritten, no_start, in_start, TestRewritten, outcome, in_test, StmtRewritten, lone, returns, exits, in_block, in_var, in_assign, in_choice, in_call, ElseRewritten, no_else, in_else, BlockRewritten, none_left, first_then}
use Rattle.rewriting_rules.proofs.Calls.{ArgStands, ArgsStand, CallStands, kept, in_action, in_digest, in_verify, in_update, in_read, in_write, IsCells, read_cells, written_cells, call_stands}
use Rattle.rewriting_rules.specs.Knows.{Knows}
use Rattle.rewriting_rules.proofs.Knows.{after_knows}

broken : {A : Type 0} → true ≡ false → A
broken h = absurd (cc)

-- ---- calls

function_is : (f : Function) → is_function_name (function_name f) ≡ true
function_is MarkToDrop = refl
function_is Digest = refl
function_is VerifyChecksum = refl
function_is UpdateChecksum = refl

module _ (s : Scope) (k : Knows s) where
  exprs_replaced : (es fs : List Expr) → AllZip MayStandFor es fs → ExprsReplaced s es fs
  exprs_replaced [] [] r = tt
  exprs_replaced [] (f ∷ fs) r = absurd r
  exprs_replaced (e ∷ es) [] r = absurd r
  exprs_replaced (e ∷ es) (f ∷ fs) r = (r.0.typed s k.sound, exprs_replaced es fs r.1)

  arg_replaced : (a b : Arg) → ArgStands MayStandFor a b → ArgReplaced s a b
  arg_replaced (one p e) (one q f) r = (r.0, r.1.typed s k.sound)
  arg_replaced (one p e) (many q fs) r = absurd r
  arg_replaced (many p es) (one q f) r = absurd r
  arg_replaced (many p es) (many q fs) r = (r.0, exprs_replaced es fs r.1)

  args_replaced : (xs ys : List Arg) → ArgsStand MayStandFor xs ys → ArgsReplaced s xs ys
  args_replaced [] [] r = tt
  args_replaced [] (b ∷ ys) r = absurd r
  args_replaced (a ∷ xs) [] r = absurd r
  args_replaced (a ∷ xs) (b ∷ ys) r = (arg_replaced a b r.0, args_replaced xs ys r.1)

  action_replaced : (p : ℕ) (x : List ℕ) (xs ys : List Arg) → is_function_name x ≡ false → ArgsStand MayStandFor xs ys → (st : Stands) → s (x ∷ []) ≡ st → IsFine (form_tests p s (plain_form st) xs) → CallReplaced s (plain_form st) xs ys
  action_replaced p x xs ys h r missing e f = broken f
  action_replaced p x xs ys h r (typed g t) e f = broken f
  action_replaced p x xs ys h r (held a t) e f = broken f
  action_replaced p x xs ys h r (cells c) e f = broken f
  action_replaced p x xs ys h r (act ks m) e f = args_replaced xs ys r
  action_replaced p x xs ys h r (rows m) e f = broken f
  action_replaced p x xs ys h r state e f = broken f
  action_replaced p x xs ys h r (function g) e f = broken (sym (function_is g) ∙ (ap is_function_name (sym (k.calls.functions x g e)) ∙ h))
  action_replaced p x xs ys h r algorithm e f = broken f
  action_replaced p x xs ys h r other e f = broken f

  read_replaced : (t : Arg) (q : ℕ) (i j : Expr) → MayStandFor i j → (st : Stands) → IsCells MayStandFor st → CallReplaced s (verb_form st (codes "read")) (t ∷ one q i ∷ []) (t ∷ one q j ∷ [])
  read_replaced t q i j r (cells c) h = (refl, ((refl, r.typed s k.sound), tt))
  read_replaced t q i j r _ h = absurd h

  write_replaced : (o q : ℕ) (i j v u : Expr) → MayStandFor i j → MayStandFor v u → (st : Stands) → IsCells MayStandFor st → CallReplaced s (verb_form st (codes "write")) (one o i ∷ one q v ∷ []) (one o j ∷ one q u ∷ [])
  write_replaced o q i j v u r w (cells c) h = ((refl, r.typed s k.sound), ((refl, w.typed s k.sound), tt))
  write_replaced o q i j v u r w _ h = absurd h

  call_replaced : (p : ℕ) (x : List (List ℕ)) (xs ys : List Arg) → CallStands MayStandFor x xs ys → IsFine (form_tests p s (form_of s x) xs) → StmtReplaced s (call p x xs) (call p x ys)
  call_replaced p x xs ys (kept h) f = same
  call_replaced p _ xs ys (in_action x h r) f = replaced.in_args p (x ∷ []) (action_replaced p x xs ys h r (s (x ∷ [])) refl f)
  call_replaced p _ _ _ (in_digest n q {es = es} {fs = fs} r) f =
      let x = codes "digest" in
      replaced.in_args p (x ∷ []) (subst (λ (st : Stands). CallReplaced s (plain_form st) (n ∷ many q es ∷ []) (n ∷ many q fs ∷ [])) (sym (k.core.kept x refl)) (refl, ((refl, exprs_replaced es fs r), tt)))
  call_replaced p _ _ _ (in_verify o q n h {c = c} {d = d} {es = es} {fs = fs} r w) f =
      let x = codes "verify_checksum" in
      replaced.in_args p (x ∷ []) (subst (λ (st : Stands). CallReplaced s (plain_form st) (one o c ∷ many q es ∷ n ∷ h ∷ []) (one o d ∷ many q fs ∷ n ∷ h ∷ [])) (sym (k.core.kept x refl)) ((refl, r.typed s k.sound), (refl, exprs_replaced es fs w), refl))
  call_replaced p _ _ _ (in_update o q n h {c = c} {d = d} {es = es} {fs = fs} r w) f =
      let x = codes "update_checksum" in
      replaced.in_args p (x ∷ []) (subst (λ (st : Stands). CallReplaced s (plain_form st) (one o c ∷ many q es ∷ n ∷ h ∷ []) (one o d ∷ many q fs ∷ n ∷ h ∷ [])) (sym (k.core.kept x refl)) ((refl, r.typed s k.sound), (refl, exprs_replaced es fs w), refl))
  call_replaced p _ _ _ (in_read x t q {i = i} {j = j} r) f = replaced.in_args p (x ∷ codes "read" ∷ []) (read_replaced t q i j r (s (x ∷ [])) (read_cells MayStandFor p s (t ∷ one q i ∷ []) (s (x ∷ [])) f))
  call_replaced p _ _ _ (in_write x o q {i = i} {j = j} {v = v} {u = u} r w) f = replaced.in_args p (x ∷ codes "write" ∷ []) (write_replaced o q i j v u r w (s (x ∷ [])) (written_cells MayStandFor p s (one o i ∷ one q v ∷ []) (s (x ∷ [])) f))

-- ---- statements

start_replaced : (s : Scope) → Knows s → {d e : Option Expr} → StartRewritten MayStandFor d e → (p : ℕ) (t : PTy) (x : List ℕ) → StmtReplaced s (var p t x d) (var p t x e)
start_replaced s k no_start p t x = same
start_replaced s k (in_start r) p t x = replaced.in_start p t x (r.typed s k.sound)

choice_replaced : (s : Scope) → Knows s → {e f : Expr} → TestRewritten MayStandFor e f → (p : ℕ) {a b : Stmt} {c d : MaybeStmt} → StmtReplaced s a b → ElseReplaced s c d → StmtReplaced s (choice p e a c) (choice p f b d)
choice_replaced s k (outcome h) p r q = replaced.in_branches p r q
choice_replaced s k (in_test h w) p r q = replaced.in_test p h (w.typed s k.sound) r q

mutual
  pub stmt_replaced : {c d : Stmt} → StmtRewritten MayStandFor c d → (h : Part) (s : Scope) → Knows s → IsFine (stmt_tests h s c) → StmtReplaced s c d
  stmt_replaced (lone p) h s k f = same
  stmt_replaced (returns p) h s k f = same
  stmt_replaced (exits p) h s k f = same
  stmt_replaced (in_block p r) h s k f = replaced.in_block p (block_replaced r h s k f.1)
  stmt_replaced (in_var p t x r) h s k f = start_replaced s k r p t x
  stmt_replaced (in_assign p x r) h s k f = replaced.in_value p x (r.typed s k.sound)
  stmt_replaced (in_choice p r a b) h s k f = choice_replaced s k r p (stmt_replaced a h s k f.1.1.0) (else_replaced b h s k f.1.1.1)
  stmt_replaced (in_call {xs = xs} {ys = ys} p x r) h s k f = call_replaced s k p x xs ys (call_stands MayStandFor p s k.core xs ys x r f.1) f.1

  pub else_replaced : {c d : MaybeStmt} → ElseRewritten MayStandFor c d → (h : Part) (s : Scope) → Knows s → IsFine (else_tests h s c) → ElseReplaced s c d
  else_replaced no_else h s k f = replaced.no_else
  else_replaced (in_else r) h s k f = replaced.in_else (stmt_replaced r h s k f)

  pub block_replaced : {a b : Stmts} → BlockRewritten MayStandFor a b → (h : Part) (s : Scope) → Knows s → IsFine (block_tests h s a) → BlockReplaced s a b
  block_replaced none_left h s k f = replaced.none_left
  block_replaced (first_then {c = c} r q) h s k f = replaced.first_then (stmt_replaced r h s k f.0) (block_replaced q h (after s c) (after_knows h s k c f.0) f.1)

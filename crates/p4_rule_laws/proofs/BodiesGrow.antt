-- Statements in front of those of a control and behind them, and a header that is emitted before all others.
use Rattle.std.proofs.Common.{◌≡◌, ℕ, List, [], ◌∷◌, ◌++◌, true, false, ◌||◌, refl, sym, ap, ◌∙◌, subst}
use Rattle.std.proofs.lemmas.Slice.Eq.{slice_eq-Decides, bytes_eq-Decides}
use Rattle.lex_text.specs.Names.{same_path}
use Rattle.rule_tests.specs.Tests.{IsFine}
use Rattle.p4_tree.specs.Tree.{Expr, num, flag, path, valid, applied, error_name, negation, inversion, opposite, binary, conditional, slice, cast, Arg, one, many, Stmt, Stmts, nothing, block, var, assign, choice, return_, exit_, call, done, next, and_then}
use Rattle.p4_scopes.specs.Scopes.{Scope}
use Rattle.p4_statement_rules.specs.Forms.{Form, unknown, ill, drops, digests, sums, extracts, emits, applies, reads_cell, writes_cell, makes_valid, acts, form_of, path_in}
use Rattle.p4_statement_rules.specs.Statements.{after_all, stmt_tests, block_tests}
use Rattle.p4_statement_rules.specs.declared.rule.Part.{Part}
use Rattle.p4_statement_rules.specs.declared.rule.Part.TheVariants as place
use Rattle.p4_declaration_rules.specs.Controls.{some_path, arg_path, form_emits, stmt_emits, is_one_of, emit_at, emit_tests, emitted_behind, emits_tests, once_tests}
use Rattle.p4_rule_laws.specs.Old.{Names, OldPath, OldExpr, OldArgs, OldStmt, OldStmts, Alike}
use Rattle.p4_rule_laws.specs.Kept.{Keeps, NewVars}
use Rattle.p4_rule_laws.specs.Replaced.{BlockReplaced}
use Rattle.p4_rule_laws.specs.Growth.{BodyGrows, is_deparser}
use Rattle.p4_rule_laws.proofs.AlikeStmts.{block_alike}
use Rattle.p4_rule_laws.proofs.AlikePrograms.{once_alike}
use Rattle.p4_rule_laws.proofs.KeepsLemmas.{keeps_trans, after_all_keeps, skip_stmts}
use Rattle.p4_rule_laws.proofs.WiderLemmas.{told}
use Rattle.p4_rule_laws.proofs.JoinedLemmas.{block_joined}
use Rattle.p4_rule_laws.proofs.ReplacedLemmas.{block_replaced}

-- elsewhere than in the deparser nothing is emitted
nothing_once : (h : Part) (s : Scope) (b : Stmts) → is_deparser h ≡ false → IsFine (once_tests h s b)
nothing_once place.Deparser s b e = absurd (let c : true ≡ false = e in cc)
nothing_once place.State s b e = tt
nothing_once place.Verify s b e = tt
nothing_once place.Apply s b e = tt
nothing_once place.Action s b e = tt
nothing_once place.Compute s b e = tt
nothing_once place.Other s b e = tt

pub same_body : (old : Names) (h : Part) (s t : Scope) (b : Stmts) → OldStmts old b → BodyGrows old h s t b b
same_body old h s t b o = record { fine = λ a f. subst IsFine (block_alike old s t a h b o) f; once = λ a f. subst IsFine (once_alike old s t a h b o) f }

pub around_body :
    (old : Names) (h : Part) (s t : Scope) (entry b c exit : Stmts) → is_deparser h ≡ false → IsFine (block_tests h t entry) → NewVars old entry → BodyGrows old h s (after_all t entry) b c
    → (Keeps t (after_all (after_all t entry) c) → IsFine (block_tests h (after_all (after_all t entry) c) exit)) → BodyGrows old h s t b (and_then entry (and_then c exit))
around_body old h s t entry b c exit e f n g i = record { fine = all; once = λ a k. nothing_once h t (and_then entry (and_then c exit)) e }
  where
    all : Alike old s t → IsFine (block_tests h s b) → IsFine (block_tests h t (and_then entry (and_then c exit)))
    all a k =
        let own = g.fine (skip_stmts old s t a entry n) k in
        let keeps = keeps_trans t (after_all t entry) (after_all (after_all t entry) c) (after_all_keeps h t entry f) (after_all_keeps h (after_all t entry) c own) in
        block_joined h t entry (and_then c exit) f (block_joined h (after_all t entry) c exit own (i keeps))

pub replaced_body : (old : Names) (h : Part) (s t : Scope) (b c d : Stmts) → is_deparser h ≡ false → BodyGrows old h s t b c → BlockReplaced t c d → BodyGrows old h s t b d
replaced_body old h s t b c d e g r = record { fine = λ a k. block_replaced r h (g.fine a k); once = λ a k. nothing_once h t d e }

-- ---- what is emitted

-- each path of a list is old
abbrev OldPaths : Names → List (List (List ℕ)) → Type 0
OldPaths old [] = Unit {0}
OldPaths old (x ∷ xs) = OldPath old x × OldPaths old xs

old_expr_path : (old : Names) (e : Expr) → OldExpr old e → OldPaths old (some_path (path_in e))
old_expr_path old (path p x) o = (o, tt)
old_expr_path old (num p n) o = tt
old_expr_path old (flag p b) o = tt
old_expr_path old (valid p x) o = tt
old_expr_path old (applied p y h) o = tt
old_expr_path old (error_name p x) o = tt
old_expr_path old (negation p b) o = tt
old_expr_path old (inversion p b) o = tt
old_expr_path old (opposite p b) o = tt
old_expr_path old (binary p op b c) o = tt
old_expr_path old (conditional p b c d) o = tt
old_expr_path old (slice p b h l) o = tt
old_expr_path old (cast p y b) o = tt

old_arg_path : (old : Names) (bs : List Arg) → OldArgs old bs → OldPaths old (arg_path bs)
old_arg_path old [] o = tt
old_arg_path old (one p e ∷ []) o = old_expr_path old e o.0
old_arg_path old (many p es ∷ []) o = tt
old_arg_path old (one p e ∷ b ∷ bs) o = tt
old_arg_path old (many p es ∷ b ∷ bs) o = tt

old_form_emits : (old : Names) (f : Form) (bs : List Arg) → OldArgs old bs → OldPaths old (form_emits f bs)
old_form_emits old emits bs o = old_arg_path old bs o
old_form_emits old unknown bs o = tt
old_form_emits old ill bs o = tt
old_form_emits old drops bs o = tt
old_form_emits old digests bs o = tt
old_form_emits old (sums v) bs o = tt
old_form_emits old extracts bs o = tt
old_form_emits old applies bs o = tt
old_form_emits old (reads_cell k) bs o = tt
old_form_emits old (writes_cell k) bs o = tt
old_form_emits old makes_valid bs o = tt
old_form_emits old (acts ks) bs o = tt

old_emits : (old : Names) (s : Scope) (c : Stmt) → OldStmt old c → OldPaths old (stmt_emits s c)
old_emits old s (call p x bs) o = old_form_emits old (form_of s x) bs o.1
old_emits old s (nothing p) o = tt
old_emits old s (block p b) o = tt
old_emits old s (var p y x e) o = tt
old_emits old s (assign p x e) o = tt
old_emits old s (choice p e b c) o = tt
old_emits old s (return_ p) o = tt
old_emits old s (exit_ p) o = tt

module _ (old : Names) (x : List (List ℕ)) (n : OldPath old x → ⊥) where
  other_path : (y : List (List ℕ)) → OldPath old y → same_path x y ≡ false
  other_path y o =
      let same : same_path x y ≡ true → x ≡ y = λ e. (slice_eq-Decides bytes_eq-Decides x y (same_path x y) refl).0 e in
      told (same_path x y) (λ e. let P : List (List ℕ) → Type 0 = λ z. OldPath old z in n (subst P (sym (same e)) o))

  not_before : (before : List (List (List ℕ))) (y : List (List ℕ)) → OldPath old y → is_one_of (before ++ x ∷ []) y ≡ is_one_of before y
  not_before [] y o = ap (λ b. b || false) (other_path y o)
  not_before (z ∷ zs) y o = ap (λ b. same_path z y || b) (not_before zs y o)

  emit_same : (p : ℕ) (before now : List (List (List ℕ))) → OldPaths old now → IsFine (emit_tests before p now) → IsFine (emit_tests (before ++ x ∷ []) p now)
  emit_same p before [] o f = tt
  emit_same p before (y ∷ ys) o f = not_before before y o.0 ∙ f

  behind_same : (now before : List (List (List ℕ))) → emitted_behind now (before ++ x ∷ []) ≡ emitted_behind now before ++ x ∷ []
  behind_same [] before = refl
  behind_same (y ∷ ys) before = refl

  emits_same : (s : Scope) (before : List (List (List ℕ))) (b : Stmts) → OldStmts old b → IsFine (emits_tests s before b) → IsFine (emits_tests s (before ++ x ∷ []) b)
  emits_same s before done o f = tt
  emits_same s before (next c b) o f =
      let P : List (List (List ℕ)) → Type 0 = λ z. IsFine (emits_tests s z b) in (
        emit_same (emit_at c) before (stmt_emits s c) (old_emits old s c o.0) f.0,
        subst P (sym (behind_same (stmt_emits s c) before)) (emits_same s (emitted_behind (stmt_emits s c) before) b o.1 f.1),
      )

-- a call that emits what is no old path, before all that the given deparser emits
pub emitted_body :
    (old : Names) (s t : Scope) (p : ℕ) (n : List (List ℕ)) (args : List Arg) (x : List (List ℕ)) (b : Stmts) → OldStmts old b → IsFine (stmt_tests place.Deparser t (call p n args)) → stmt_emits t (call p n args) ≡ x ∷ []
    → (OldPath old x → ⊥) → BodyGrows old place.Deparser s t b (next (call p n args) b)
emitted_body old s t p n args x b o f e m =
    record {
      fine = λ a k. (f, subst IsFine (block_alike old s t a place.Deparser b o) k);
      once = λ a k. (
          let P : List (List (List ℕ)) → Type 0 = λ now. IsFine (emit_tests [] p now) × IsFine (emits_tests t (emitted_behind now []) b) in
          subst P (sym e) (refl, emits_same old x m t [] b o (subst IsFine (once_alike old s t a place.Deparser b o) k))
          );
    }

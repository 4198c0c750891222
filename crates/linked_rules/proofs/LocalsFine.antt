-- Local declarations whose reads of the packet's length are rewritten grow: what they give and declare is the same.
use Rattle.std.proofs.Common.{codes, ◌≡◌, ℕ, List, [], ◌∷◌, map, Bool, not, ◌&&◌, ◌||◌, max, Option, Some, None, refl, sym, ap, ap₂, ◌∙◌, subst}
use Rattle.std.specs.Option.{option_map}
use Rattle.lex_text.specs.Names.{same_text}
use Rattle.rule_tests.specs.Tests.{IsFine}
use Rattle.p4_tree.specs.Tree.{Expr, num, flag, path, valid, applied, error_name, negation, inversion, opposite, binary, conditional, slice, cast, Stmt, Stmts, MaybeStmt, nothing, block, var, assign, choice, return_, exit_, call, done, next, without, otherwise, Action, Local, local_action, local_table, local_register, local_const, local_var}
use Rattle.p4_tree.specs.declared.statement.PTy.{PTy}
use Rattle.p4_meaning.specs.Scope.{Roots}
use Rattle.p4_scopes.specs.Kinds.{as_value}
use Rattle.p4_scopes.specs.Scopes.{Scope, own, add_up}
use Rattle.p4_statement_rules.specs.Expressions.{expr_tests, free_tests}
use Rattle.p4_statement_rules.specs.declared.rule.Part.{Part}
use Rattle.p4_declaration_rules.specs.Digests.{most_of_test, most_of_stmt, most_of_else, most_of}
use Rattle.p4_declaration_rules.specs.Declarations.{with_params, action_tests}
use Rattle.p4_declaration_rules.specs.Tables.{keys_tests, all_key_kinds, has_key_kind, has_two_prefixes, ill_matched, is_key_kind}
use Rattle.p4_declaration_rules.specs.Controls.{action_part, after_local}
use Rattle.p4_rule_laws.specs.Old.{Names, Alike}
use Rattle.p4_rule_laws.specs.OldPrograms.{OldLocal, OldLocals}
use Rattle.p4_rule_laws.specs.Kept.{Keeps}
use Rattle.p4_rule_laws.specs.Growth.{ActionGrows, LocalGrows, LocalsGrow, no_local, same_local, other_local}
use Rattle.p4_rule_laws.proofs.AlikeStmts.{block_alike, most_alike}
use Rattle.p4_rule_laws.proofs.AlikePrograms.{local_alike, after_local_alike}
use Rattle.p4_rule_laws.proofs.KeepsLemmas.{with_params_keeps}
use Rattle.p4_rule_laws.proofs.ReplacedLemmas as old_lemmas
use Rattle.p4_rule_laws.specs.ReplacedPrograms.{KeysReplaced}
use Rattle.p4_rule_laws.proofs.ReplacedTables.{keys_replaced}
use Rattle.p4_rule_laws.proofs.GrowthLemmas.{action_in_place, value_replaced}
use Rattle.linked_programs.specs.Rewritten.{expr_with, stmt_with, else_with, stmts_with, key_with, table_with, action_with, local_with}
use Rattle.linked_rules.specs.Lengths.{HasLength}
use Rattle.linked_rules.proofs.LengthFine.{length_kept, expr_replaced, block_replaced}

-- ---- digests

test_most : (r : Roots) (s : Scope) (e : Expr) → most_of_test s (expr_with r e) ≡ most_of_test s e
test_most r s (negation q (applied p t b)) = refl
test_most r s (negation q (num p n)) = refl
test_most r s (negation q (flag p n)) = refl
test_most r s (negation q (path p x)) = refl
test_most r s (negation q (valid p x)) = refl
test_most r s (negation q (error_name p x)) = refl
test_most r s (negation q (negation p a)) = refl
test_most r s (negation q (inversion p a)) = refl
test_most r s (negation q (opposite p a)) = refl
test_most r s (negation q (binary p op a b)) = refl
test_most r s (negation q (conditional p c a b)) = refl
test_most r s (negation q (slice p a h l)) = refl
test_most r s (negation q (cast p t a)) = refl
test_most r s (num p n) = refl
test_most r s (flag p n) = refl
test_most r s (path p x) = refl
test_most r s (valid p x) = refl
test_most r s (applied p t b) = refl
test_most r s (error_name p x) = refl
test_most r s (inversion p a) = refl
test_most r s (opposite p a) = refl
test_most r s (binary p op a b) = refl
test_most r s (conditional p c a b) = refl
test_most r s (slice p a h l) = refl
test_most r s (cast p t a) = refl

mutual
  stmt_most : (r : Roots) (s : Scope) (c : Stmt) → most_of_stmt s (stmt_with r c) ≡ most_of_stmt s c
  stmt_most r s (nothing p) = refl
  stmt_most r s (block p ss) = stmts_most r s ss
  stmt_most r s (var p t x e) = refl
  stmt_most r s (assign p x e) = refl
  stmt_most r s (choice p e a b) = λ i. add_up (test_most r s e i) (max (stmt_most r s a i) (else_most r s b i))
  stmt_most r s (return_ p) = refl
  stmt_most r s (exit_ p) = refl
  stmt_most r s (call p x args) = refl

  else_most : (r : Roots) (s : Scope) (c : MaybeStmt) → most_of_else s (else_with r c) ≡ most_of_else s c
  else_most r s without = refl
  else_most r s (otherwise c) = stmt_most r s c

  pub stmts_most : (r : Roots) (s : Scope) (b : Stmts) → most_of s (stmts_with r b) ≡ most_of s b
  stmts_most r s done = refl
  stmts_most r s (next c b) = ap₂ add_up (stmt_most r s c) (stmts_most r s b)

-- ---- keys

kinds_same : (r : Roots) (ks : List (Expr × List ℕ)) → all_key_kinds (map (key_with r) ks) ≡ all_key_kinds ks
kinds_same r [] = refl
kinds_same r (k ∷ ks) = ap (λ (b : Bool). is_key_kind k.1 && b) (kinds_same r ks)

kind_same : (r : Roots) (ks : List (Expr × List ℕ)) (x : List ℕ) → has_key_kind (map (key_with r) ks) x ≡ has_key_kind ks x
kind_same r [] x = refl
kind_same r (k ∷ ks) x = ap (λ (b : Bool). same_text k.1 x || b) (kind_same r ks x)

prefixes_same : (r : Roots) (ks : List (Expr × List ℕ)) → has_two_prefixes (map (key_with r) ks) ≡ has_two_prefixes ks
prefixes_same r [] = refl
prefixes_same r (k ∷ ks) = ap₂ (λ (a b : Bool). (same_text k.1 (codes "lpm") && a) || b) (kind_same r ks (codes "lpm")) (prefixes_same r ks)

pub matched_same : (r : Roots) (ks : List (Expr × List ℕ)) → ill_matched (map (key_with r) ks) ≡ ill_matched ks
matched_same r ks =
    λ i. not (kinds_same r ks i) || prefixes_same r ks i || (kind_same r ks (codes "lpm") i && kind_same r ks (codes "ternary") i)

pub free_with : (r : Roots) (s : Scope) → HasLength r s → (e : Expr) → IsFine (free_tests s e) → IsFine (free_tests s (expr_with r e))
free_with r s h e f =
    (let g = (expr_replaced r s h e).wherever (as_value (own s e)) f in
    subst (λ k. IsFine (expr_tests s (as_value k) (expr_with r e))) (sym g.kind) g.fine)

pub keys_fine : (r : Roots) (s : Scope) → HasLength r s → (ks : List (Expr × List ℕ)) → IsFine (keys_tests s ks) → IsFine (keys_tests s (map (key_with r) ks))
keys_fine r s h [] f = tt
keys_fine r s h (k ∷ ks) f = (free_with r s h k.0 f.0, keys_fine r s h ks f.1)

-- ---- local declarations

keys_with : (r : Roots) (s : Scope) → HasLength r s → (ks : List (Expr × List ℕ)) → KeysReplaced s ks (map (key_with r) ks)
keys_with r s h [] = tt
keys_with r s h (k ∷ ks) = (expr_replaced r s h k.0, refl, keys_with r s h ks)

module _ (old : Names) (r : Roots) (h : Part) (v : Scope) (has : HasLength r v) where
  action_local : (s t : Scope) (p : ℕ) (a : Action) → OldLocal old (local_action p a) → LocalGrows old h v s t (local_action p a) (local_action p (action_with r a))
  action_local s t p a o = action_in_place old h v s t p a (stmts_with r a.body) o.0 o.1 grows digests
    where
      grows : Keeps v t → ActionGrows old (action_part h) s t a (stmts_with r a.body)
      grows k =
          record {
            fine = λ w e f.
                (let g = subst IsFine (block_alike old (with_params s a.params) (with_params t a.params) w (action_part h) a.body o.2) f in
                old_lemmas.block_replaced (block_replaced r (action_part h) (with_params t a.params) (length_kept r t (with_params t a.params) (with_params_keeps a.at t a.params e) (length_kept r v t k has)) a.body g) (action_part h) g);
          }

      digests : Keeps v t → Alike old s t → IsFine (action_tests (action_part h) s a) → most_of t (stmts_with r a.body) ≡ most_of s a.body
      digests k w f = stmts_most r t a.body ∙ sym (most_alike old s t w a.body o.2)

  start_local : (s t : Scope) (p : ℕ) (y : PTy) (x : List ℕ) (e : Option Expr) → OldLocal old (local_var p y x e) → LocalGrows old h v s t (local_var p y x e) (local_var p y x (option_map (expr_with r) e))
  start_local s t p y x None o = record { fine = λ k w f. subst IsFine (local_alike old s t w h (local_var p y x None) o) f; alike = λ k w f. after_local_alike old s t w (local_var p y x None) o }
  start_local s t p y x (Some e) o = value_replaced old h v s t p y x e (expr_with r e) o.0 o.1 o.2 (λ k. expr_replaced r t (length_kept r v t k has) e)

  pub locals_with_grow : (s t : Scope) (ls : List Local) → OldLocals old ls → LocalsGrow old h v s t ls (map (local_with r) ls)
  locals_with_grow s t [] o = no_local
  locals_with_grow s t (local_action p a ∷ ls) o = other_local (local_action p a) (local_action p (action_with r a)) (action_local s t p a o.0) (locals_with_grow (after_local s (local_action p a)) (after_local t (local_action p (action_with r a))) ls o.1)
  locals_with_grow s t (local_table p b ∷ ls) o =
      other_local (local_table p b) (local_table p (table_with r b)) (keys_replaced old h v s t p b (map (key_with r) b.keys) o.0 (λ k. keys_with r t (length_kept r v t k has) b.keys))
      (locals_with_grow (after_local s (local_table p b)) (after_local t (local_table p b)) ls o.1)
  locals_with_grow s t (local_register p d ∷ ls) o = same_local (local_register p d) o.0 (locals_with_grow (after_local s (local_register p d)) (after_local t (local_register p d)) ls o.1)
  locals_with_grow s t (local_const p y x e ∷ ls) o = same_local (local_const p y x e) o.0 (locals_with_grow (after_local s (local_const p y x e)) (after_local t (local_const p y x e)) ls o.1)
  locals_with_grow s t (local_var p y x e ∷ ls) o = other_local (local_var p y x e) (local_var p y x (option_map (expr_with r) e)) (start_local s t p y x e o.0) (locals_with_grow (after_local s (local_var p y x e)) (after_local t (local_var p y x e)) ls o.1)

-- What own tables and actions hold is the same among the declarations of a linked program's control.
use Rattle.std.proofs.Common.{◌≡◌, ℕ, List, [], ◌∷◌, ◌++◌, map, Bool, cond, not, refl, sym, ap, ap₂, ◌∙◌, subst}
use Rattle.std.specs.List.{AllByRecursion}
use Rattle.rule_tests.specs.Tests.{IsFine}
use Rattle.p4_tree.specs.Tree.{Expr, Local, local_action, local_table, local_register, local_const, local_var}
use Rattle.p4_meaning.specs.Scope.{Roots}
use Rattle.p4_scopes.specs.Kinds.{as_value}
use Rattle.p4_scopes.specs.Scopes.{Scope, own, kinds_in}
use Rattle.p4_scopes.specs.declared.kind.Kind.{Kind}
use Rattle.p4_statement_rules.specs.declared.rule.Part.{Part}
use Rattle.p4_declaration_rules.specs.Tables.{keys_tests}
use Rattle.p4_declaration_rules.specs.Controls.{local_tests, locals_tests, after_local, after_locals}
use Rattle.p4_rule_laws.specs.Old.{Alike}
use Rattle.p4_rule_laws.specs.OldPrograms.{OldKeys, OldLocal, OldLocals}
use Rattle.p4_rule_laws.specs.Kept.{NewLocals}
use Rattle.p4_rule_laws.proofs.AlikeScopes.{kinds_alike}
use Rattle.p4_rule_laws.proofs.AlikeExprs.{own_alike, free_alike}
use Rattle.p4_rule_laws.proofs.AlikePrograms.{local_alike, after_local_alike}
use Rattle.p4_rule_laws.proofs.KeepsLemmas.{after_local_keeps, after_locals_keeps, skip_locals}
use Rattle.own_programs.specs.OwnPrograms.{is_own}
use Rattle.linked_programs.specs.Rewritten.{key_with, local_with}
use Rattle.linked_programs.specs.Gives.{IsLoweredLocal}
use Rattle.linked_rules.specs.Lengths.{HasLength}
use Rattle.linked_rules.specs.Held.{key_kinds, holds, locals_hold}
use Rattle.linked_rules.proofs.LengthFine.{length_kept, expr_replaced}
use Rattle.linked_rules.proofs.ControlsFine.{after_with, locals_fine, new_name, map_both}

-- ---- as they are

plain_keys : (s t : Scope) → Alike is_own s t → (ks : List (Expr × List ℕ)) → OldKeys is_own ks → key_kinds t ks ≡ key_kinds s ks
plain_keys s t a [] o = refl
plain_keys s t a (k ∷ ks) o = ap₂ (λ (x : Kind) (xs : List Kind). x ∷ xs) (sym (own_alike is_own s t a k.0 o.0)) (plain_keys s t a ks o.1)

plain_one : (s t : Scope) → Alike is_own s t → (l : Local) → OldLocal is_own l → holds t l ≡ holds s l
plain_one s t a (local_action p b) o = ap (λ (ks : List Kind). cond (is_own b.name) ((b.name, ks) ∷ []) []) (sym (kinds_alike is_own s t a b.params o.1))
plain_one s t a (local_table p b) o = ap (λ (ks : List Kind). cond (is_own b.name) ((b.name, ks) ∷ []) []) (plain_keys s t a b.keys o.keys)
plain_one s t a (local_register p d) o = refl
plain_one s t a (local_const p y x e) o = refl
plain_one s t a (local_var p y x e) o = refl

pub plain_hold : (s t : Scope) → Alike is_own s t → (ls : List Local) → OldLocals is_own ls → locals_hold t ls ≡ locals_hold s ls
plain_hold s t a [] o = refl
plain_hold s t a (l ∷ ls) o = ap₂ (λ (x y : List (List ℕ × List Kind)). x ++ y) (plain_one s t a l o.0) (plain_hold (after_local s l) (after_local t l) (after_local_alike is_own s t a l o.0) ls o.1)

-- ---- with other reads of the packet's length

keys_hold : (r : Roots) (s t : Scope) → Alike is_own s t → HasLength r t → (ks : List (Expr × List ℕ)) → OldKeys is_own ks → IsFine (keys_tests s ks) → key_kinds t (map (key_with r) ks) ≡ key_kinds s ks
keys_hold r s t a has [] o f = refl
keys_hold r s t a has (k ∷ ks) o f =
    ap₂ (λ (x : Kind) (xs : List Kind). x ∷ xs)
    (((expr_replaced r t has k.0).wherever (as_value (own t k.0)) (subst IsFine (free_alike is_own s t a k.0 o.0) f.0)).kind ∙ sym (own_alike is_own s t a k.0 o.0))
    (keys_hold r s t a has ks o.1 f.1)

one_holds : (r : Roots) (h : Part) (s t : Scope) → Alike is_own s t → HasLength r t → (l : Local) → OldLocal is_own l → IsFine (local_tests h s l) → holds t (local_with r l) ≡ holds s l
one_holds r h s t a has (local_action p b) o f = ap (λ (ks : List Kind). cond (is_own b.name) ((b.name, ks) ∷ []) []) (sym (kinds_alike is_own s t a b.params o.1))
one_holds r h s t a has (local_table p b) o f = ap (λ (ks : List Kind). cond (is_own b.name) ((b.name, ks) ∷ []) []) (keys_hold r s t a has b.keys o.keys f.1.1.1.0)
one_holds r h s t a has (local_register p d) o f = refl
one_holds r h s t a has (local_const p y x e) o f = refl
one_holds r h s t a has (local_var p y x e) o f = refl

own_hold : (r : Roots) (h : Part) (s t : Scope) → Alike is_own s t → HasLength r t → (ls : List Local) → OldLocals is_own ls → IsFine (locals_tests h s ls) → locals_hold t (map (local_with r) ls) ≡ locals_hold s ls
own_hold r h s t a has [] o f = refl
own_hold r h s t a has (l ∷ ls) o f =
    ap₂ (λ (x y : List (List ℕ × List Kind)). x ++ y) (one_holds r h s t a has l o.0 f.0)
    (ap (λ (z : Scope). locals_hold z (map (local_with r) ls)) (after_with r t l)
    ∙ own_hold r h (after_local s l) (after_local t l) (after_local_alike is_own s t a l o.0)
    (length_kept r t (after_local t l) (after_local_keeps h t l (subst IsFine (local_alike is_own s t a h l o.0) f.0)) has) ls o.1 f.1)

-- ---- behind the lowering's declarations, which are not the program's own

none_own : (r : Roots) (t : Scope) (l : Local) → IsLoweredLocal l → holds t (local_with r l) ≡ []
none_own r t (local_action p a) m = ap (λ (b : Bool). cond (not b) ((a.name, kinds_in t a.params) ∷ []) []) m
none_own r t (local_table p b) m = ap (λ (c : Bool). cond (not c) ((b.name, key_kinds t (map (key_with r) b.keys)) ∷ []) []) m
none_own r t (local_var p y x e) m = refl
none_own r t (local_register p d) m = absurd m
none_own r t (local_const p y x e) m = absurd m

behind_those : (r : Roots) (t : Scope) (a ms : List Local) → AllByRecursion IsLoweredLocal a → locals_hold t (map (local_with r) a ++ ms) ≡ locals_hold (after_locals t (map (local_with r) a)) ms
behind_those r t [] ms m = refl
behind_those r t (l ∷ a) ms m = ap (λ (x : List (List ℕ × List Kind)). x ++ locals_hold (after_local t (local_with r l)) (map (local_with r) a ++ ms)) (none_own r t l m.0) ∙ behind_those r (after_local t (local_with r l)) a ms m.1

all_new : (r : Roots) (a : List Local) → AllByRecursion IsLoweredLocal a → NewLocals is_own (map (local_with r) a)
all_new r [] m = tt
all_new r (l ∷ a) m = (new_name r l m.0, all_new r a m.1)

pub more_hold :
    (r : Roots) (h : Part) (s t : Scope) → Alike is_own s t → HasLength r t → (a ls : List Local) → AllByRecursion IsLoweredLocal a → IsFine (locals_tests h t a) → OldLocals is_own ls → IsFine (locals_tests h s ls)
    → locals_hold t (map (local_with r) (a ++ ls)) ≡ locals_hold s ls
more_hold r h s t al has a ls m fine o f =
    let made = map (local_with r) a in
    let keeps = after_locals_keeps h t made (locals_fine r h t has a fine) in
    ap (locals_hold t) (map_both r a ls) ∙ (behind_those r t a (map (local_with r) ls) m
    ∙ own_hold r h s (after_locals t made) (skip_locals is_own s t al made (all_new r a m)) (length_kept r t (after_locals t made) keeps has) ls o f)

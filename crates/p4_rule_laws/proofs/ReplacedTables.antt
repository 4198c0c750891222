-- A table is fine with other keys, which are matched in the same ways.
use Rattle.std.proofs.Common.{◌≡◌, ℕ, List, [], ◌∷◌, Bool, not, ◌&&◌, ◌||◌, refl, sym, ap₂, ◌∙◌, subst, codes}
use Rattle.lex_text.specs.Names.{same_text}
use Rattle.rule_tests.specs.Tests.{IsFine}
use Rattle.p4_tree.specs.Tree.{Expr, Table, local_table}
use Rattle.p4_scopes.specs.Scopes.{Scope}
use Rattle.p4_statement_rules.specs.declared.rule.Part.{Part}
use Rattle.p4_declaration_rules.specs.Tables.{keys_tests, is_key_kind, all_key_kinds, has_key_kind, has_two_prefixes, ill_matched, table_tests}
use Rattle.p4_rule_laws.specs.Old.{Names}
use Rattle.p4_rule_laws.specs.OldPrograms.{OldTable}
use Rattle.p4_rule_laws.specs.Kept.{Keeps}
use Rattle.p4_rule_laws.specs.ReplacedPrograms.{KeysReplaced}
use Rattle.p4_rule_laws.specs.Growth.{with_keys, LocalGrows}
use Rattle.p4_rule_laws.proofs.AlikePrograms.{local_alike, after_local_alike}
use Rattle.p4_rule_laws.proofs.ReplacedLemmas.{free_replaced}

module _ (s : Scope) where
  kinds_same : (ks ls : List (Expr × List ℕ)) → KeysReplaced s ks ls → all_key_kinds ls ≡ all_key_kinds ks
  kinds_same [] [] r = refl
  kinds_same [] (l ∷ ls) r = absurd r
  kinds_same (k ∷ ks) [] r = absurd r
  kinds_same (k ∷ ks) (l ∷ ls) r = ap₂ (λ (x : List ℕ) (b : Bool). is_key_kind x && b) (sym r.1) (kinds_same ks ls r.2)

  kind_same : (ks ls : List (Expr × List ℕ)) → KeysReplaced s ks ls → (x : List ℕ) → has_key_kind ls x ≡ has_key_kind ks x
  kind_same [] [] r x = refl
  kind_same [] (l ∷ ls) r x = absurd r
  kind_same (k ∷ ks) [] r x = absurd r
  kind_same (k ∷ ks) (l ∷ ls) r x = ap₂ (λ (y : List ℕ) (b : Bool). same_text y x || b) (sym r.1) (kind_same ks ls r.2 x)

  prefixes_same : (ks ls : List (Expr × List ℕ)) → KeysReplaced s ks ls → has_two_prefixes ls ≡ has_two_prefixes ks
  prefixes_same [] [] r = refl
  prefixes_same [] (l ∷ ls) r = absurd r
  prefixes_same (k ∷ ks) [] r = absurd r
  prefixes_same (k ∷ ks) (l ∷ ls) r = let e = r.1 in let f = kind_same ks ls r.2 (codes "lpm") in let g = prefixes_same ks ls r.2 in cc

  matched_same : (ks ls : List (Expr × List ℕ)) → KeysReplaced s ks ls → ill_matched ls ≡ ill_matched ks
  matched_same ks ls r = λ i. not (kinds_same ks ls r i) || prefixes_same ks ls r i || (kind_same ks ls r (codes "lpm") i && kind_same ks ls r (codes "ternary") i)

  keys_fine : (ks ls : List (Expr × List ℕ)) → KeysReplaced s ks ls → IsFine (keys_tests s ks) → IsFine (keys_tests s ls)
  keys_fine [] [] r f = tt
  keys_fine [] (l ∷ ls) r f = absurd r
  keys_fine (k ∷ ks) [] r f = absurd r
  keys_fine (k ∷ ks) (l ∷ ls) r f = (free_replaced s k.0 l.0 r.0 f.0, keys_fine ks ls r.2 f.1)

  table_replaced : (b : Table) (ks : List (Expr × List ℕ)) → KeysReplaced s b.keys ks → IsFine (table_tests s b) → IsFine (table_tests s (with_keys b ks))
  table_replaced b ks r f = (f.0, (matched_same b.keys ks r ∙ f.1.0, (keys_fine b.keys ks r f.1.1.0, f.1.1.1)))

pub keys_replaced :
    (old : Names) (h : Part) (v s t : Scope) (p : ℕ) (b : Table) (ks : List (Expr × List ℕ)) → OldTable old b → (Keeps v t → KeysReplaced t b.keys ks)
    → LocalGrows old h v s t (local_table p b) (local_table p (with_keys b ks))
keys_replaced old h v s t p b ks o r =
    record {
      fine = λ k w f. (f.0, table_replaced t b ks (r k) (subst IsFine (local_alike old s t w h (local_table p b) o) f).1);
      alike = λ k w f. after_local_alike old s t w (local_table p b) o;
    }

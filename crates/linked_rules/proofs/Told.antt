-- Ingress stands once, and egress: what is told more is told once.
use Rattle.std.proofs.Common.{◌≡◌, ℕ, ◌≤◌, List, [], ◌∷◌, false, refl, sym, ap, ap₂, ◌∙◌, subst, arith}
use Rattle.rule_tests.specs.Tests.{IsFine}
use Rattle.p4_tree.specs.Tree.{Stmts, Control, Top, constant, typedef, header_type, struct_type, register, parser, control}
use Rattle.p4_meaning.specs.Parts.{named_in}
use Rattle.p4_scopes.specs.Scopes.{Scope, part, is_missing, add_up}
use Rattle.p4_statement_rules.specs.declared.rule.Part.{Part}
use Rattle.p4_statement_rules.specs.declared.rule.Part.TheVariants as place
use Rattle.p4_declaration_rules.specs.Controls.{in_control, part_in, after_top, top_tests, tops_tests, most_of_body, most_of_top, most_of_tops}
use Rattle.p4_declaration_rules.proofs.FirstsLemmas.{is_new}
use Rattle.p4_rule_laws.proofs.KeepsLemmas.{after_top_keeps}
use Rattle.p4_typing_laws.proofs.CountedNames.{self_stands}
use Rattle.own_programs.proofs.Names.{broken}
use Rattle.linked_programs.specs.Linked.{Place, is_ingress, is_egress, is_deparser, is_other, place_in}
use Rattle.linked_rules.specs.Digests.{told_more, told}
use Rattle.linked_rules.proofs.DigestsGrow.{within}
use Rattle.linked_hosts.proofs.ReadyByRules.{ingress_name, egress_name}

-- a name in sight is no further control's
taken : (main : List (List ℕ)) (s : Scope) (q : ℕ) (c : Control) → IsFine (top_tests main s (control q c)) → (n : List ℕ) → n ≡ c.name → is_missing (s (n ∷ [])) ≡ false → ⊥
taken main s q c f n e m = broken (sym (is_new main s (control q c) f) ∙ ap (λ (y : List ℕ). is_missing (s (y ∷ []))) (sym e) ∙ m)

stays : (main : List (List ℕ)) (s : Scope) (y : Top) → IsFine (top_tests main s y) → (n : List ℕ) → is_missing (s (n ∷ [])) ≡ false → is_missing (after_top s y (n ∷ [])) ≡ false
stays main s y f n m = ap is_missing ((after_top_keeps main s y f).kept n [] m) ∙ m

stands : (s : Scope) (c : Control) (q : ℕ) (n : List ℕ) → n ≡ c.name → is_missing (after_top s (control q c) (n ∷ [])) ≡ false
stands s c q n e = ap (λ (y : List ℕ). is_missing (after_top s (control q c) (y ∷ []))) e ∙ ap is_missing (self_stands s c.name part)

module _ (main : List (List ℕ)) where
  -- no ingress further on
  no_ingress : (e x : ℕ) (ts : List Top) (s : Scope) → IsFine (tops_tests main s ts) → is_missing (s (named_in main 2 ∷ [])) ≡ false → told main e x s ts ≡ told main 0 x s ts
  no_ingress e x [] s f m = refl
  no_ingress e x (constant q k y z ∷ ts) s f m = ap (add_up (most_of_top main s (constant q k y z))) (no_ingress e x ts _ f.1 (stays main s (constant q k y z) f.0 (named_in main 2) m))
  no_ingress e x (typedef q k y ∷ ts) s f m = ap (add_up (most_of_top main s (typedef q k y))) (no_ingress e x ts _ f.1 (stays main s (typedef q k y) f.0 (named_in main 2) m))
  no_ingress e x (header_type q y fs ∷ ts) s f m = ap (add_up (most_of_top main s (header_type q y fs))) (no_ingress e x ts _ f.1 (stays main s (header_type q y fs) f.0 (named_in main 2) m))
  no_ingress e x (struct_type q y fs ∷ ts) s f m = ap (add_up (most_of_top main s (struct_type q y fs))) (no_ingress e x ts _ f.1 (stays main s (struct_type q y fs) f.0 (named_in main 2) m))
  no_ingress e x (register q d ∷ ts) s f m = ap (add_up (most_of_top main s (register q d))) (no_ingress e x ts _ f.1 (stays main s (register q d) f.0 (named_in main 2) m))
  no_ingress e x (parser q d ∷ ts) s f m = ap (add_up (most_of_top main s (parser q d))) (no_ingress e x ts _ f.1 (stays main s (parser q d) f.0 (named_in main 2) m))
  no_ingress e x (control q c ∷ ts) s f m =
      ap₂ (λ (a b : ℕ). add_up (add_up a (most_of_top main s (control q c))) b) (go (place_in main c.name) refl) (no_ingress e x ts _ f.1 (stays main s (control q c) f.0 (named_in main 2) m))
    where
      go : (k : Place) → place_in main c.name ≡ k → told_more e x k ≡ told_more 0 x k
      go is_ingress h = absurd (taken main s q c f.0 (named_in main 2) (ingress_name main c.name h) m)
      go is_egress h = refl
      go is_deparser h = refl
      go is_other h = refl

  no_egress : (e x : ℕ) (ts : List Top) (s : Scope) → IsFine (tops_tests main s ts) → is_missing (s (named_in main 3 ∷ [])) ≡ false → told main e x s ts ≡ told main e 0 s ts
  no_egress e x [] s f m = refl
  no_egress e x (constant q k y z ∷ ts) s f m = ap (add_up (most_of_top main s (constant q k y z))) (no_egress e x ts _ f.1 (stays main s (constant q k y z) f.0 (named_in main 3) m))
  no_egress e x (typedef q k y ∷ ts) s f m = ap (add_up (most_of_top main s (typedef q k y))) (no_egress e x ts _ f.1 (stays main s (typedef q k y) f.0 (named_in main 3) m))
  no_egress e x (header_type q y fs ∷ ts) s f m = ap (add_up (most_of_top main s (header_type q y fs))) (no_egress e x ts _ f.1 (stays main s (header_type q y fs) f.0 (named_in main 3) m))
  no_egress e x (struct_type q y fs ∷ ts) s f m = ap (add_up (most_of_top main s (struct_type q y fs))) (no_egress e x ts _ f.1 (stays main s (struct_type q y fs) f.0 (named_in main 3) m))
  no_egress e x (register q d ∷ ts) s f m = ap (add_up (most_of_top main s (register q d))) (no_egress e x ts _ f.1 (stays main s (register q d) f.0 (named_in main 3) m))
  no_egress e x (parser q d ∷ ts) s f m = ap (add_up (most_of_top main s (parser q d))) (no_egress e x ts _ f.1 (stays main s (parser q d) f.0 (named_in main 3) m))
  no_egress e x (control q c ∷ ts) s f m =
      ap₂ (λ (a b : ℕ). add_up (add_up a (most_of_top main s (control q c))) b) (go (place_in main c.name) refl) (no_egress e x ts _ f.1 (stays main s (control q c) f.0 (named_in main 3) m))
    where
      go : (k : Place) → place_in main c.name ≡ k → told_more e x k ≡ told_more e 0 k
      go is_ingress h = refl
      go is_egress h = absurd (taken main s q c f.0 (named_in main 3) (egress_name main c.name h) m)
      go is_deparser h = refl
      go is_other h = refl

  keeps_low : (e a b c : ℕ) → b ≤ add_up e c → add_up a b ≤ add_up e (add_up a c)
  keeps_low e a b c h = omega (arith, h)

  here_low : (e m b : ℕ) → add_up (add_up e m) b ≤ add_up e (add_up (add_up 0 m) b)
  here_low e m b = omega arith

  one_ingress : (e x : ℕ) (ts : List Top) (s : Scope) → IsFine (tops_tests main s ts) → told main e x s ts ≤ add_up e (told main 0 x s ts)
  one_ingress e x [] s f = omega arith
  one_ingress e x (constant q k y z ∷ ts) s f = keeps_low e _ _ _ (one_ingress e x ts _ f.1)
  one_ingress e x (typedef q k y ∷ ts) s f = keeps_low e _ _ _ (one_ingress e x ts _ f.1)
  one_ingress e x (header_type q y fs ∷ ts) s f = keeps_low e _ _ _ (one_ingress e x ts _ f.1)
  one_ingress e x (struct_type q y fs ∷ ts) s f = keeps_low e _ _ _ (one_ingress e x ts _ f.1)
  one_ingress e x (register q d ∷ ts) s f = keeps_low e _ _ _ (one_ingress e x ts _ f.1)
  one_ingress e x (parser q d ∷ ts) s f = keeps_low e _ _ _ (one_ingress e x ts _ f.1)
  one_ingress e x (control q c ∷ ts) s f = go (place_in main c.name) refl (one_ingress e x ts _ f.1)
    where
      go : (k : Place) → place_in main c.name ≡ k → told main e x (after_top s (control q c)) ts ≤ add_up e (told main 0 x (after_top s (control q c)) ts)
          → add_up (add_up (told_more e x k) (most_of_top main s (control q c))) (told main e x (after_top s (control q c)) ts) ≤ add_up e (add_up (add_up (told_more 0 x k) (most_of_top main s (control q c))) (told main 0 x (after_top s (control q c)) ts))
      go is_ingress h rest =
          subst (λ (b : ℕ). add_up (add_up e (most_of_top main s (control q c))) b ≤ add_up e (add_up (add_up 0 (most_of_top main s (control q c))) (told main 0 x (after_top s (control q c)) ts)))
          (sym (no_ingress e x ts _ f.1 (stands s c q (named_in main 2) (ingress_name main c.name h)))) (here_low e (most_of_top main s (control q c)) (told main 0 x (after_top s (control q c)) ts))
      go is_egress h rest = keeps_low e (add_up x (most_of_top main s (control q c))) _ _ rest
      go is_deparser h rest = keeps_low e (add_up 0 (most_of_top main s (control q c))) _ _ rest
      go is_other h rest = keeps_low e (add_up 0 (most_of_top main s (control q c))) _ _ rest

  one_egress : (e x : ℕ) (ts : List Top) (s : Scope) → IsFine (tops_tests main s ts) → told main e x s ts ≤ add_up x (told main e 0 s ts)
  one_egress e x [] s f = omega arith
  one_egress e x (constant q k y z ∷ ts) s f = keeps_low x _ _ _ (one_egress e x ts _ f.1)
  one_egress e x (typedef q k y ∷ ts) s f = keeps_low x _ _ _ (one_egress e x ts _ f.1)
  one_egress e x (header_type q y fs ∷ ts) s f = keeps_low x _ _ _ (one_egress e x ts _ f.1)
  one_egress e x (struct_type q y fs ∷ ts) s f = keeps_low x _ _ _ (one_egress e x ts _ f.1)
  one_egress e x (register q d ∷ ts) s f = keeps_low x _ _ _ (one_egress e x ts _ f.1)
  one_egress e x (parser q d ∷ ts) s f = keeps_low x _ _ _ (one_egress e x ts _ f.1)
  one_egress e x (control q c ∷ ts) s f = go (place_in main c.name) refl (one_egress e x ts _ f.1)
    where
      go : (k : Place) → place_in main c.name ≡ k → told main e x (after_top s (control q c)) ts ≤ add_up x (told main e 0 (after_top s (control q c)) ts)
          → add_up (add_up (told_more e x k) (most_of_top main s (control q c))) (told main e x (after_top s (control q c)) ts) ≤ add_up x (add_up (add_up (told_more e 0 k) (most_of_top main s (control q c))) (told main e 0 (after_top s (control q c)) ts))
      go is_egress h rest =
          subst (λ (b : ℕ). add_up (add_up x (most_of_top main s (control q c))) b ≤ add_up x (add_up (add_up 0 (most_of_top main s (control q c))) (told main e 0 (after_top s (control q c)) ts)))
          (sym (no_egress e x ts _ f.1 (stands s c q (named_in main 3) (egress_name main c.name h)))) (here_low x (most_of_top main s (control q c)) (told main e 0 (after_top s (control q c)) ts))
      go is_ingress h rest = keeps_low x (add_up e (most_of_top main s (control q c))) _ _ rest
      go is_deparser h rest = keeps_low x (add_up 0 (most_of_top main s (control q c))) _ _ rest
      go is_other h rest = keeps_low x (add_up 0 (most_of_top main s (control q c))) _ _ rest

  -- nothing more
  part_within : (h : Part) (s : Scope) (ss : Stmts) → add_up 0 (most_of_body h s ss) ≡ most_of_body h s ss
  part_within place.Apply s ss = within s ss
  part_within _ s ss = refl

  no_more : (k : Place) → told_more 0 0 k ≡ 0
  no_more is_ingress = refl
  no_more is_egress = refl
  no_more is_deparser = refl
  no_more is_other = refl

  told_none : (ts : List Top) (s : Scope) → told main 0 0 s ts ≡ most_of_tops main s ts
  told_none [] s = refl
  told_none (constant q k y z ∷ ts) s = ap (add_up 0) (told_none ts _)
  told_none (typedef q k y ∷ ts) s = ap (add_up 0) (told_none ts _)
  told_none (header_type q y fs ∷ ts) s = ap (add_up 0) (told_none ts _)
  told_none (struct_type q y fs ∷ ts) s = ap (add_up 0) (told_none ts _)
  told_none (register q d ∷ ts) s = ap (add_up 0) (told_none ts _)
  told_none (parser q d ∷ ts) s = ap (add_up 0) (told_none ts _)
  told_none (control q c ∷ ts) s =
      ap₂ add_up (ap (λ (a : ℕ). add_up a (most_of_top main s (control q c))) (no_more (place_in main c.name)) ∙ part_within (part_in main c.name) (in_control s c) c.apply) (told_none ts _)

  pub told_once : (e x : ℕ) (ts : List Top) (s : Scope) → IsFine (tops_tests main s ts) → told main e x s ts ≤ add_up e (add_up x (most_of_tops main s ts))
  told_once e x ts s f = joined (told main e x s ts) (told main 0 x s ts) (told main 0 0 s ts) (most_of_tops main s ts) (one_ingress e x ts s f) (one_egress 0 x ts s f) (told_none ts s)
    where
      joined : (a b c d : ℕ) → a ≤ add_up e b → b ≤ add_up x c → c ≡ d → a ≤ add_up e (add_up x d)
      joined a b c d h k is = subst (λ (n : ℕ). a ≤ add_up e (add_up x n)) is (omega (arith, h, k))

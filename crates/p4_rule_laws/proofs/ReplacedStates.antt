-- States of a parser are fine with other expressions, each of which may stand in the place of the given one: they have the
-- same names and lead to the same states.
use Rattle.std.proofs.Common.{◌≡◌, ℕ, List, [], ◌∷◌, Bool, true, false, cond, not, ◌&&◌, ◌||◌, refl, sym, ap, ap₂, ◌∙◌, subst, codes}
use Rattle.rule_tests.specs.Tests.{IsFine, fine, test, both}
use Rattle.p4_tree.specs.Tree.{Expr, Keyset, any, only, masked, Case, Transition, ParserState}
use Rattle.p4_parser_states.specs.Cycles.{case_targets, targets, leads, state_names, reaches_by, reaches}
use Rattle.p4_scopes.specs.Kinds.{as_value}
use Rattle.p4_scopes.specs.Scopes.{Scope, is_missing, own}
use Rattle.p4_scopes.specs.declared.kind.Kind.{Kind}
use Rattle.p4_statement_rules.specs.Expressions.{all_free}
use Rattle.p4_statement_rules.specs.Calls.{as_many}
use Rattle.p4_statement_rules.specs.declared.rule.ProgramRule.TheVariants.{KindDiffers}
use Rattle.p4_statement_rules.specs.declared.rule.Part.TheVariants as place
use Rattle.p4_declaration_rules.specs.Parsers.{is_state_name, with_state, onto_tests, keyset_tests, each_keyset, keysets_tests, cases_tests, transition_tests, with_states, states_names, start_tests, states_tests}
use Rattle.p4_rule_laws.specs.Old.{Names}
use Rattle.p4_rule_laws.specs.Kept.{Keeps}
use Rattle.p4_rule_laws.specs.Replaced.{ExprsReplaced}
use Rattle.p4_rule_laws.specs.ReplacedPrograms.{is_any, KeysetsReplaced, CasesReplaced, TransitionReplaced, same_way, in_select, StatesReplaced}
use Rattle.p4_rule_laws.specs.Growth.{StatesGrow}
use Rattle.p4_rule_laws.proofs.KeepsLemmas.{with_states_keeps}
use Rattle.p4_rule_laws.proofs.ReplacedLemmas.{all_replaced, block_replaced}
use Rattle.p4_rule_laws.proofs.EnteredLemmas.{onto_name, onto_fine}

-- ---- how a state goes on

-- `default` or `_` alone
abbrev is_alone : List Keyset → Bool
is_alone (k ∷ []) = is_any k
is_alone _ = false

keysets_are : (p : ℕ) (s : Scope) (es : List Expr) (ks : List Keyset) → keysets_tests p s es ks ≡ cond (is_alone ks) fine (both (test p KindDiffers (not (as_many es ks))) (each_keyset s es ks))
keysets_are p s es [] = refl
keysets_are p s es (any q ∷ []) = refl
keysets_are p s es (only q e ∷ []) = refl
keysets_are p s es (masked q e m ∷ []) = refl
keysets_are p s es (any q ∷ k ∷ ks) = refl
keysets_are p s es (only q e ∷ k ∷ ks) = refl
keysets_are p s es (masked q e m ∷ k ∷ ks) = refl

module _ (s : Scope) where
  alone_same : (ks ls : List Keyset) → KeysetsReplaced s ks ls → is_alone ks ≡ is_alone ls
  alone_same [] [] r = refl
  alone_same [] (l ∷ ls) r = absurd r
  alone_same (k ∷ ks) [] r = absurd r
  alone_same (k ∷ []) (l ∷ []) r = r.0.default
  alone_same (k ∷ []) (l ∷ m ∷ ls) r = absurd r.1
  alone_same (k ∷ j ∷ ks) (l ∷ []) r = absurd r.1
  alone_same (k ∷ j ∷ ks) (l ∷ m ∷ ls) r = refl

  many_same : (es fs : List Expr) (ks ls : List Keyset) → ExprsReplaced s es fs → KeysetsReplaced s ks ls → as_many fs ls ≡ as_many es ks
  many_same [] [] [] [] r g = refl
  many_same [] [] [] (l ∷ ls) r g = absurd g
  many_same [] [] (k ∷ ks) [] r g = absurd g
  many_same [] [] (k ∷ ks) (l ∷ ls) r g = refl
  many_same [] (f ∷ fs) ks ls r g = absurd r
  many_same (e ∷ es) [] ks ls r g = absurd r
  many_same (e ∷ es) (f ∷ fs) [] [] r g = refl
  many_same (e ∷ es) (f ∷ fs) [] (l ∷ ls) r g = absurd g
  many_same (e ∷ es) (f ∷ fs) (k ∷ ks) [] r g = absurd g
  many_same (e ∷ es) (f ∷ fs) (k ∷ ks) (l ∷ ls) r g = many_same es fs ks ls r.1 g.1

  each_replaced : (es fs : List Expr) (ks ls : List Keyset) → ExprsReplaced s es fs → KeysetsReplaced s ks ls → IsFine (all_free s es) → IsFine (each_keyset s es ks) → IsFine (each_keyset s fs ls)
  each_replaced [] [] ks ls r g a f = tt
  each_replaced [] (y ∷ fs) ks ls r g a f = absurd r
  each_replaced (e ∷ es) [] ks ls r g a f = absurd r
  each_replaced (e ∷ es) (y ∷ fs) [] [] r g a f = tt
  each_replaced (e ∷ es) (y ∷ fs) [] (l ∷ ls) r g a f = absurd g
  each_replaced (e ∷ es) (y ∷ fs) (k ∷ ks) [] r g a f = absurd g
  each_replaced (e ∷ es) (y ∷ fs) (k ∷ ks) (l ∷ ls) r g a f =
      let P : Kind → Type 0 = λ w. IsFine (keyset_tests s (as_value w) l) in
      (subst P (sym (r.0.wherever (as_value (own s e)) a.0).kind) (g.0.wherever (as_value (own s e)) f.0), each_replaced es fs ks ls r.1 g.1 a.1 f.1)

  keysets_replaced : (p : ℕ) (es fs : List Expr) (ks ls : List Keyset) → ExprsReplaced s es fs → KeysetsReplaced s ks ls → IsFine (all_free s es) → IsFine (keysets_tests p s es ks) → IsFine (keysets_tests p s fs ls)
  keysets_replaced p es fs ks ls r g a f = subst IsFine (sym (keysets_are p s fs ls)) (by (is_alone ks) (is_alone ls) (alone_same ks ls g) (subst IsFine (keysets_are p s es ks) f))
    where
      by : (b c : Bool) → b ≡ c → IsFine (cond b fine (both (test p KindDiffers (not (as_many es ks))) (each_keyset s es ks))) → IsFine (cond c fine (both (test p KindDiffers (not (as_many fs ls))) (each_keyset s fs ls)))
      by true true e h = tt
      by true false e h = absurd (let c : true ≡ false = e in cc)
      by false true e h = tt
      by false false e h = (ap not (many_same es fs ks ls r g) ∙ h.0, each_replaced es fs ks ls r g a h.1)

  module _ (k : List ℕ → Bool) where
    cases_replaced : (p : ℕ) (es fs : List Expr) (cs ds : List Case) → ExprsReplaced s es fs → CasesReplaced s cs ds → IsFine (all_free s es) → IsFine (cases_tests k p s es cs) → IsFine (cases_tests k p s fs ds)
    cases_replaced p es fs [] [] r g a f = tt
    cases_replaced p es fs [] (d ∷ ds) r g a f = absurd g
    cases_replaced p es fs (c ∷ cs) [] r g a f = absurd g
    cases_replaced p es fs (c ∷ cs) (d ∷ ds) r g a f =
        let P : List ℕ → Type 0 = λ x. IsFine (onto_tests p (k x) (s (x ∷ []))) in
        ((keysets_replaced p es fs c.keys d.keys r g.0 a f.0.0, subst P g.1 f.0.1), cases_replaced p es fs cs ds r g.2 a f.1)

    transition_replaced : {t u : Transition} → TransitionReplaced s t u → IsFine (transition_tests k s t) → IsFine (transition_tests k s u)
    transition_replaced same_way f = f
    transition_replaced (in_select {es = es} {fs = fs} {cs = cs} {ds = ds} p r g) f = (all_replaced s es fs r f.0, cases_replaced p es fs cs ds r g f.0 f.1)

  -- ---- which states lead where

  case_targets_same : (cs ds : List Case) → CasesReplaced s cs ds → case_targets ds ≡ case_targets cs
  case_targets_same [] [] g = refl
  case_targets_same [] (d ∷ ds) g = absurd g
  case_targets_same (c ∷ cs) [] g = absurd g
  case_targets_same (c ∷ cs) (d ∷ ds) g = ap₂ (λ (x : List ℕ) (xs : List (List ℕ)). x ∷ xs) (sym g.1) (case_targets_same cs ds g.2)

  targets_same : {t u : Transition} → TransitionReplaced s t u → targets u ≡ targets t
  targets_same same_way = refl
  targets_same (in_select {cs = cs} {ds = ds} p r g) = case_targets_same cs ds g

  leads_same : (xs ys : List ParserState) → state_names xs ≡ state_names ys → StatesReplaced s xs ys → (a b : List ℕ) → leads ys a b ≡ leads xs a b
  leads_same [] [] e r a b = refl
  leads_same [] (y ∷ ys) e r a b = absurd r
  leads_same (x ∷ xs) [] e r a b = absurd r
  leads_same (x ∷ xs) (y ∷ ys) e r a b =
      let n : x.name ≡ y.name = cc in
      let m : state_names xs ≡ state_names ys = cc in
      let f = targets_same r.1 in
      let g = leads_same xs ys m r.2 a b in
      cc

-- ---- names: with these what is in sight and which names are free is told by a list of names

abbrev with_names : Scope → List (List ℕ) → Scope
with_names t [] = t
with_names t (n ∷ ns) = with_names (with_state t n) ns

abbrev AreFree : Scope → List (List ℕ) → Type 0
AreFree t [] = Unit {0}
AreFree t (n ∷ ns) = (not (is_missing (t (n ∷ []))) ≡ false) × AreFree (with_state t n) ns

scope_is : (t : Scope) (xs : List ParserState) → with_states t xs ≡ with_names t (state_names xs)
scope_is t [] = refl
scope_is t (x ∷ xs) = scope_is (with_state t x.name) xs

are_free : (t : Scope) (xs : List ParserState) → IsFine (states_names t xs) → AreFree t (state_names xs)
are_free t [] f = tt
are_free t (x ∷ xs) f = (f.0, are_free (with_state t x.name) xs f.1)

free_fine : (t : Scope) (xs : List ParserState) → AreFree t (state_names xs) → IsFine (states_names t xs)
free_fine t [] f = tt
free_fine t (x ∷ xs) f = (f.0, free_fine (with_state t x.name) xs f.1)

-- ---- the states

module _ (t : Scope) (xs ys : List ParserState) (same : state_names xs ≡ state_names ys) where
  scope_same : with_states t xs ≡ with_states t ys
  scope_same = scope_is t xs ∙ (ap (with_names t) same ∙ sym (scope_is t ys))

  names_replaced : IsFine (states_names t xs) → IsFine (states_names t ys)
  names_replaced f = free_fine t ys (subst (AreFree t) same (are_free t xs f))

  start_replaced : (p : ℕ) → IsFine (start_tests p (with_states t xs) xs) → IsFine (start_tests p (with_states t ys) ys)
  start_replaced p f =
      onto_fine p (is_state_name (state_names ys) (codes "start")) (with_states t ys (codes "start" ∷ []))
      (ap (λ (ns : List (List ℕ)). is_state_name ns (codes "start")) (sym same) ∙ onto_name p (is_state_name (state_names xs) (codes "start")) (with_states t xs (codes "start" ∷ [])) f)

  module _ (r : StatesReplaced (with_states t xs) xs ys) where
    by_same : (ns : List (List ℕ)) (a b : List ℕ) → reaches_by ys ns a b ≡ reaches_by xs ns a b
    by_same [] a b = leads_same (with_states t xs) xs ys same r a b
    by_same (n ∷ ns) a b = λ i. by_same ns a b i || (by_same ns a n i && by_same ns n b i)

    reaches_same : (a b : List ℕ) → reaches ys a b ≡ reaches xs a b
    reaches_same a b = ap (λ (ns : List (List ℕ)). reaches_by ys ns a b) (sym same) ∙ by_same (state_names xs) a b

    -- some of the states
    each_state : (us vs : List ParserState) → state_names us ≡ state_names vs → StatesReplaced (with_states t xs) us vs → IsFine (states_tests xs (with_states t xs) us) → IsFine (states_tests ys (with_states t xs) vs)
    each_state [] [] e g f = tt
    each_state [] (v ∷ vs) e g f = absurd g
    each_state (u ∷ us) [] e g f = absurd g
    each_state (u ∷ us) (v ∷ vs) e g f =
        let n : u.name ≡ v.name = cc in
        let m : state_names us ≡ state_names vs = cc in
        let P : List ℕ → Type 0 = λ x. reaches ys x x ≡ false in
        let Q : List (List ℕ) → Type 0 = λ ns. IsFine (transition_tests (is_state_name ns) (with_states t xs) v.next) in (
          (subst P n (reaches_same u.name u.name ∙ f.0.0), (block_replaced g.0 place.State f.0.1.0, subst Q same (transition_replaced (with_states t xs) (is_state_name (state_names xs)) g.1 f.0.1.1))),
          each_state us vs m g.2 f.1,
        )

    states_replaced : IsFine (states_tests xs (with_states t xs) xs) → IsFine (states_tests ys (with_states t ys) ys)
    states_replaced f = subst (λ (u : Scope). IsFine (states_tests ys u ys)) scope_same (each_state xs ys same r f)

pub replaced_states :
    (old : Names) (s t : Scope) (sts xs ys : List ParserState) → StatesGrow old s t sts xs → state_names xs ≡ state_names ys → (Keeps t (with_states t xs) → StatesReplaced (with_states t xs) xs ys) → StatesGrow old s t sts ys
replaced_states old s t sts xs ys g same r =
    record {
      names = λ a f. names_replaced t xs ys same (g.names a f);
      start = λ p a f. start_replaced t xs ys same p (g.start p a f);
      states = λ a n f. states_replaced t xs ys same (r (with_states_keeps t xs (g.names a n))) (g.states a n f);
    }
